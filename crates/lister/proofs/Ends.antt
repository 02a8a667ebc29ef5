-- A piece listed, with or without its last line. Assumes nothing.
use Prim.Native.Nat.{ℕ, ◌+◌, ◌-◌, ◌*◌, ◌≤◌}
use mathlib.Core.Path.{◌≡◌, sym, ap, ◌∙◌}
use mathlib.Core.List.{List, append-nil}
use mathlib.Core.Bool.{Bool, true, false}
use native.Mathlib.Omega.{arith}
use lib.ListN.{length, length-drop}
use Rattle.frame.specs.Limits.{greatest_size}
use Rattle.frame.specs.Decide.{decide}
use Rattle.frame.proofs.Ways.{deciding}
use Rattle.lines.specs.Scaffold.{line_room, PutsLine}
use Rattle.lines.proofs.Putting.{puts_then, puts_length}
use Rattle.split.specs.Split.{sound_messages}
use Rattle.lister.specs.Listing.{bytes_of, lines_of, last_by, last_line, listed_bytes, unlisted}
use Rattle.lister.specs.Pieces.{over_by, over, piece_text, ListsPiece}
use Rattle.lister.specs.Scaffold.{fault_by, stopped_by, Lists}
use Rattle.std.specs.Prelude.{Option, None}
use Rattle.numbers.specs.declared.Fault.{Fault}
use Rattle.lister.specs.declared.Listed.{Listed}
use Rattle.lister.proofs.Cuts.{pieces_laws}
use Rattle.lister.proofs.Stops.{stopped_over, stopped_last, stopped_short}

module _ {s before mid : List ℕ} {offset : ℕ} {r : Listed} (l : Lists (sound_messages s) s offset before 0 mid r)
    (g : r.fault ≡ fault_by (decide (unlisted s))) where
  left_bytes : length s - r.used ≡ length (unlisted s)
  unfolding unlisted listed_bytes
  left_bytes = omega (arith, length-drop (bytes_of (sound_messages s)) s, l.used)

  pub left_short : r.fault ≡ None → length s - r.used ≤ greatest_size
  left_short z =
      let u = stopped_short (unlisted s) (pieces_laws.all s) (sym g ∙ z) in
      omega (arith, left_bytes, deciding.short (unlisted s) u)

  over_left : (end : Bool) {b : Bool} → over_by end (stopped_by r.fault) ≡ b → over end s ≡ b
  unfolding over
  over_left end h = sym (stopped_over (unlisted s) end) ∙ ap (λ (f : Option Fault). over_by end (stopped_by f)) (sym g) ∙ h

  last_left : last_by (stopped_by r.fault) (offset + r.used) (length s - r.used) ≡ last_line (offset + listed_bytes s) (unlisted s)
  unfolding last_line listed_bytes
  last_left = rw (g, left_bytes, l.used) (stopped_last (unlisted s) (pieces_laws.all s) _ _)

  module _ (room : 4 * length s + line_room ≤ length before) where
    pub piece_over : (end : Bool) {after : List ℕ} {p : ℕ} → over_by end (stopped_by r.fault) ≡ true
        → PutsLine (last_by (stopped_by r.fault) (offset + r.used) (length s - r.used)) mid r.put after p
        → ListsPiece end offset s before after (record { used = r.used; put = p; over = true })
    unfolding piece_text listed_bytes
    piece_over end h q =
        let o = over_left end h in
        record {
          used = l.used;
          within = l.within;
          over = sym o;
          puts = rw o (puts_then l.puts (rw last_left at q.puts));
          room = omega (arith, q.room, l.room, l.within, puts_length q.puts, puts_length l.puts);
        }

    pub piece_on : (end : Bool) → over_by end (stopped_by r.fault) ≡ false → ListsPiece end offset s before mid (record { used = r.used; put = r.put; over = false })
    unfolding piece_text listed_bytes
    piece_on end h =
        let o = over_left end h in
        record {
          used = l.used;
          within = l.within;
          over = sym o;
          puts = rw (o, append-nil (lines_of offset (sound_messages s))) l.puts;
          room = omega (arith, l.room, l.within, puts_length l.puts);
        }
