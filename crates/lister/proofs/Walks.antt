-- The walk over the messages at the front of some bytes. Assumes nothing.
use Prim.Native.Nat.{ℕ, ◌+◌, ◌-◌, ◌*◌, ◌≤◌}
use mathlib.Core.Path.{◌≡◌, refl, sym, ap, ◌∙◌}
use mathlib.Core.List.{List, [], ◌∷◌, ◌++◌, append_assoc, append-nil}
use native.Mathlib.Omega.{arith}
use native.Mathlib.Nat.{add-zero, add_assoc}
use lib.ListN.{length, get_or, take, drop, length-drop}
use lib.Seq.{length-take-le, drop-drop}
use Rattle.frame.specs.Decide.{decide}
use Rattle.frame.specs.declared.Decision.{Decision}
use Rattle.frame.specs.declared.Decision.TheVariants.{Undecided, Faulty, Sound}
use Rattle.frame.proofs.Ways.{none, way_back}
use Rattle.frame.proofs.Sounds.{sound_at, type_take, count_take, size_take}
use Rattle.reader.specs.Numbers.{message_numbers, reading_numbers}
use Rattle.reader.specs.Read.{read_of}
use Rattle.reader.specs.declared.Message.{Message}
use Rattle.std.specs.Prelude.{Option, None, Ok, Err}
use Rattle.numbers.specs.declared.Fault.{Fault}
use Rattle.numbers.specs.declared.Refusal.{Refusal}
use Rattle.lines.specs.Text.{message_line}
use Rattle.lines.specs.Scaffold.{Puts, PutsLine}
use Rattle.lines.proofs.Putting.{puts_none, puts_then}
use Rattle.split.specs.Split.{sound_messages}
use Rattle.split.proofs.Splits.{sound_none_lem, sound_then_lem}
use Rattle.lister.specs.Listing.{bytes_of, line_of, lines_of, listed_bytes, unlisted}
use Rattle.lister.specs.Scaffold.{sound_first, first_of, fault_of, fault_by, Lists}
use Rattle.lister.proofs.Readings.{read_sound, read_told, read_size, read_refused}

-- no sound message stands at the front of s
abbrev pub Unsound : List ℕ → Type 0
Unsound s = (n : ℕ) → decide s ≡ Sound n → ⊥

pub nothing_unsound : (s : List ℕ) → length s ≤ 0 → Unsound s
nothing_unsound s h n e = let w = sound_at s n e in omega (arith, w.low, w.high)

pub nothing_fault : (s : List ℕ) → length s ≤ 0 → None ≡ fault_by (decide s)
unfolding fault_by
nothing_fault s h = sym (ap fault_by (way_back s Undecided (none (omega arith))))

first_none : (d : Decision) (s : List ℕ) → ((n : ℕ) → d ≡ Sound n → ⊥) → sound_first d s ≡ []
unfolding sound_first
first_none Undecided s u = refl
first_none (Faulty f n) s u = refl
first_none (Sound n) s u = absurd (u n refl)

pub bytes_append : (a b : List (List ℕ)) → bytes_of (a ++ b) ≡ bytes_of a + bytes_of b
unfolding bytes_of
bytes_append [] b = omega arith
bytes_append (m ∷ a) b = rw (bytes_append a b) (sym (add_assoc (length m) (bytes_of a) (bytes_of b)))

pub lines_append : (offset : ℕ) (a b : List (List ℕ)) → lines_of offset (a ++ b) ≡ lines_of offset a ++ lines_of (offset + bytes_of a) b
unfolding lines_of bytes_of
lines_append offset [] b = rw add-zero
lines_append offset (m ∷ a) b =
    rw (lines_append (offset + length m) a b, add_assoc offset (length m) (bytes_of a), append_assoc)

-- the front messages, `done`, are listed; those behind them are left
pub record Walked (s : List ℕ) (offset : ℕ) (before : List ℕ) (used put : ℕ) (out : List ℕ) : Type 0 where
  pub done : List (List ℕ)
  pub left : sound_messages s ≡ done ++ sound_messages (drop used s)
  pub bytes : used ≡ bytes_of done
  pub within : used ≤ length s
  pub puts : Puts (lines_of offset done) before 0 out put
  pub room : put ≤ 4 * used

pub walked_none : (s : List ℕ) (offset : ℕ) (out : List ℕ) → Walked s offset out 0 0 out
unfolding bytes_of lines_of
walked_none s offset out =
    record { done = []; left = refl; bytes = refl; within = omega arith; puts = puts_none out 0; room = omega arith }

pub first_unsound : (s : List ℕ) → first_of s ≡ [] → Unsound s
unfolding first_of sound_first
first_unsound s h n e =
    let q : take n s ∷ [] ≡ [] = rw e at h in
    omega (arith, ap length q)

module _ {s before out out' rest : List ℕ} {offset used put n next : ℕ} (w : Walked s offset before used put out)
    (e : rest ≡ drop used s) (d : decide rest ≡ Sound n) (l : PutsLine (line_of (offset + used) (take n rest)) out put out' next) where
  pub walked_more : Walked s offset before (used + n) next out'
  unfolding bytes_of lines_of
  walked_more =
      let x = sound_at rest n d in
      let m = take n rest in
      let b : bytes_of (m ∷ []) ≡ n = add-zero (length m) ∙ length-take-le n rest x.high in
      let behind : drop n rest ≡ drop (used + n) s = ap (drop n) e ∙ drop-drop n used s in
      let t : sound_messages (drop used s) ≡ m ∷ sound_messages (drop (used + n) s) =
      ap sound_messages (sym e) ∙ sound_then_lem rest n d
      ∙ ap (λ (ms : List (List ℕ)). m ∷ ms) (ap sound_messages behind) in
      record {
        done = w.done ++ (m ∷ []);
        left = w.left ∙ ap (λ (ms : List (List ℕ)). w.done ++ ms) t ∙ sym (append_assoc w.done (m ∷ []) (sound_messages (drop (used + n) s)));
        bytes = omega (arith, bytes_append w.done (m ∷ []), w.bytes, b);
        within = omega (arith, x.high, ap length e, length-drop used s, w.within);
        puts = rw (lines_append offset w.done (m ∷ []), append-nil (line_of (offset + bytes_of w.done) m)) (puts_then w.puts (rw w.bytes at l.puts));
        room = omega (arith, l.room, x.low, w.room);
      }

-- nothing sound is left, and what is left has the fault f
pub walked_all : {s before out : List ℕ} {offset used put : ℕ} {f : Option Fault} → Walked s offset before used put out → Unsound (drop used s) → f ≡ fault_by (decide (drop used s))
    → Lists (sound_messages s) s offset before 0 out (record { used = used; put = put; fault = f }) × (f ≡ fault_by (decide (unlisted s)))
unfolding unlisted listed_bytes
walked_all {s} {before} {out} {offset} {used} {put} {f} w u g =
    let e : sound_messages s ≡ w.done = w.left ∙ rw (sound_none_lem (drop used s) u) (append-nil w.done) in
    let b : used ≡ bytes_of (sound_messages s) = w.bytes ∙ ap bytes_of (sym e) in (
      record {
        used = b;
        within = w.within;
        puts = rw e w.puts;
        room = omega (arith, w.room);
      },
      g ∙ ap (λ (k : ℕ). fault_by (decide (drop k s))) b,
    )

-- the walk stops where the first message left is not sound
pub walked_stop : {s before out out' rest : List ℕ} {offset used put : ℕ} {f : Option Fault} → Walked s offset before used put out
    → rest ≡ drop used s → first_of rest ≡ [] → f ≡ fault_by (decide rest) → out' ≡ out
    → Lists (sound_messages s) s offset before 0 out' (record { used = used; put = put; fault = f }) × (f ≡ fault_by (decide (unlisted s)))
walked_stop {s} {before} {out} {out'} {rest} {offset} {used} {put} {f} w e u g o =
    rw o (walked_all w (rw e at (first_unsound rest u)) (rw e at g))

module _ (s : List ℕ) where
  pub first_refused : (r : Refusal) → reading_numbers (Err r) ≡ read_of s → (first_of s ≡ []) × (fault_of r ≡ fault_by (decide s))
  unfolding first_of
  first_refused r e = let w = read_refused s r e in (first_none (decide s) s w.0, w.1)

  -- a line was put for the message that the reader told
  pub first_listed : (m : Message) (n offset : ℕ) (out : List ℕ) (at : ℕ) → reading_numbers (Ok (record { message = m; length = n })) ≡ read_of s
      → {kind count r : ℕ} {after : List ℕ} → kind ≡ get_or (message_numbers m) 0 0 → count ≡ get_or (message_numbers m) 1 0
      → PutsLine (message_line offset kind count (n - 1)) out at after r
      → (decide s ≡ Sound n) × PutsLine (line_of offset (take n s)) out at after r
  unfolding line_of
  first_listed m n offset out at e {kind} {count} {r} {after} k c p =
      let t = read_told s m n e in
      let z = read_size s m n e in
      let low = z.0 in
      let line : message_line offset kind count (n - 1) ≡ line_of offset (take n s) =
      rw (type_take n s low, count_take n s low, size_take n s low, k ∙ t.kind, c ∙ t.count, z.2) in
      (read_sound s m n e, rw (← line) p)
