-- One turn of the listing, as a law on lists. Assumes nothing.
use Prim.Native.Nat.{ℕ, ◌+◌, ◌-◌, ◌≤◌, ◌<◌}
use mathlib.Core.Path.{◌≡◌, refl, sym, ap, ◌∙◌, subst}
use mathlib.Core.List.{List, ◌++◌}
use mathlib.Core.Bool.{Bool, true, false, true≢false}
use native.Mathlib.Omega.{arith}
use native.Mathlib.Nat.{zero-add}
use lib.Dec.{eqb}
use lib.ListN.{length, take, drop, length-drop, length-append}
use lib.Seq.{sets, length-sets, take_at, take-add, length-take-le}
use borrow.Author.Tests.{eqb-false}
use Rattle.std.specs.Prelude.{IfSome, IsOk, IsErr, OnErr, Ok, Err, Some, ◌≢◌}
use Rattle.std.specs.Result.{IsOkUnless, result_unwrap_or}
use Rattle.std.specs.declared.result.Result.{Result}
use Rattle.std.specs.Io.KnownBytes.{IsAtEnd}
use Rattle.std.specs.declared.option.Option.{Option}
use Rattle.laws.proofs.Parts.{drop_take}
use Rattle.laws.proofs.Stores.{sets_front}
use Rattle.frame.specs.Limits.{greatest_size}
use Rattle.lister.specs.Listing.{listed_bytes, unlisted}
use Rattle.lister.specs.Pieces.{over, piece_text, ListsPiece}
use Rattle.lister.specs.declared.Piece.{Piece}
use Rattle.lister.proofs.Cuts.{end_over, listed_within, pieces_laws}
use Rattle.turns.specs.Turns.{Goes, turn_text, Turned, TurnedWhole}
use Rattle.turns.specs.Scaffold.{ReadsMore, HandsOver}
use Rattle.turns.specs.declared.Held.{Held}
use Rattle.turns.specs.declared.Stopped.{Stopped}
use Rattle.turns.specs.declared.Stopped.TheVariants.{Unread, Unsaid}
use Rattle.turns.proofs.Outcomes.{outcome_of, unread_none, read_fine, unread_failed, unsaid_failed, all_fine, next_is, over_is, no_limit, on_ok, on_err}

-- what was put at the front of the output
put_front : (out text : List ℕ) → length text ≤ length out → take (length text) (sets out 0 text) ≡ text
put_front out text h = rw (sets_front text out h) (take_at text (drop (length text) out) (length text) refl)

-- a piece that does not end the listing
on_some : (got : ℕ) (s : List ℕ) → over (eqb got 0) s ≡ false → (eqb got 0 ≡ false)
on_some got s o = go (eqb got 0) o
  where
    go : (b : Bool) → over b s ≡ false → b ≡ false
    go true o = absurd (true≢false (sym (end_over s) ∙ o))
    go false o = refl

module _ (l₀ l₁ : Option (List ℕ)) (sure : Bool) (x₀ x₁ : Option (List ℕ)) (m₀ m₁ : Option ℕ) (i₀ i₁ i₂ o₀ o₁ : List ℕ) (offset held : ℕ) (few : held ≤ length i₀)
    (c : Result ℕ Stopped) (n : ℕ) (z : n ≡ result_unwrap_or c 0) (p : Piece) (u : Result (Unit {0}) Stopped)
    (q : ReadsMore l₀ l₁ sure held i₀ i₁ c) (unread : IsOkUnless c Unread)
    (l : ListsPiece (eqb n 0) offset (take (held + n) i₁) o₀ o₁ p)
    (h : HandsOver x₀ x₁ m₀ m₁ (take p.put o₁) u) (unsaid : IsOkUnless u Unsaid)
    (m : i₂ ≡ take (held + n - p.used) (drop p.used i₁) ++ drop (held + n - p.used) i₁) where
  came : List ℕ
  came = take n (drop held i₁)

  fits : held + n ≤ length i₁
  fits = rw z q.fits

  came_length : length came ≡ n
  unfolding came
  came_length = length-take-le n (drop held i₁) (omega (arith, length-drop held i₁, fits))

  joins : take (held + n) i₁ ≡ take held i₀ ++ came
  unfolding came
  joins = take-add held n i₁ ∙ ap (λ (x : List ℕ). x ++ take n (drop held i₁)) q.same

  kept : take (held + n - p.used) i₂ ≡ unlisted (take (held + n) i₁)
  unfolding unlisted
  kept =
      let a = take (held + n - p.used) (drop p.used i₁) in
      let k : length a ≡ held + n - p.used = length-take-le (held + n - p.used) (drop p.used i₁) (omega (arith, length-drop p.used i₁, fits)) in
      rw (m, ← l.used) (take_at a _ (held + n - p.used) k ∙ sym (drop_take p.used (held + n) i₁))

  next : Held
  next = record { offset = offset + p.used; held = held + n - p.used }

  goes : over (eqb n 0) (take (held + n) i₁) ≡ false → Goes offset (take held i₀) came i₂ next
  unfolding unlisted next
  goes o =
      let e = on_some n (take (held + n) i₁) o in
      let nz = eqb-false n 0 e in
      let t = length-take-le (held + n) i₁ fits in
      record {
        some = omega (arith, came_length);
        on = rw (← joins) (ap (λ (b : Bool). over b (take (held + n) i₁)) (sym e) ∙ o);
        next = rw (← joins, l.used);
        count = rw (← joins, ← l.used) (sym (length-drop p.used (take (held + n) i₁) ∙ omega arith));
        kept = rw (← joins) kept;
      }

  -- the text that is handed over
  put_text : take p.put o₁ ≡ piece_text (eqb (length came) 0) offset (take held i₀ ++ came)
  put_text =
      let t = piece_text (eqb n 0) offset (take (held + n) i₁) in
      rw (came_length, ← joins, l.puts.text, l.puts.next, zero-add)
      (put_front o₀ t (omega (arith, l.room, l.puts.next, ap length l.puts.text, length-sets o₀ 0 t)))

  put_length : length (piece_text (eqb (length came) 0) offset (take held i₀ ++ came)) ≡ p.put
  put_length = rw (← put_text) (length-take-le p.put o₁ l.room)

  outcome : Result (Option Held) Stopped
  outcome = outcome_of c u p.over next

  turned_all : IsOk u → h.taken ≡ length (turn_text offset (take held i₀) came)
  turned_all o = on_ok u o h.all ∙ ap length put_text

  turned_full : IsErr u → IfSome m₀ (λ n. IfSome x₀ (λ t. n < length t + length (turn_text offset (take held i₀) came)))
  turned_full o = rw put_text at (on_err u o h.full)

  turned_goes : (x : Held) → outcome ≡ Ok (Some x) → Goes offset (take held i₀) came i₂ x
  unfolding outcome
  turned_goes x e =
      let w = next_is c u p.over next x e in
      rw w.1 (goes (sym l.over ∙ w.0))

  turned_end : outcome ≢ Err Unread → length came ≡ 0 → IsAtEnd l₁
  unfolding outcome
  turned_end o e = on_ok c (read_fine c u p.over next unread o) q.end (sym z ∙ sym came_length ∙ e)

  -- of the outcome itself
  turned_here : Turned l₀ l₁ sure x₀ x₁ m₀ m₁ offset (take held i₀) i₂ o₁ outcome
  unfolding came outcome next
  turned_here =
      record {
        piece = came;
        taken = h.taken;
        put = rw put_length put_text;
        goes = turned_goes;
        last = λ e. rw (came_length, ← joins) (sym l.over ∙ over_is c u p.over next e);
        counted = λ x. no_limit c u p.over next x unread unsaid;
        read = rw z q.read;
        end = turned_end;
        none = λ e. came_length ∙ z ∙ unread_none c u p.over next unsaid e;
        told = λ s e. unread_failed c u p.over next unsaid e (q.told s);
        takes = rw (← put_text) h.takes;
        all = λ e. turned_all (all_fine c u p.over next e);
        full = λ e. turned_full (unsaid_failed c u p.over next unread e);
        same = h.same;
      }

  pub turned : (r : Result (Option Held) Stopped) → outcome_of c u p.over (record { offset = offset + p.used; held = held + n - p.used }) ≡ r
      → Turned l₀ l₁ sure x₀ x₁ m₀ m₁ offset (take held i₀) i₂ o₁ r
  unfolding outcome next
  turned r i = subst (λ (r : Result (Option Held) Stopped). Turned l₀ l₁ sure x₀ x₁ m₀ m₁ offset (take held i₀) i₂ o₁ r) i turned_here

  -- where a text that is refused is not taken at all
  pub turned_whole : OnErr u (IfSome m₀ (λ n. h.taken ≡ 0)) → (r : Result (Option Held) Stopped)
      → outcome_of c u p.over (record { offset = offset + p.used; held = held + n - p.used }) ≡ r
      → TurnedWhole l₀ l₁ sure x₀ x₁ m₀ m₁ offset (take held i₀) i₂ o₁ r
  unfolding outcome next turned_here
  turned_whole k r i =
      subst (λ (r : Result (Option Held) Stopped). TurnedWhole l₀ l₁ sure x₀ x₁ m₀ m₁ offset (take held i₀) i₂ o₁ r) i
      (record { turned = turned_here; unsaid = λ e. on_err u (unsaid_failed c u p.over next unread e) k })

-- few bytes are held, and more bytes than before are read
pub goes_on : {offset : ℕ} {held piece input : List ℕ} {r : Held} → Goes offset held piece input r
    → (r.held ≤ greatest_size) × (offset + length held < r.offset + r.held)
unfolding unlisted
goes_on {offset} {held} {piece} {input} {r} g =
    let s = held ++ piece in
    omega (arith, g.some, g.next, g.count, pieces_laws.short s g.on, length-append held piece, length-drop (listed_bytes s) s, listed_within s)
