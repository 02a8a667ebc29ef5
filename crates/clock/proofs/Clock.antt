-- Ticks come to one. Assumes nothing.
use Prim.Native.Nat.{ℕ, suc, ◌+◌, ◌^◌, ◌<◌, ◌≤◌}
use mathlib.Core.Path.{◌≡◌, refl, sym, ap, ◌∙◌}
use mathlib.Core.Logic.{◌⊎◌, inl, inr}
use mathlib.Core.Bool.{Bool, true, false}
use mathlib.Core.List.{List, [], ◌∷◌}
use native.Mathlib.Omega.{arith}
use borrow.Author.Tests.{eq-eqb, ltb-true, ltb-false}
use lib.Bits.{bit_or, or_zero_l}
use lib.Dec.{ltb}
use lib.ListN.{get_or}
use Rattle.laws.proofs.Tables.{and_both}
use Rattle.numbers.specs.Refusal.{bad_record, bad_area}
use Rattle.area.specs.Area.{area_sound}
use Rattle.device.specs.State.{sweep_of}
use Rattle.device.specs.Time.{step_of}
use Rattle.stream.specs.Calls.{ask}
use Rattle.endpoint.specs.State.{record_obeys}
use Rattle.endpoint.specs.Outcome.{Outcome, refused}
use Rattle.endpoint.specs.Calls.{tick_call}
use Rattle.endpoint.specs.declared.Record.{Record}
use Rattle.promise.specs.Rulebook.{ticking}
use Rattle.promise.specs.Calls.{call_of}
use Rattle.promise.specs.Kept.{Kept}
use Rattle.promise.specs.Ticks.{step_at}
use Rattle.promise.specs.Heartbeats.{ticks_call, ticks_time}
use Rattle.promise.proofs.Kept.{calls_keep}
use Rattle.clock.specs.Clock.{Typed, last_reading, closed_by, ticks_close, all_answer, AsOne, SlowClock}
use Rattle.clock.proofs.Two.{closing, given, tick_is, both_state, both_area, both_closing, none_given}

-- ---- readings of 32 bits
-- a step brings the counter to the reading, or round to it
abbrev Brings : ℕ → ℕ → ℕ → Type 0
Brings last s x = (last + s ≡ x) ⊎ (last + s ≡ x + 2 ^ 32)

brings : (last x : ℕ) → last < 2 ^ 32 → x < 2 ^ 32 → Brings last (step_of x last) x
brings last x l h = go (ltb x last) refl
  where
    on : last ≤ x → last + step_of x last ≡ x
    on e = omega arith

    round : x < last → last + step_of x last ≡ x + 2 ^ 32
    round e = omega arith

    go : (b : Bool) → ltb x last ≡ b → Brings last (step_of x last) x
    go true e = inr (round (ltb-true x last e))
    go false e = inl (on (ltb-false x last e))

-- and no other step below 2^32 does
step_on_lem : (last x s : ℕ) → s < 2 ^ 32 → last + s ≡ x → step_of x last ≡ s
step_on_lem last x s h e = omega arith

step_round : (last x s : ℕ) → s < 2 ^ 32 → last + s ≡ x + 2 ^ 32 → step_of x last ≡ s
step_round last x s h e = omega arith

step_none : (last : ℕ) → step_of last last ≡ 0
step_none last = omega arith

-- steps that stay below 2^32 add up
step_both : (last x y : ℕ) → last < 2 ^ 32 → x < 2 ^ 32 → y < 2 ^ 32 → step_of x last + step_of y x < 2 ^ 32 → step_of y last ≡ step_of x last + step_of y x
step_both last x y l h k = go (step_of x last) (step_of y x) (brings last x l h) (brings x y h k)
  where
    go : (a b : ℕ) → Brings last a x → Brings x b y → a + b < 2 ^ 32 → step_of y last ≡ a + b
    go a b (inl e) (inl f) s = step_on_lem last y (a + b) s (omega arith)
    go a b (inl e) (inr f) s = step_round last y (a + b) s (omega arith)
    go a b (inr e) (inl f) s = step_round last y (a + b) s (omega arith)
    go a b (inr e) (inr f) s = absurd (omega arith)

reading_last : (last : ℕ) (xs : List ℕ) → last < 2 ^ 32 → ((i : ℕ) → get_or xs i 0 < 2 ^ 32) → last_reading last xs < 2 ^ 32
unfolding last_reading
reading_last last [] l h = l
reading_last last (x ∷ xs) l h = reading_last x xs (h 0) (λ i. h (suc i))

time_step : (last : ℕ) (xs : List ℕ) → last < 2 ^ 32 → ((i : ℕ) → get_or xs i 0 < 2 ^ 32) → ticks_time last xs < 2 ^ 31 → step_of (last_reading last xs) last ≡ ticks_time last xs
unfolding last_reading ticks_time
time_step last [] l h t = step_none last
time_step last (x ∷ xs) l h t =
    let e = time_step x xs (h 0) (λ i. h (suc i)) (omega arith) in
    step_both last x (last_reading x xs) l (h 0) (reading_last x xs (h 0) (λ i. h (suc i))) (omega arith) ∙ ap (λ (s : ℕ). step_of x last + s) e

-- ---- refused: each tick hands back record and area
module _ (r : Record) (area : List ℕ) (n : ℕ) (no : (x : ℕ) → tick_call r area x ≡ refused n r area []) where
  pub none_left : (xs : List ℕ) → ticks_call r area xs ≡ (r, area)
  unfolding ticks_call
  none_left [] = refl
  none_left (x ∷ xs) = rw (no x) (none_left xs)

  pub none_closed : (xs : List ℕ) → ticks_close r area xs ≡ 0
  unfolding ticks_close
  none_closed [] = refl
  none_closed (x ∷ xs) = rw (no x) (or_zero_l _ ∙ none_closed xs)

  none_answers : (xs : List ℕ) → all_answer n r area xs ≡ true
  unfolding all_answer
  none_answers [] = refl
  none_answers (x ∷ xs) = rw (no x) (and_both _ _ (eq-eqb n n refl) (none_answers xs))

  none_as_one : (xs : List ℕ) (y : ℕ) → AsOne r area xs (tick_call r area y)
  none_as_one xs y = rw (no y) (record { left = none_left xs; closes = none_closed xs; answers = none_answers xs })

-- ---- not refused: ticks do what a tick with the sum of their steps gives
pub next_kept : (r : Record) (area : List ℕ) (x : ℕ) → Kept r area → Kept (tick_call r area x).state (tick_call r area x).area
unfolding call_of
next_kept r area x k = calls_keep.calling r area (ask (ticking x)) tt k

-- a tick in front
comes_more : (r : Record) (area : List ℕ) (x y a b : ℕ) (xs : List ℕ) → tick_call r area x ≡ given r area x a
    → AsOne (given r area x a).state (given r area x a).area xs (given (given r area x a).state (given r area x a).area y b)
    → AsOne r area (x ∷ xs) (given r area y (a + b))
unfolding ticks_call ticks_close all_answer
comes_more r area x y a b xs e c =
    record {
      left =
          rw e
          (c.left ∙ ap (λ (s : Record). (s, (given (given r area x a).state (given r area x a).area y b).area)) (both_state r area x y a b)
          ∙ ap (λ (l : List ℕ). ((given r area y (a + b)).state, l)) (both_area r area x y a b));
      closes = rw e (ap (bit_or (closing r a)) c.closes ∙ both_closing r area x y a b);
      answers = rw e c.answers;
    }

comes : (r : Record) (area xs : List ℕ) → Kept r area → r.device.reading < 2 ^ 32 → ((i : ℕ) → get_or xs i 0 < 2 ^ 32)
    → ticks_time r.device.reading xs < 2 ^ 31
    → AsOne r area xs (given r area (last_reading r.device.reading xs) (ticks_time r.device.reading xs))
unfolding ticks_call ticks_close all_answer ticks_time last_reading sweep_of
comes r area [] k l h t =
    let e = none_given r area k in
    record {
      left = sym (ap (λ (o : Outcome). (o.state, o.area)) e);
      closes = sym (ap closed_by e);
      answers = refl;
    }
comes r area (x ∷ xs) k l h t =
    let a = step_at r x in
    let e = tick_is r area x a k.obeys k.sound refl (omega arith) in
    comes_more r area x (last_reading x xs) a (ticks_time x xs) xs e
    (comes (given r area x a).state (given r area x a).area xs (rw e at (next_kept r area x k)) (h 0) (λ i. h (suc i)) (omega arith))

as_one_lem : (r : Record) (area xs : List ℕ) → Typed r area xs → ticks_time r.device.reading xs < 2 ^ 31
    → AsOne r area xs (tick_call r area (last_reading r.device.reading xs))
unfolding tick_call
as_one_lem r area xs w t = go (record_obeys r) refl (area_sound r.held area) refl
  where
    y : ℕ
    y = last_reading r.device.reading xs

    go : (o : Bool) → record_obeys r ≡ o → (s : Bool) → area_sound r.held area ≡ s → AsOne r area xs (tick_call r area y)
    go false o s f = none_as_one r area bad_record (λ x. rw o) xs y
    go true o false f = none_as_one r area bad_area (λ x. rw (o, f)) xs y
    go true o true f =
        let k : Kept r area = record { obeys = o; sound = f; eight = w.eight; counts = w.counts; octets = w.octets } in
        let e = tick_is r area y (ticks_time r.device.reading xs) o f (time_step r.device.reading xs w.reading w.each t) t in
        rw e (comes r area xs k w.reading w.each t)

-- the limit is the theorem's own, so that a wider one is refused by a number
pub slow_clock : SlowClock
slow_clock = record { as_one = λ r area xs w t. as_one_lem r area xs w (omega arith) }
