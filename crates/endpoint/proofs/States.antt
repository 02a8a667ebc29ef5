-- Laws of the record, of the lent area, and of the ways of the host's calls. Assumes nothing.
use Rattle.std.specs.Prelude.{Option, Some, None}
use Prim.Native.Nat.{ℕ, zero, suc, ◌+◌, ◌<◌, ◌≤◌}
use mathlib.Core.Path.{◌≡◌, refl, sym, ap, ◌∙◌}
use mathlib.Core.Bool.{Bool, true, false, true≢false}
use mathlib.Core.List.{List, [], ◌∷◌, ◌++◌, map, append-nil}
use native.Mathlib.Nat.{not-suc-le-zero, le_of_suc-le-suc}
use native.Mathlib.Numerals.{add-one}
use native.Mathlib.Omega.{arith}
use lib.ListN.{length, take, drop, set, get_or, drop_of_length-le}
use lib.Seq.{take_all}
use borrow.Author.Tests.{eq-eqb}
use Rattle.laws.specs.Lists.{any}
use Rattle.laws.proofs.Conds.{and_left, either}
use Rattle.octets.specs.Zeros.{zeros}
use Rattle.area.specs.Area.{area_bytes, area_sound, part_at, part_bytes, part_cleared, closed_cleared, held_kept}
use Rattle.area.proofs.Lies.{area_long}
use Rattle.connection.specs.State.{closed, live_at, is_not_open}
use Rattle.connection.specs.Obeys.{connection_obeys}
use Rattle.connection.specs.declared.Connection.{Connection}
use Rattle.device.specs.State.{Opened, open_of, lives_in}
use Rattle.device.specs.Obeys.{device_obeys}
use Rattle.device.specs.Time.{tick_of}
use Rattle.device.specs.declared.Device.{Device}
use Rattle.device.proofs.Times.{back_same}
use Rattle.device.proofs.Keeps.{at_obeys}
use Rattle.endpoint.specs.State.{state_of, record_obeys, closed_state}
use Rattle.numbers.specs.Refusal.{table_full, clock_back, refusal_numbers}
use Rattle.numbers.specs.declared.Refusal.{Refusal}
use Rattle.numbers.specs.declared.Refusal.TheVariants as refusals
use Rattle.answers.specs.Numbers.{answer_numbers, opening_numbers}
use Rattle.std.specs.Option.{ok_or}
use Rattle.endpoint.specs.Outcome.{Outcome, outcome}
use Rattle.endpoint.specs.Calls.{clear_answer, cleared_area, opened_by, open_call, close_call, ticked_by, tick_call}
use Rattle.endpoint.specs.declared.Record.{Record}

fill_suc : {A B : Type 0} (f : A → B) (d : A) (i : ℕ) (l : List A) (o : List B) → i < length l → length l ≡ length o
    → set (map f (take i l) ++ drop i o) i (f (get_or l i d)) ≡ map f (take (suc i) l) ++ drop (suc i) o
fill_suc f d i [] o h e = absurd (not-suc-le-zero h)
fill_suc f d i (x ∷ l) [] h e = absurd (omega arith)
fill_suc f d zero (x ∷ l) (y ∷ o) h e = refl
fill_suc {A} {B} f d (suc i) (x ∷ l) (y ∷ o) h e = ap (λ (t : List B). f x ∷ t) (fill_suc f d i l o (le_of_suc-le-suc h) (omega arith))

-- a loop of n turns that maps l into another list: i turns are done, and the list is o
pub record Filling {A B : Type 0} (f : A → B) (n i : ℕ) (l : List A) (first o : List B) : Type 0 where
  pub low : i ≤ n
  pub sizes : (length l ≡ n) × (length first ≡ n)
  pub is : o ≡ map f (take i l) ++ drop i first

pub filling_none : {A B : Type 0} {f : A → B} {n : ℕ} {l : List A} {o : List B} → length l ≡ n → length o ≡ n → Filling f n 0 l o o
filling_none a b = record { low = omega arith; sizes = (a, b); is = refl }

pub filling_more : {A B : Type 0} {f : A → B} {n i : ℕ} {l : List A} {first o : List B} {v : B} (d : A) → Filling f n i l first o → v ≡ f (get_or l i d) → i < n
    → Filling f n (i + 1) l first (set o i v)
filling_more {A} {B} {f} {n} {i} {l} {first} d m p h =
    record {
      low = omega arith;
      sizes = m.sizes;
      is = rw (add-one, p, m.is) (fill_suc f d i l first (omega (arith, m.sizes)) (omega (arith, m.sizes)));
    }

pub filling_all : {A B : Type 0} {f : A → B} {n i : ℕ} {l : List A} {first o : List B} → Filling f n i l first o → n ≤ i → o ≡ map f l
filling_all {A} {B} {f} {n} {i} {l} {first} m h =
    let a : length l ≤ i = omega (arith, m.sizes) in
    let b : length first ≤ i = omega (arith, m.sizes) in
    m.is ∙ rw (take_all i l a, drop_of_length-le first b, append-nil)

-- a record that obeys has a device that does, and a connection that does at any number
pub device_obeys_lem : (r : Record) → record_obeys r ≡ true → device_obeys r.device ≡ true
unfolding record_obeys
device_obeys_lem r o = and_left (device_obeys r.device) _ o

pub connection_obeys_lem : (r : Record) (n : ℕ) → record_obeys r ≡ true → connection_obeys (get_or r.device.connections n closed) ≡ true
connection_obeys_lem r n o = at_obeys r.device n (device_obeys_lem r o)

-- an open connection is one of the n
pub live_low : (cs : List Connection) (i n : ℕ) → live_at cs i ≡ true → length cs ≡ n → i < n
unfolding live_at
live_low [] i n e h = absurd (true≢false (sym e))
live_low (c ∷ cs) zero n e h = omega arith
live_low (c ∷ cs) (suc i) n e h = rw (← h) (suc_lt (live_low cs i (length cs) e refl))
  where
    suc_lt : {a b : ℕ} → a < b → suc a < suc b
    suc_lt h = omega arith

pub clear_done : (area next : List ℕ) → length area ≡ area_bytes → next ≡ zeros (length area)
    → (◌≡◌ {A = List ℕ} (0 ∷ []) (clear_answer area)) × (next ≡ cleared_area area)
unfolding clear_answer cleared_area
clear_done area next h q = simp (eq-eqb (length area) area_bytes h) (refl, q ∙ ap zeros h)

-- ---- a tick
-- d is the device behind it
module _ (r : Record) (area : List ℕ) (reading : ℕ) (d : Device) (x : d ≡ (tick_of r.device reading).device) where
  abbrev After : Outcome
  After = ticked_by (tick_of r.device reading).answer r (tick_of r.device reading) area

  pub tick_closed : (mask : ℕ) → Some mask ≡ (tick_of r.device reading).answer
      → (lives : List Bool) (held next : List ℕ) → lives ≡ lives_in d → held ≡ held_kept lives r.held → next ≡ closed_cleared lives area
      → outcome (0 ∷ mask ∷ []) (state_of d held) next [] ≡ After
  unfolding ticked_by
  tick_closed mask a lives held next ex ey ez = rw (← a, ez, ey, ex, x)

  -- a refused tick leaves the device as it was
  pub tick_back : None ≡ (tick_of r.device reading).answer → outcome (clock_back ∷ []) (state_of d r.held) area [] ≡ After
  unfolding ticked_by
  tick_back a = rw (← a, x, back_same r.device reading (tick_of r.device reading) refl (sym a))

-- ---- an opening
-- where all connections are open, the device stays as it is
full_same : (d : Device) → (open_of d).answer ≡ None → (open_of d).device ≡ d
unfolding open_of
full_same d a = either P (any is_not_open d.connections) _ _ (λ e. absurd (let z : ◌≡◌ {A = ℕ} 0 1 = cc in omega arith)) (λ e. refl) a
  where
    P : Opened → Type 0
    P o = o.answer ≡ None → o.device ≡ d

-- d and o are the device and the answer of its opening
module _ (r : Record) (t : record_obeys r ≡ true) (d : Device) (x : d ≡ (open_of r.device).device) where
  open_number : (n : ℕ) → Some n ≡ (open_of r.device).answer → outcome (0 ∷ n ∷ []) (state_of d r.held) [] [] ≡ open_call r
  unfolding open_call opened_by
  open_number n a = rw (t, ← a, x)

  open_full : None ≡ (open_of r.device).answer → outcome (table_full ∷ []) (state_of d r.held) [] [] ≡ open_call r
  unfolding open_call opened_by
  open_full a = rw (t, ← a, x, full_same r.device (sym a))

  pub opened : (o : Option ℕ) → o ≡ (open_of r.device).answer
      → outcome (answer_numbers opening_numbers (ok_or o refusals.TableFull)) (state_of d r.held) [] [] ≡ open_call r
  opened (Some n) a = open_number n a
  opened None a = open_full a

-- ---- the refusals in their order; each test is false or true as its check found it
module _ (r : Record) (t : record_obeys r ≡ false) (e : Refusal) (q : e ≡ refusals.BadRecord) where
  pub open_bad : outcome (refusal_numbers e) r [] [] ≡ open_call r
  unfolding open_call
  open_bad = rw (q, t)

  pub close_bad : (area : List ℕ) (n : ℕ) → outcome (refusal_numbers e) r area [] ≡ close_call r area n
  unfolding close_call
  close_bad area n = rw (q, t)

  pub tick_bad : (area : List ℕ) (reading : ℕ) → outcome (refusal_numbers e) r area [] ≡ tick_call r area reading
  unfolding tick_call
  tick_bad area reading = rw (q, t)

module _ (r : Record) (area : List ℕ) (t : record_obeys r ≡ true) where
  module _ (u : area_sound r.held area ≡ false) (e : Refusal) (q : e ≡ refusals.BadArea) where
    pub close_area : (n : ℕ) → outcome (refusal_numbers e) r area [] ≡ close_call r area n
    unfolding close_call
    close_area n = rw (q, t, u)

    pub tick_area : (reading : ℕ) → outcome (refusal_numbers e) r area [] ≡ tick_call r area reading
    unfolding tick_call
    tick_area reading = rw (q, t, u)

  module _ (u : area_sound r.held area ≡ true) where
    pub area_whole : length area ≡ area_bytes
    area_whole = area_long r.held area u

    pub part_within : (n : ℕ) → n < 8 → part_at n + part_bytes ≤ length area
    part_within n h = omega (arith, area_whole)

    pub close_none : (n : ℕ) → live_at r.device.connections n ≡ false → (e : Refusal) → e ≡ refusals.NoConnection
        → outcome (refusal_numbers e) r area [] ≡ close_call r area n
    unfolding close_call
    close_none n v e q = rw (q, t, u, v)

    pub close_done : (n : ℕ) → live_at r.device.connections n ≡ true → (z : Record) (next : List ℕ) → z ≡ closed_state r n
        → next ≡ part_cleared area n → outcome (0 ∷ []) z next [] ≡ close_call r area n
    unfolding close_call
    close_done n v z next x y = rw (t, u, v, x, y)

    pub tick_passed : (reading : ℕ) (o : Outcome) → o ≡ ticked_by (tick_of r.device reading).answer r (tick_of r.device reading) area
        → o ≡ tick_call r area reading
    unfolding tick_call
    tick_passed reading o w = w ∙ rw (t, u)
