-- Every record and area that refusals 1 and 2 let pass is a device with some bytes held: for Kept, Whole and Closure. Assumes nothing.
use Prim.Native.Nat.{ℕ, zero, suc, ◌-◌, ◌≤◌, ◌<◌}
use mathlib.Core.Path.{◌≡◌, refl, sym, ap, ◌∙◌}
use mathlib.Core.Bool.{Bool, cond, true, false, not, true≢false}
use mathlib.Core.List.{List, [], ◌∷◌, ◌++◌}
use native.Mathlib.Omega.{arith}
use native.Mathlib.Nat.{not-suc-le-zero, le_of_suc-le-suc}
use lib.Dec.{ltb, eqb}
use lib.ListN.{length, take, drop, get_or, length-drop, take-append-drop}
use lib.Seq.{take-take, take_all, length-take-le, ext_get_or}
use borrow.Author.Tests.{lt-ltb, le-ltb, ltb-true, ltb-false, eqb-true}
use Rattle.laws.proofs.Conds.{and_left, and_right}
use Rattle.laws.proofs.Parts.{drop_take}
use Rattle.octets.specs.Numbers.{Octets}
use Rattle.octets.specs.Zeros.{zeros, all_zero}
use Rattle.octets.proofs.Scans.{zeros_of_all}
use Rattle.octets.proofs.Digits.{octets_take, octets_drop}
use Rattle.frame.specs.Decide.{decide, settled}
use Rattle.frame.proofs.Bytes.{nil_waits}
use Rattle.area.specs.Area.{part_bytes, area_bytes, part_at, part_sound, parts_sound, area_sound, undecided_of, count_obeys, held_obeys}
use Rattle.connection.specs.State.{live_at}
use Rattle.device.specs.Obeys.{device_obeys}
use Rattle.stream.specs.Calls.{Held}
use Rattle.stream.specs.Lent.{part_holding, flat, counts_of}
use Rattle.stream.proofs.Lent.{length_counted, get_d_counted}
use Rattle.stream.proofs.Bytes.{octets_nil}
use Rattle.endpoint.specs.State.{record_obeys}
use Rattle.device.specs.State.{lives_in}
use Rattle.endpoint.specs.Deliver.{held_at}
use Rattle.area.specs.Scaffold.{Lying}
use Rattle.endpoint.specs.declared.Record.{Record}
use Rattle.area.proofs.Lies.{area_long, part_at_lem, lies}
use Rattle.area.proofs.Gathers.{length_undecided}
use Rattle.promise.specs.Kept.{held_in, Kept}
use Rattle.promise.proofs.OpenConnections.{GoodAt, lives_get, length_lives}

-- parts, one behind another
flat_parts : (h : Held) (n : ℕ) (a : List ℕ) → length a ≡ part_at n → ((c : ℕ) → c < n → take part_bytes (drop (part_at c) a) ≡ part_holding (h c)) → flat h n ≡ a
unfolding flat
flat_parts h zero [] l f = refl
flat_parts h zero (x ∷ a) l f = absurd (omega arith)
flat_parts h (suc n) a l f =
    let t = take (part_at n) a in
    let r = drop (part_at n) a in
    let lt : length t ≡ part_at n = length-take-le (part_at n) a (omega arith) in
    let lr : length r ≤ part_bytes = rw length-drop (omega arith) in
    let last : part_holding (h n) ≡ r = sym (f n (omega arith)) ∙ take_all part_bytes r lr in
    let front : flat h n ≡ t = flat_parts h n t lt (λ c k. part c k ∙ f c (omega arith)) in
    rw (front, last) (take-append-drop (part_at n) a)
  where
    part : (c : ℕ) → c < n → take part_bytes (drop (part_at c) (take (part_at n) a)) ≡ take part_bytes (drop (part_at c) a)
    part c k =
        rw (drop_take (part_at c) (part_at n) a) (take-take part_bytes (part_at n - part_at c) (drop (part_at c) a) (omega arith))

-- a sound part is its undecided bytes first and zeros after
part_whole : (k : ℕ) (part : List ℕ) → k ≤ part_bytes → length part ≡ part_bytes → part_sound k part ≡ true → part ≡ part_holding (take k part)
unfolding part_sound part_holding
part_whole k part l m s =
    let z = zeros_of_all (drop k part) (and_right (not (settled (decide (take k part)))) (all_zero (drop k part)) s) in
    let a : length (drop k part) ≡ part_bytes - length (take k part) = omega (arith, length-drop k part, length-take-le k part (omega arith)) in
    sym (take-append-drop k part) ∙ ap (λ (y : List ℕ). take k part ++ y) (z ∙ ap zeros a)

count_at : (lives : List Bool) (held : List ℕ) (n : ℕ) → held_obeys lives held ≡ true → n < length lives → n < length held
    → count_obeys (get_or lives n false) (get_or held n 0) ≡ true
unfolding held_obeys
count_at [] held n e h k = absurd (not-suc-le-zero h)
count_at (b ∷ lives) [] n e h k = absurd (not-suc-le-zero k)
count_at (b ∷ lives) (x ∷ held) zero e h k = and_left (count_obeys b x) (held_obeys lives held) e
count_at (b ∷ lives) (x ∷ held) (suc n) e h k = count_at lives held n (and_right (count_obeys b x) (held_obeys lives held) e) (le_of_suc-le-suc h) (le_of_suc-le-suc k)

count_none : (live : Bool) (k : ℕ) → count_obeys live k ≡ true → live ≡ false → k ≡ 0
unfolding count_obeys
count_none true k e l = absurd (true≢false l)
count_none false k e l = eqb-true k 0 e

module _ (r : Record) (area : List ℕ) (w : Kept r area) where
  long : length area ≡ area_bytes
  long = area_long r.held area w.sound

  lying : (n : ℕ) → n < 8 → Lying area n (held_at r n)
  unfolding record_obeys
  lying n l =
      let d = r.device in
      lies (lives_in d) r.held area n (and_right (device_obeys d) (held_obeys (lives_in d) r.held) w.obeys) w.sound l
      (length_lives d ∙ w.eight) w.counts

  here : (n : ℕ) → n < 8 → held_in r area n ≡ undecided_of area n (held_at r n)
  unfolding held_in
  here n l = rw (lt-ltb n 8 l)

  beyond : (n : ℕ) → 8 ≤ n → held_in r area n ≡ []
  unfolding held_in
  beyond n l = rw (le-ltb n 8 l)

  -- a fact of every connection's bytes
  each : (P : List ℕ → Type 0) (n : ℕ) → (n < 8 → P (undecided_of area n (held_at r n))) → P [] → P (held_in r area n)
  each P n a b = go (ltb n 8) refl
    where
      go : (t : Bool) → ltb n 8 ≡ t → P (held_in r area n)
      go true e = rw (here n (ltb-true n 8 e)) (a (ltb-true n 8 e))
      go false e = rw (beyond n (ltb-false n 8 e)) b

  closed_none : (n : ℕ) → n < 8 → live_at r.device.connections n ≡ false → undecided_of area n (held_at r n) ≡ []
  unfolding record_obeys undecided_of
  closed_none n l z =
      let c = count_at (lives_in r.device) r.held n (and_right (device_obeys r.device) (held_obeys (lives_in r.device) r.held) w.obeys) (omega (arith, length_lives r.device, w.eight)) (omega (arith, w.counts)) in
      let k : held_at r n ≡ 0 = count_none (get_or (lives_in r.device) n false) (held_at r n) c (lives_get r.device n ∙ z) in
      rw k

  pub kept_good : GoodAt r.device (held_in r area)
  unfolding record_obeys
  kept_good =
      record {
        fine = record { obeys = and_left (device_obeys r.device) (held_obeys (lives_in r.device) r.held) w.obeys; eight = w.eight };
        waiting = λ n. each (λ x. settled (decide x) ≡ false) n (λ l. (lying n l).waiting) nil_waits;
        empty = λ n z. each (λ x. x ≡ []) n (λ l. closed_none n l z) refl;
        octets = λ n. each (λ x. Octets x) n (λ l. bytes n) octets_nil;
      }
    where
      bytes : (n : ℕ) → Octets (undecided_of area n (held_at r n))
      bytes n = unfold undecided_of in octets_take (held_at r n) (drop (part_at n) area) (octets_drop (part_at n) area w.octets)

  length_here : (n : ℕ) → n < 8 → length (held_in r area n) ≡ held_at r n
  length_here n l = ap length (here n l) ∙ length_undecided area n (held_at r n) (lying n l)

  pub kept_counts : counts_of (held_in r area) 8 ≡ r.held
  kept_counts =
      ext_get_or 0 (counts_of (held_in r area) 8) r.held (length_counted (held_in r area) 8 ∙ sym w.counts)
      (λ i l.
      let m : i < 8 = omega (arith, length_counted (held_in r area) 8) in
      get_d_counted (held_in r area) 8 i m ∙ length_here i m)

  pub kept_area : flat (held_in r area) 8 ≡ area
  unfolding area_sound undecided_of
  kept_area = flat_parts (held_in r area) 8 area long part
    where
      sounds : (b p : Bool) → cond b p false ≡ true → p ≡ true
      sounds true p e = e
      sounds false p e = absurd (true≢false (sym e))

      part : (c : ℕ) → c < 8 → take part_bytes (drop (part_at c) area) ≡ part_holding (held_in r area c)
      part c l =
          let k = held_at r c in
          let x = drop (part_at c) area in
          let y = lying c l in
          let s = part_at_lem r.held area c (sounds (eqb (length area) area_bytes) (parts_sound r.held area) w.sound) (omega (arith, w.counts)) in
          let q = part_whole k (take part_bytes x) (omega (arith, y.few)) (length-take-le part_bytes x (rw length-drop (omega (arith, long)))) s in
          let m : take k (take part_bytes x) ≡ held_in r area c = take-take k part_bytes x (omega (arith, y.few)) ∙ sym (here c l) in
          q ∙ ap part_holding m
