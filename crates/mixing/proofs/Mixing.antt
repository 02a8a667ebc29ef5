-- MixingDoesNotMatter. Assumes nothing.
use Prim.Native.Nat.{ℕ, zero, suc, ◌-◌, ◌≤◌}
use mathlib.Core.Path.{◌≡◌, refl, sym, ap, ◌∙◌, fun_ext}
use mathlib.Core.Logic.{◌≢◌}
use mathlib.Core.Bool.{Bool, true, false, cond}
use mathlib.Core.List.{List, [], ◌∷◌, ◌++◌, map, append-nil, append_assoc}
use lib.ListN.{length, take}
use lib.Dec.{eqb}
use borrow.Author.Tests.{eqb-true, le-ltb, lt-ltb}
use Rattle.frame.specs.Decide.{decide, taken, settled}
use Rattle.frame.proofs.Bytes.{part_waits}
use Rattle.area.specs.Area.{undecided_of}
use Rattle.device.specs.declared.Device.{Device}
use Rattle.replies.specs.Bytes.{least_output}
use Rattle.stream.specs.Calls.{deliver, ask, handed, asked, Held, put, only, AllBytes}
use Rattle.stream.specs.Scaffold.{Answer, more, denied, gave, whole, delivered, step}
use Rattle.stream.specs.Lent.{counts_of}
use Rattle.stream.proofs.Lent.{put_same, put_other, put_self, put_put}
use Rattle.endpoint.specs.Outcome.{Outcome}
use Rattle.endpoint.specs.Deliver.{held_at}
use Rattle.endpoint.specs.declared.Record.{Record}
use Rattle.endpoint.proofs.States.{live_low}
use Rattle.promise.specs.Rulebook.{Asked, Given, given, rule, open?, admit}
use Rattle.promise.specs.Calls.{HostCall, call_of, run_calls, record_with, area_with, with_taken}
use Rattle.promise.specs.Scaffold.{outcome_of}
use Rattle.promise.specs.Kept.{held_in, Kept}
use Rattle.promise.specs.Whole.{host_sees}
use Rattle.promise.proofs.OpenConnections.{GoodAt}
use Rattle.promise.proofs.Calls.{told}
use Rattle.promise.proofs.HeldBytes.{kept_good, kept_counts, kept_area}
use Rattle.promise.proofs.Kept.{next, call_state, call_area, whole_state}
use Rattle.mixing.specs.Mixing.{mixed_by, Offer, deliveries_to, offered_bytes, AllRoomy, told_more, DecideNothing, NotTo, PassBy, MixedAlike, MixingDoesNotMatter}

-- ---- bytes held

only_put : (t : ℕ → Bool) (h : Held) (c : ℕ) (x : List ℕ) → t c ≡ true → only t (put h c x) ≡ put (only t h) c x
unfolding only put
only_put t h c x e = fun_ext λ n. go n (eqb n c) refl
  where
    go : (n : ℕ) (b : Bool) → eqb n c ≡ b → cond (t n) (cond b x (h n)) [] ≡ cond b x (cond (t n) (h n) [])
    go n true f = rw (eqb-true n c f, e)
    go n false f = refl

put_comm : (h : Held) (c d : ℕ) (x y : List ℕ) → d ≢ c → put (put h c x) d y ≡ put (put h d y) c x
unfolding put
put_comm h c d x y q = fun_ext λ n. go n (eqb n c) refl (eqb n d) refl
  where
    go : (n : ℕ) (a : Bool) → eqb n c ≡ a → (b : Bool) → eqb n d ≡ b → cond b y (cond a x (h n)) ≡ cond a x (cond b y (h n))
    go n true e true f = absurd (q (sym (eqb-true n d f) ∙ eqb-true n c e))
    go n true e false f = refl
    go n false e true f = refl
    go n false e false f = refl

-- ---- one call where connection c holds other bytes

record Shifted (h : Held) (c : ℕ) (y : List ℕ) (s u : (Device × Held) × Answer Given) : Type 0 where
  beside : u ≡ ((s.0.0, put s.0.1 c y), s.1)
  kept : s.0.1 c ≡ h c

abbrev whole_step : Device → Held → Asked → ℕ → (Device × Held) × Answer Given
whole_step d h w n = whole rule open? admit d h w n

abbrev step_on : Device → Held → HostCall → (Device × Held) × Answer Given
step_on d h c = step rule open? admit d h c

whole_shifted : (d : Device) (h : Held) (c : ℕ) (y : List ℕ) (w : Asked) (n : ℕ) → open? (rule d w).0 c ≡ true
    → Shifted h c y (whole_step d h w n) (whole_step d (put h c y) w n)
unfolding whole
whole_shifted d h c y w n o = record { beside = rw (only_put (open? (rule d w).0) h c y o); kept = unfold only in (rw o) }

delivered_shifted : (d : Device) (h : Held) (c : ℕ) (y : List ℕ) (k : ℕ) (q x : List ℕ) → k ≢ c → (a : ℕ) (b : Bool)
    → open? (delivered rule open? admit a b d h k q x).0.0 c ≡ true
    → Shifted h c y (delivered rule open? admit a b d h k q x) (delivered rule open? admit a b d (put h c y) k q x)
unfolding delivered
delivered_shifted d h c y k q x e (suc a) b o = record { beside = refl; kept = refl }
delivered_shifted d h c y k q x e zero false o =
    record { beside = rw (put_other h c y k e, put_comm h c k y (h k ++ q) e); kept = put_other h k (h k ++ q) c (λ f. e (sym f)) }
delivered_shifted d h c y k q x e zero true o =
    let j = taken (decide (h k ++ q)) in
    let s = whole_shifted d (put h k []) c y (handed k (take j (h k ++ q)) x) (j - length (h k)) (unfold whole in o) in
    record { beside = rw (put_other h c y k e, put_comm h c k y [] e) s.beside; kept = s.kept ∙ put_other h k [] c (λ f. e (sym f)) }

step_shifted : (d : Device) (h : Held) (c : ℕ) (y : List ℕ) (x : HostCall) → NotTo c x → open? (step_on d h x).0.0 c ≡ true
    → Shifted h c y (step_on d h x) (step_on d (put h c y) x)
unfolding step
step_shifted d h c y (deliver k q x) e o = rw (put_other h c y k e) (delivered_shifted d h c y k q x e (admit d k x) (settled (decide (h k ++ q))) o)
step_shifted d h c y (ask a) e o = whole_shifted d h c y (asked a) 0 (unfold whole in o)

-- ---- runs of the machine over pieces

unfoldable end_by : Device → Held → List HostCall → Device × Held
end_by d h [] = (d, h)
end_by d h (c ∷ cs) = end_by (step_on d h c).0.0 (step_on d h c).0.1 cs

unfoldable sees_by : HostCall → Answer Given → Given
sees_by (deliver n p out) more = told_more (record { piece = p; output = out })
sees_by (deliver n p out) (denied q) = given (q ∷ []) out
sees_by (deliver n p out) (gave k o) = given (with_taken k o.answer) o.output
sees_by (ask a) more = given [] []
sees_by (ask a) (denied q) = given (q ∷ []) []
sees_by (ask a) (gave k o) = given o.answer o.output

unfoldable gives_by : Device → Held → List HostCall → List Given
gives_by d h [] = []
gives_by d h (c ∷ cs) = sees_by c (step_on d h c).1 ∷ gives_by (step_on d h c).0.0 (step_on d h c).0.1 cs

unfoldable PassOn : ℕ → Device → Held → List HostCall → Type 0
PassOn n d h [] = Unit {0}
PassOn n d h (c ∷ cs) = NotTo n c × (open? (step_on d h c).0.0 n ≡ true) × PassOn n (step_on d h c).0.0 (step_on d h c).0.1 cs

-- what a run comes to where connection n holds y
record Beside (n : ℕ) (y : List ℕ) (d : Device) (h : Held) (cs : List HostCall) : Type 0 where
  end : end_by d (put h n y) cs ≡ ((end_by d h cs).0, put (end_by d h cs).1 n y)
  gives : gives_by d (put h n y) cs ≡ gives_by d h cs
  pass : PassOn n d (put h n y) cs
  kept : (end_by d h cs).1 n ≡ h n

besides : (n : ℕ) (y : List ℕ) (d : Device) (h : Held) (cs : List HostCall) → PassOn n d h cs → Beside n y d h cs
unfolding end_by gives_by PassOn
besides n y d h [] p = record { end = refl; gives = refl; pass = tt; kept = refl }
besides n y d h (c ∷ cs) p =
    let s = step_on d h c in
    let q = step_shifted d h n y c p.0 p.1 in
    let t = besides n y s.0.0 s.0.1 cs p.2 in
    record {
      end = rw q.beside t.end;
      gives = rw q.beside (ap (λ gs. sees_by c s.1 ∷ gs) t.gives);
      pass = rw q.beside (p.0, p.1, t.pass);
      kept = t.kept ∙ q.kept;
    }

-- a delivery that decides nothing
admits : (d : Device) (n : ℕ) (out : List ℕ) → open? d n ≡ true → least_output ≤ length out → admit d n out ≡ 0
unfolding admit
admits d n out o l = rw (o, le-ltb (length out) least_output l)

waits : (d : Device) (h : Held) (n : ℕ) (p out : List ℕ) → open? d n ≡ true → least_output ≤ length out → settled (decide (h n ++ p)) ≡ false
    → step_on d h (deliver n p out) ≡ ((d, put h n (h n ++ p)), more)
unfolding step delivered
waits d h n p out o l u = rw (admits d n out o l, u)

-- calls zs come to what cs come to, with y held by n, and give gs
record Came (n : ℕ) (y : List ℕ) (d : Device) (h : Held) (cs zs : List HostCall) (gs : List Given) : Type 0 where
  end : end_by d h zs ≡ ((end_by d h cs).0, put (end_by d h cs).1 n y)
  gives : gives_by d h zs ≡ gs

module _ (n : ℕ) (d : Device) where
  none_came : (h : Held) (cs : List HostCall) → PassOn n d h cs → Came n (h n ++ []) d h cs cs (gives_by d h cs)
  none_came h cs p =
      let k = (besides n [] d h cs p).kept in
      record { end = rw (append-nil, ← k, put_self (end_by d h cs).1 n); gives = refl }

  offer_came : (h : Held) (o : Offer) (y : List ℕ) (cs zs : List HostCall) (gs : List Given) → PassOn n d h cs
      → open? d n ≡ true → least_output ≤ length o.output → settled (decide (h n ++ o.piece)) ≡ false
      → Came n y d (put h n (h n ++ o.piece)) cs zs gs → Came n y d h cs (deliver n o.piece o.output ∷ zs) (told_more o ∷ gs)
  unfolding end_by gives_by sees_by
  offer_came h o y cs zs gs p l r u came =
      let z = h n ++ o.piece in
      let w = waits d h n o.piece o.output l r u in
      let b = besides n z d h cs p in
      record {
        end = rw w (came.end ∙ rw (b.end, put_put));
        gives = rw w (ap (λ x. told_more o ∷ x) came.gives);
      }

  -- the part of the bytes in front of the rest decides nothing
  front : (h : Held) (p rest : List ℕ) → settled (decide (h n ++ (p ++ rest))) ≡ false → settled (decide (h n ++ p)) ≡ false
  front h p rest u = part_waits (h n ++ p) rest (rw (append_assoc (h n) p rest) u)

  behind : (h : Held) (p rest : List ℕ) → put h n (h n ++ p) n ++ rest ≡ h n ++ (p ++ rest)
  behind h p rest = rw put_same (append_assoc (h n) p rest)

  first_came : (h : Held) (os : List Offer) (cs : List HostCall) → PassOn n d h cs → open? d n ≡ true → AllRoomy os
      → settled (decide (h n ++ offered_bytes os)) ≡ false
      → Came n (h n ++ offered_bytes os) d h cs (deliveries_to n os ++ cs) (map told_more os ++ gives_by d h cs)
  unfolding offered_bytes AllRoomy
  first_came h [] cs p l r u = none_came h cs p
  first_came h (o ∷ os) cs p l r u =
      let k = put h n (h n ++ o.piece) in
      let b = besides n (h n ++ o.piece) d h cs p in
      let e = behind h o.piece (offered_bytes os) in
      let i = first_came k os cs b.pass l r.1 (rw e u) in
      offer_came h o (h n ++ (o.piece ++ offered_bytes os)) cs (deliveries_to n os ++ cs) (map told_more os ++ gives_by d h cs) p l r.0
      (front h o.piece (offered_bytes os) u) (rw (e, b.gives) at i)

-- ---- any order

module _ (n : ℕ) where
  mixed_came : (order : List Bool) (d : Device) (h : Held) (os : List Offer) (cs : List HostCall) → PassOn n d h cs → open? d n ≡ true
      → AllRoomy os → settled (decide (h n ++ offered_bytes os)) ≡ false
      → Came n (h n ++ offered_bytes os) d h cs (mixed_by order (deliveries_to n os) cs) (mixed_by order (map told_more os) (gives_by d h cs))
  unfolding mixed_by offered_bytes AllRoomy gives_by end_by PassOn
  mixed_came [] d h os cs p l r u = first_came n d h os cs p l r u
  mixed_came (b ∷ order) d h [] cs p l r u = none_came n d h cs p
  mixed_came (b ∷ order) d h (o ∷ os) [] p l r u = rw (append-nil, append-nil) at (first_came n d h (o ∷ os) [] p l r u)
  mixed_came (true ∷ order) d h (o ∷ os) (c ∷ cs) p l r u =
      let k = put h n (h n ++ o.piece) in
      let b = besides n (h n ++ o.piece) d h (c ∷ cs) p in
      let e = behind n d h o.piece (offered_bytes os) in
      let i = mixed_came order d k os (c ∷ cs) b.pass l r.1 (rw e u) in
      offer_came n d h o (h n ++ (o.piece ++ offered_bytes os)) (c ∷ cs) (mixed_by order (deliveries_to n os) (c ∷ cs))
      (mixed_by order (map told_more os) (gives_by d h (c ∷ cs))) p l r.0 (front n d h o.piece (offered_bytes os) u) (rw (e, b.gives) at i)
  mixed_came (false ∷ order) d h (o ∷ os) (c ∷ cs) p l r u =
      let s = step_on d h c in
      let q = (step_shifted d h n [] c p.0 p.1).kept in
      let i = mixed_came order s.0.0 s.0.1 (o ∷ os) cs p.2 p.1 r (rw q u) in
      let j = rw q at i in
      record { end = j.end; gives = ap (λ gs. sees_by c s.1 ∷ gs) j.gives }

-- ---- the real calls

sees_outcome : (c : HostCall) (d : Device) (h : Held) (a : Answer Given) → host_sees (outcome_of c d h a) ≡ sees_by c a
unfolding outcome_of sees_by
sees_outcome (deliver n p out) d h more = refl
sees_outcome (deliver n p out) d h (denied q) = refl
sees_outcome (deliver n p out) d h (gave k o) = refl
sees_outcome (ask a) d h more = refl
sees_outcome (ask a) d h (denied q) = refl
sees_outcome (ask a) d h (gave k o) = refl

record Real (d : Device) (h : Held) (cs : List HostCall) (run : (Record × List ℕ) × List Outcome) : Type 0 where
  last : run.0 ≡ (record_with (end_by d h cs).0 (end_by d h cs).1, area_with (end_by d h cs).1)
  sees : map host_sees run.1 ≡ gives_by d h cs

real : (d : Device) (h : Held) (cs : List HostCall) → GoodAt d h → AllBytes cs → Real d h cs (run_calls (record_with d h) (area_with h) cs)
unfolding run_calls end_by gives_by AllBytes
real d h [] good b = record { last = refl; sees = refl }
real d h (c ∷ cs) good b =
    let s = step_on d h c in
    let o = call_of (record_with d h) (area_with h) c in
    let i : Real s.0.0 s.0.1 cs (run_calls o.state o.area cs) =
    rw (call_state d h good c b.0, call_area d h good c b.0) (real s.0.0 s.0.1 cs (next d h good c b.0) b.1) in
    let e : host_sees o ≡ sees_by c s.1 = ap host_sees (told d h good c) ∙ sees_outcome c s.0.0 s.0.1 s.1 in
    record { last = i.last; sees = rw (e, i.sees) }

pass : (n : ℕ) (d : Device) (h : Held) (cs : List HostCall) → GoodAt d h → AllBytes cs → PassBy n (record_with d h) (area_with h) cs → PassOn n d h cs
unfolding PassBy PassOn AllBytes
pass n d h [] good b p = tt
pass n d h (c ∷ cs) good b p =
    let s = step_on d h c in
    let q = rw (call_state d h good c b.0, call_area d h good c b.0) at p in
    (q.0, q.1, pass n s.0.0 s.0.1 cs (next d h good c b.0) b.1 q.2)

bytes_append : (xs ys : List HostCall) → AllBytes xs → AllBytes ys → AllBytes (xs ++ ys)
unfolding AllBytes
bytes_append [] ys a b = b
bytes_append (x ∷ xs) ys a b = (a.0, bytes_append xs ys a.1 b)

bytes_mixed : (order : List Bool) (xs ys : List HostCall) → AllBytes xs → AllBytes ys → AllBytes (mixed_by order xs ys)
unfolding mixed_by AllBytes
bytes_mixed [] xs ys a b = bytes_append xs ys a b
bytes_mixed (t ∷ order) [] ys a b = b
bytes_mixed (t ∷ order) (x ∷ xs) [] a b = a
bytes_mixed (true ∷ order) (x ∷ xs) (y ∷ ys) a b = (a.0, bytes_mixed order xs (y ∷ ys) a.1 b)
bytes_mixed (false ∷ order) (x ∷ xs) (y ∷ ys) a b = (b.0, bytes_mixed order (x ∷ xs) ys a b.1)

module _ (order : List Bool) (r : Record) (area : List ℕ) (n : ℕ) (offers : List Offer) (calls : List HostCall) (w : Kept r area)
    (quiet : DecideNothing r area n offers) (by : PassBy n r area calls) (b : AllBytes calls)
  where
    abbrev d : Device
    d = r.device

    abbrev h : Held
    h = held_in r area

    good : GoodAt d h
    good = kept_good r area w

    same : record_with d h ≡ r
    same = whole_state r (counts_of h 8) (kept_counts r area w)

    bytes : area_with h ≡ area
    bytes = kept_area r area w

    waiting : h n ≡ undecided_of area n (held_at r n)
    unfolding held_in
    waiting = rw (lt-ltb n 8 (live_low d.connections n 8 quiet.live w.eight))

    passed : PassOn n d h calls
    passed = pass n d h calls good b (rw (same, bytes) by)

    undecided : settled (decide (h n ++ offered_bytes offers)) ≡ false
    undecided = rw waiting quiet.undecided

    came : Came n (h n ++ offered_bytes offers) d h calls (mixed_by order (deliveries_to n offers) calls)
        (mixed_by order (map told_more offers) (gives_by d h calls))
    came = mixed_came n order d h offers calls passed quiet.live quiet.room undecided

    one_run : (cs : List HostCall) → AllBytes cs → Real d h cs (run_calls r area cs)
    one_run cs a = rw (same, bytes) at (real d h cs good a)

    alike : MixedAlike order r area n offers calls
    alike =
        let m = one_run (mixed_by order (deliveries_to n offers) calls) (bytes_mixed order (deliveries_to n offers) calls quiet.bytes b) in
        let f = one_run (deliveries_to n offers ++ calls) (bytes_append (deliveries_to n offers) calls quiet.bytes b) in
        let g = first_came n d h offers calls passed quiet.live quiet.room undecided in
        let i = one_run calls b in
        record {
          last = m.last ∙ ap (λ (e : Device × Held). (record_with e.0 e.1, area_with e.1)) (came.end ∙ sym g.end) ∙ sym f.last;
          sees = m.sees ∙ came.gives ∙ ap (mixed_by order (map told_more offers)) (sym i.sees);
        }

pub mixing : MixingDoesNotMatter
mixing =
    record {
      mixed = alike;
      orders = λ order another r area n offers calls w q p b.
          (alike order r area n offers calls w q p b).last ∙ sym (alike another r area n offers calls w q p b).last;
    }
