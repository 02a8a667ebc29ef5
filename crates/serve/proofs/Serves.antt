-- Laws of the loop over a message's commands. Assumes nothing.
use Prim.Native.Nat.{ℕ, zero, suc, ◌+◌, ◌-◌, ◌*◌, ◌≤◌, ◌<◌}
use mathlib.Core.Path.{◌≡◌, refl, sym, ap, subst, ◌∙◌}
use mathlib.Core.Bool.{Bool, cond, true, false}
use mathlib.Core.List.{List, ◌++◌}
use native.Mathlib.Omega.{arith}
use native.Mathlib.Nat.{add-zero, not-suc-le-zero}
use native.Mathlib.Numerals.{sub-one}
use lib.Dec.{eqb}
use lib.ListN.{length, take, drop, length-append}
use lib.Seq.{sets, length-sets, length-take-le}
use Rattle.laws.proofs.Stores.{sets_append}
use Rattle.octets.specs.Numbers.{be32_at}
use Rattle.frame.specs.Limits.{least_response}
use Rattle.frame.specs.Entry.{entry_size, entries_fill}
use Rattle.frame.proofs.Entries.{entry_at_lem, entries_first, least_command_lem}
use Rattle.fields.specs.Fields.{command_of}
use Rattle.objects.specs.Answers.{Carried}
use Rattle.device.specs.Run.{unchanged}
use Rattle.device.specs.declared.Device.{Device}
use Rattle.device.specs.Run.{Ran}
use Rattle.replies.specs.Bytes.{response_bytes}
use Rattle.replies.proofs.Puts.{length_response}
use Rattle.serve.specs.Serve.{ran_with, ran_first, last_of, response_to, responses_of}
use Rattle.serve.proofs.Answers.{Fitting, run_fits}

pub first_fits : (d : Device) (n kind : ℕ) (t : List ℕ) → Fitting (ran_first d n kind t).answer
unfolding ran_first ran_with
first_fits d n kind t = run_fits d n _ _ _ _

-- the size that the first entry gives, where some are left, is its size
pub size_given : (left kind : ℕ) (t : List ℕ) (size : ℕ) → kind < 2 → 0 < left → entries_fill left kind t ≡ true → size ≡ be32_at t 0
    → (size ≡ entry_size kind t) × (17 ≤ size) × (size ≤ length t) × (length (take size t) ≡ size)
size_given zero kind t size k h e g = absurd (not-suc-le-zero h)
size_given (suc left) kind t size k h e g =
    let w = entry_at_lem kind t (entries_first left kind t e).0 in
    let l = least_command_lem kind k in
    let z : size ≤ length t = omega (arith, w.high) in
    (g ∙ sym w.size, omega (arith, w.low), z, length-take-le size t z)

fill_rest : (left kind : ℕ) (t : List ℕ) → 0 < left → entries_fill left kind t ≡ true → entries_fill (left - 1) kind (drop (entry_size kind t) t) ≡ true
fill_rest zero kind t h e = absurd (not-suc-le-zero h)
fill_rest (suc left) kind t h e = rw sub-one (entries_first left kind t e).1

last_step : (left : ℕ) (d : Device) (n kind : ℕ) (t : List ℕ) → 0 < left
    → last_of left d n kind t ≡ last_of (left - 1) (ran_first d n kind t).device n kind (drop (entry_size kind t) t)
unfolding last_of
last_step zero d n kind t h = absurd (not-suc-le-zero h)
last_step (suc left) d n kind t h = rw sub-one

responses_step : (left : ℕ) (d : Device) (n kind : ℕ) (t : List ℕ) → 0 < left
    → responses_of left d n kind t ≡ response_to d n kind t ++ responses_of (left - 1) (ran_first d n kind t).device n kind (drop (entry_size kind t) t)
unfolding responses_of
responses_step zero d n kind t h = absurd (not-suc-le-zero h)
responses_step (suc left) d n kind t h = rw sub-one

length_to : (d : Device) (n kind : ℕ) (t : List ℕ) → length (response_to d n kind t) ≡ least_response + (ran_first d n kind t).answer.length
unfolding response_to
length_to d n kind t =
    let f = first_fits d n kind t in
    length_response (command_of (take (entry_size kind t) t)).handle (ran_first d n kind t).answer (omega (arith, f.low, f.room))

-- the loop: left commands remain, in t, and the next response goes to place at
pub record Serving (n kind count : ℕ) (body first : List ℕ) (fresh : Device) (out : List ℕ) (d : Device) (t : List ℕ) (left at : ℕ) : Type 0 where
  pub fill : entries_fill left kind t ≡ true
  pub room : at + left * 22 ≤ length out
  pub long : length out ≡ length first
  pub last : last_of count fresh n kind body ≡ last_of left d n kind t
  pub end : cond (eqb kind 0) 10 (10 + length (responses_of count fresh n kind body)) ≡ cond (eqb kind 0) at (at + length (responses_of left d n kind t))
  pub bytes : cond (eqb kind 0) first (sets first 10 (responses_of count fresh n kind body)) ≡ cond (eqb kind 0) out (sets out at (responses_of left d n kind t))

pub serving_none : (n kind count : ℕ) (body out : List ℕ) (d : Device) → entries_fill count kind body ≡ true → 10 + count * 22 ≤ length out
    → Serving n kind count body out d out d body count 10
serving_none n kind count body out d e h = record { fill = e; room = h; long = refl; last = refl; end = refl; bytes = refl }

module _ (n kind count : ℕ) (body first : List ℕ) (fresh : Device) (out : List ℕ) (d : Device) (t : List ℕ) (left at : ℕ)
    (w : Serving n kind count body first fresh out d t left at)
  where
    pub serving_more : (next : List ℕ) (after : ℕ) → 0 < left
        → after ≡ cond (eqb kind 0) at (at + (least_response + (ran_first d n kind t).answer.length))
        → next ≡ cond (eqb kind 0) out (sets out at (response_to d n kind t))
        → Serving n kind count body first fresh next (ran_first d n kind t).device (drop (entry_size kind t) t) (left - 1) after
    serving_more next after h ea en = go (eqb kind 0) refl
      where
        d' : Device
        d' = (ran_first d n kind t).device

        t' : List ℕ
        t' = drop (entry_size kind t) t

        x : List ℕ
        x = response_to d n kind t

        y : List ℕ
        y = responses_of (left - 1) d' n kind t'

        go : (b : Bool) → eqb kind 0 ≡ b → Serving n kind count body first fresh next d' t' (left - 1) after
        go true e =
            let an : after ≡ at = rw e at ea in
            let nn : next ≡ out = rw e at en in
            record {
              fill = fill_rest left kind t h w.fill;
              room = omega (arith, w.room, an, ap length nn);
              long = ap length nn ∙ w.long;
              last = w.last ∙ last_step left d n kind t h;
              end = rw e ((rw e at w.end) ∙ sym an);
              bytes = rw e ((rw e at w.bytes) ∙ sym nn);
            }
        go false e =
            let an : after ≡ at + (least_response + (ran_first d n kind t).answer.length) = rw e at ea in
            let nn : next ≡ sets out at x = rw e at en in
            let ln : length next ≡ length out = ap length nn ∙ length-sets out at x in
            let lx = length_to d n kind t in
            let f = (first_fits d n kind t).low in
            let st = responses_step left d n kind t h in
            let we : 10 + length (responses_of count fresh n kind body) ≡ at + length (responses_of left d n kind t) = rw e at w.end in
            let wb : sets first 10 (responses_of count fresh n kind body) ≡ sets out at (responses_of left d n kind t) = rw e at w.bytes in
            let ax : at + length x ≡ after = omega arith in
            record {
              fill = fill_rest left kind t h w.fill;
              room = omega (arith, w.room, ln);
              long = ln ∙ w.long;
              last = w.last ∙ last_step left d n kind t h;
              end = rw e (we ∙ omega (arith, ap length st, length-append x y));
              bytes = rw e (wb ∙ ap (sets out at) st ∙ sets_append x y out at ∙ rw (ax, nn));
            }

    pub serving_last : left ≤ 0 → d ≡ last_of count fresh n kind body
    unfolding last_of
    serving_last h = let z : left ≡ 0 = omega arith in sym (w.last ∙ rw z)

    pub serving_end : left ≤ 0 → at ≡ cond (eqb kind 0) 10 (10 + length (responses_of count fresh n kind body))
    unfolding responses_of
    serving_end h =
        let z : left ≡ 0 = omega arith in
        sym (w.end ∙ rw z (go (eqb kind 0)))
      where
        go : (b : Bool) → cond b at (at + 0) ≡ at
        go true = refl
        go false = add-zero at

    pub serving_bytes : left ≤ 0 → out ≡ cond (eqb kind 0) first (sets first 10 (responses_of count fresh n kind body))
    unfolding responses_of
    serving_bytes h =
        let z : left ≡ 0 = omega arith in
        sym (w.bytes ∙ rw z (go (eqb kind 0)))
      where
        go : (b : Bool) → cond b out out ≡ out
        go true = refl
        go false = refl

-- one command run and answered
pub serving_step : {n kind count : ℕ} {body first : List ℕ} {fresh : Device} {out : List ℕ} {d : Device} {t : List ℕ} {left at : ℕ} → Serving n kind count body first fresh out d t left at
    → 0 < left → {d' : Device} {answer : Carried} → unchanged d' answer ≡ ran_first d n kind t → {handle : ℕ} → handle ≡ (command_of (take (entry_size kind t) t)).handle → {after : ℕ}
    → after ≡ cond (eqb kind 0) at (at + (least_response + answer.length)) → {next : List ℕ}
    → next ≡ cond (eqb kind 0) out (sets out at (response_bytes handle answer))
    → Serving n kind count body first fresh next d' (drop (entry_size kind t) t) (left - 1) after
unfolding response_to
serving_step {n} {kind} {count} {body} {first} {fresh} {out} {d} {t} {left} {at} w h {d'} {answer} s {handle} eh {after} ea {next} en =
    let a : answer ≡ (ran_first d n kind t).answer = ap (λ (r : Ran). r.answer) s in
    subst (λ (r : Ran). Serving n kind count body first fresh next r.device (drop (entry_size kind t) t) (left - 1) after) (sym s)
    (serving_more n kind count body first fresh out d t left at w next after h
    (ea ∙ ap (λ (x : Carried). cond (eqb kind 0) at (at + (least_response + x.length))) a)
    (en ∙ ap (λ (k : ℕ). cond (eqb kind 0) out (sets out at (response_bytes k answer))) eh
    ∙ ap (λ (x : Carried). cond (eqb kind 0) out (sets out at (response_bytes (command_of (take (entry_size kind t) t)).handle x))) a))

-- each response has at most 22 bytes
pub responses_few : (k : ℕ) (d : Device) (n kind : ℕ) (t : List ℕ) → length (responses_of k d n kind t) ≤ k * 22
unfolding responses_of
responses_few zero d n kind t = omega arith
responses_few (suc k) d n kind t =
    let d' = (ran_first d n kind t).device in
    let t' = drop (entry_size kind t) t in
    omega (arith, responses_few k d' n kind t', length-append (response_to d n kind t) (responses_of k d' n kind t'), length_to d n kind t, (first_fits d n kind t).low)
