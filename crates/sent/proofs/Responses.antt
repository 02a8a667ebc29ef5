-- The responses to a message's commands, one behind another, are as many entries, each as it was made. Assumes nothing.
use Prim.Native.Nat.{ℕ, zero, suc, ◌+◌, ◌-◌, ◌<◌}
use mathlib.Core.Path.{◌≡◌, refl, sym, ◌∙◌}
use mathlib.Core.Bool.{Bool, true, false, cond}
use mathlib.Core.List.{List, [], ◌∷◌, ◌++◌}
use native.Mathlib.Omega.{arith}
use native.Mathlib.Nat.{not-suc-le-zero}
use lib.Dec.{eqb}
use lib.ListN.{length, get_or, take, drop, length-append}
use lib.Seq.{take_at, drop_at, length-take-le}
use borrow.Author.Tests.{ne_eqb, lt-ltb, le-ltb, eqb-false}
use Rattle.octets.specs.Numbers.{be32_at, bytes32, Octets}
use Rattle.octets.proofs.Digits.{be32_bytes, octets_drop, octets_take}
use Rattle.numbers.specs.Refusal.{not_refused}
use Rattle.frame.specs.Limits.{response, least_response}
use Rattle.frame.specs.Entry.{least_entry, context_count, parameter_offset, is_context_bad, count_place, least_count, count_fits, entry_fits, entry_size, entries_fill}
use Rattle.fields.specs.Place.{entries_from, entry_bytes, parameters_of}
use Rattle.fields.specs.Fields.{command_of, response_of}
use Rattle.reader.specs.Numbers.{response_numbers}
use Rattle.reader.specs.Entry.{fields_of}
use Rattle.objects.specs.Answers.{reply_of, failed_of, answer_with}
use Rattle.objects.specs.Answers.{Carried as Answer}
use Rattle.replies.specs.Bytes.{response_bytes}
use Rattle.replies.proofs.Puts.{length_response}
use Rattle.device.specs.Run.{mute_at, status_of, done_of, answer_of, ran_by, run_of}
use Rattle.device.specs.declared.Device.{Device}
use Rattle.device.specs.Run.{Ran}
use Rattle.serve.specs.Serve.{ran_with, ran_first, last_of, response_to, responses_of}
use Rattle.serve.proofs.Answers.{Fitting}
use Rattle.serve.proofs.Serves.{first_fits}

-- ---- one response
-- the count and the parameters of an answer go together
abbrev Counted : Answer → Type 0
Counted a = count_fits 0 a.count a.length ≡ true

told_counts : (bytes : List ℕ) → Counted (answer_with bytes)
unfolding answer_with count_fits
told_counts bytes = go (eqb (length bytes) 0) refl
  where
    go : (b : Bool) → eqb (length bytes) 0 ≡ b → count_fits 0 (cond b 0 1) (length bytes) ≡ true
    go true e = e
    go false e = let nz = eqb-false (length bytes) 0 e in lt-ltb 0 (length bytes) (omega arith)

run_counts : (d : Device) (n target m count : ℕ) (part : List ℕ) → Counted (run_of d n target m count part).answer
unfolding run_of ran_by answer_of failed_of count_fits
run_counts d n target m count part = go (eqb (status_of d n target m count part) 0)
  where
    go : (b : Bool)
        → Counted
        (cond {A = Ran} b (record { device = done_of d n target m part; answer = answer_with (reply_of target m (mute_at d target)) })
        (record { device = d; answer = failed_of (status_of d n target m count part) })).answer
    go true = told_counts (reply_of target m (mute_at d target))
    go false = refl

first_counts : (d : Device) (n kind : ℕ) (t : List ℕ) → Counted (ran_first d n kind t).answer
unfolding ran_first ran_with
first_counts d n kind t = run_counts d n _ _ _ _

module _ (handle : ℕ) (a : Answer) (f : Fitting a) where
  -- with whatever stands behind it
  module _ (rest : List ℕ) where
    size_told : be32_at (response_bytes handle a ++ rest) 0 ≡ least_response + a.length
    unfolding response_bytes bytes32 be32_at
    size_told = be32_bytes (least_response + a.length) (omega (arith, f.low))

    count_told : get_or (response_bytes handle a ++ rest) 9 0 ≡ a.count
    unfolding response_bytes bytes32
    count_told = refl

    length_told : length (response_bytes handle a ++ rest) ≡ least_response + a.length + length rest
    length_told =
        omega (arith, length-append (response_bytes handle a) rest, length_response handle a (omega (arith, f.low, f.room)))

    length_behind : length (drop 10 (response_bytes handle a ++ rest)) ≡ a.length + length rest
    unfolding response_bytes bytes32
    length_behind =
        omega (arith, length-append (take a.length a.bytes) rest, length-take-le a.length a.bytes (omega (arith, f.low, f.room)))

    size_made : Counted a → entry_size response (response_bytes handle a ++ rest) ≡ least_response + a.length
    unfolding entry_size entry_fits least_entry context_count parameter_offset is_context_bad count_place least_count
    size_made c =
        let t = response_bytes handle a ++ rest in
        let z : least_response + a.length - 10 ≡ a.length = omega arith in
        rw (size_told, count_told)
        (simp (le-ltb (length t) 10 (omega (arith, length_told)), le-ltb (least_response + a.length) 10 (omega arith), z, le-ltb (length (drop 10 t)) a.length (omega (arith, length_behind)), c))

  pub made_fields : handle < 4294967296
      → fields_of response (response_bytes handle a) ≡ not_refused ∷ response ∷ handle ∷ a.status ∷ a.count ∷ []
  unfolding fields_of response_numbers response_of response_bytes bytes32 be32_at
  made_fields h = rw (be32_bytes handle h)

  pub made_part : parameters_of response (response_bytes handle a) ≡ take a.length a.bytes
  unfolding parameters_of least_entry context_count parameter_offset response_bytes bytes32
  made_part = refl

-- ---- all of them
module _ (n kind : ℕ) where
  module _ (d : Device) (t rest : List ℕ) where
    first_size_lem : entry_size response (response_to d n kind t ++ rest) ≡ length (response_to d n kind t)
    unfolding response_to
    first_size_lem =
        let h = (command_of (take (entry_size kind t) t)).handle in
        let a = (ran_first d n kind t).answer in
        let f = first_fits d n kind t in
        size_made h a f rest (first_counts d n kind t) ∙ sym (length_response h a (omega (arith, f.low, f.room)))

    first_some : entry_size response (response_to d n kind t ++ rest) ≡ 0 → ⊥
    unfolding response_to
    first_some e =
        let h = (command_of (take (entry_size kind t) t)).handle in
        let a = (ran_first d n kind t).answer in
        absurd (omega (arith, size_made h a (first_fits d n kind t) rest (first_counts d n kind t)))

    first_rest : drop (entry_size response (response_to d n kind t ++ rest)) (response_to d n kind t ++ rest) ≡ rest
    first_rest = rw first_size_lem (drop_at (response_to d n kind t) rest (length (response_to d n kind t)) refl)

    first_taken : take (entry_size response (response_to d n kind t ++ rest)) (response_to d n kind t ++ rest) ≡ response_to d n kind t
    first_taken = rw first_size_lem (take_at (response_to d n kind t) rest (length (response_to d n kind t)) refl)

  pub responses_fill : (k : ℕ) (d : Device) (t : List ℕ) → entries_fill k response (responses_of k d n kind t) ≡ true
  unfolding entries_fill responses_of
  responses_fill zero d t = refl
  responses_fill (suc k) d t =
      let e = (ran_first d n kind t).device in
      let u = drop (entry_size kind t) t in
      let rest = responses_of k e n kind u in
      rw (ne_eqb (entry_size response (response_to d n kind t ++ rest)) 0 (first_some d t rest), first_rest d t rest) (responses_fill k e u)

  -- response i is the one to command i, on the device that the commands before it left
  pub responses_at : (i k : ℕ) (d : Device) (t : List ℕ) → i < k
      → entry_bytes i response (responses_of k d n kind t) ≡ response_to (last_of i d n kind t) n kind (entries_from i kind t)
  unfolding entry_bytes entries_from responses_of last_of
  responses_at i zero d t h = absurd (not-suc-le-zero h)
  responses_at zero (suc k) d t h = first_taken d t (responses_of k (ran_first d n kind t).device n kind (drop (entry_size kind t) t))
  responses_at (suc i) (suc k) d t h =
      let e = (ran_first d n kind t).device in
      let u = drop (entry_size kind t) t in
      rw (first_rest d t (responses_of k e n kind u)) (responses_at i k e u (omega arith))

-- ---- handles are numbers of 32 bits
octets_from : (i kind : ℕ) (t : List ℕ) → Octets t → Octets (entries_from i kind t)
unfolding entries_from
octets_from zero kind t o = o
octets_from (suc i) kind t o = octets_from i kind (drop (entry_size kind t) t) (octets_drop (entry_size kind t) t o)

pub be32_small : (s : List ℕ) (at : ℕ) → Octets s → be32_at s at < 4294967296
unfolding be32_at
be32_small s at o = omega (arith, o at, o (at + 1), o (at + 2), o (at + 3))

pub handle_small : (i kind : ℕ) (t : List ℕ) → Octets t → (command_of (entry_bytes i kind t)).handle < 4294967296
unfolding command_of entry_bytes
handle_small i kind t o =
    let u = entries_from i kind t in
    be32_small (take (entry_size kind u) u) 4 (octets_take (entry_size kind u) u (octets_from i kind t o))
