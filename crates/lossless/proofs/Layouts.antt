-- A well formed entry is its fields laid out, its size in front and its part behind. Assumes nothing.
use Prim.Native.Nat.{ℕ, suc, ◌+◌, ◌≤◌, ◌<◌}
use mathlib.Core.Path.{◌≡◌, refl, sym, ap, ap₂, ◌∙◌}
use mathlib.Core.List.{List, [], ◌∷◌, ◌++◌}
use mathlib.Core.Bool.{Bool, cond, true, false}
use native.Mathlib.Omega.{arith}
use native.Mathlib.Decide.{dec_le}
use lib.Dec.{ltb, eqb}
use lib.ListN.{length, take, drop, get_or, length-drop, take-append-drop}
use lib.Seq.{drop-drop, drop-cons, length-take-le}
use borrow.Author.Tests.{ltb-true, ltb-false, eqb-true, eqb-false}
use Rattle.octets.specs.Numbers.{be16_at, be32_at, bytes16, bytes32, Octets}
use Rattle.octets.proofs.Digits.{bytes16_be16, bytes32_be32}
use Rattle.frame.specs.Limits.{notification, least_command, least_response}
use Rattle.frame.specs.Places.{context_count_place}
use Rattle.frame.specs.Entry.{least_entry, context_count, parameter_offset, well_formed}
use Rattle.frame.proofs.Entries.{entry_at_lem, entries_first, one_size, well_kind, offset_other, least_command_lem, least_response_lem}
use Rattle.fields.specs.Place.{parameters_of, context_of}
use Rattle.fields.specs.Fields.{method_at, command_of, notification_of, response_of}
use Rattle.std.specs.Prelude.{Result, Ok}
use Rattle.numbers.specs.declared.Refusal.{Refusal}
use Rattle.reader.specs.Numbers.{entry_numbers}
use Rattle.reader.specs.Entry.{fields_of}
use Rattle.reader.specs.declared.Entry.{Entry}
use Rattle.reader.specs.declared.Entry.TheVariants as entry
use Rattle.reader.proofs.Tells.{numbers_tell}
use Rattle.lossless.specs.Again.{command_again, notification_again, response_again, entry_again}
use Rattle.lossless.specs.Lossless.{EntryOf}

under : (x : List ℕ) {a b : List ℕ} → a ≡ b → x ++ a ≡ x ++ b
under x p = ap (λ (y : List ℕ). x ++ y) p

module _ (e : List ℕ) (o : Octets e) where
  -- one field off the front of what is left
  peel32 : (at : ℕ) → at + 4 ≤ length e → drop at e ≡ bytes32 (be32_at e at) ++ drop (at + 4) e
  peel32 at h =
      sym (take-append-drop 4 (drop at e)) ∙ ap (λ (x : List ℕ). x ++ drop 4 (drop at e)) (sym (bytes32_be32 e at o h))
      ∙ under (bytes32 (be32_at e at)) (drop-drop 4 at e)

  peel16 : (at : ℕ) → at + 2 ≤ length e → drop at e ≡ bytes16 (be16_at e at) ++ drop (at + 2) e
  peel16 at h =
      sym (take-append-drop 2 (drop at e)) ∙ ap (λ (x : List ℕ). x ++ drop 2 (drop at e)) (sym (bytes16_be16 e at o h))
      ∙ under (bytes16 (be16_at e at)) (drop-drop 2 at e)

  moved : {i j : ℕ} → i ≡ j → drop i e ≡ drop j e
  moved p = ap (λ (m : ℕ). drop m e) p

  -- and so many bytes of it
  peel : (n at : ℕ) → drop at e ≡ take n (drop at e) ++ drop (at + n) e
  peel n at = sym (take-append-drop n (drop at e)) ∙ under (take n (drop at e)) (drop-drop n at e)

  peel8 : (at : ℕ) → at < length e → drop at e ≡ get_or e at 0 ∷ drop (suc at) e
  peel8 at h = drop-cons e at 0 h

  module _ (size : be32_at e 0 ≡ length e) where
    sized_as : {n : ℕ} → be32_at e 0 ≡ n → (rest : List ℕ) → bytes32 (be32_at e 0) ++ rest ≡ bytes32 n ++ rest
    sized_as z rest = ap (λ (m : ℕ). bytes32 m ++ rest) z

    -- the size is the least entry and the part
    sized : (least : ℕ) → least ≤ length e → (rest : List ℕ) → bytes32 (be32_at e 0) ++ rest ≡ bytes32 (least + length (drop least e)) ++ rest
    sized least h rest = sized_as (omega (arith, length-drop least e)) rest

    command_laid : least_command ≤ length e → e ≡ command_again (command_of e) (drop least_command e)
    unfolding command_again command_of method_at
    command_laid h =
        peel32 0 (omega arith)
        ∙ under (bytes32 (be32_at e 0))
        (peel32 4 (omega arith)
        ∙ under (bytes32 (be32_at e 4))
        (peel32 8 (omega arith)
        ∙ under (bytes32 (be32_at e 8))
        (peel16 12 (omega arith)
        ∙ under (bytes16 (be16_at e 12)) (peel16 14 (omega arith) ∙ under (bytes16 (be16_at e 14)) (peel8 16 (omega arith))))))
        ∙ sized least_command h _

    -- a notification: the context stands between its count and the emitter, and moves on what follows it
    notification_laid_lem : parameter_offset notification e ≤ length e
        → e ≡ notification_again (notification_of e) (context_of notification e) (drop (parameter_offset notification e) e)
    unfolding notification_again notification_of method_at context_of context_count parameter_offset least_entry
    notification_laid_lem h =
        let n = be16_at e context_count_place in
        let a : 15 + n + 4 ≡ 19 + n = omega arith in
        let b : 19 + n + 2 + 2 ≡ 23 + n = omega arith in
        let l : length (take n (drop 15 e)) ≡ n = length-take-le n (drop 15 e) (omega (arith, length-drop 15 e)) in
        let z : be32_at e 0 ≡ 23 + length (take n (drop 15 e)) + length (drop (23 + n) e) = omega (arith, l, length-drop (23 + n) e) in
        peel32 0 (omega arith)
        ∙ under (bytes32 (be32_at e 0))
        (peel32 4 (omega arith)
        ∙ under (bytes32 (be32_at e 4))
        (peel16 8 (omega arith)
        ∙ under (bytes16 (be16_at e 8))
        (peel16 10 (omega arith)
        ∙ under (bytes16 (be16_at e 10))
        (peel8 12 (omega arith)
        ∙ under (get_or e 12 0 ∷ [])
        (peel16 13 (omega arith)
        ∙ under (bytes16 n)
        (peel n 15
        ∙ under (take n (drop 15 e))
        (peel32 (15 + n) (omega arith)
        ∙ under (bytes32 (be32_at e (15 + n)))
        (moved a
        ∙ (peel16 (19 + n) (omega arith)
        ∙ under (bytes16 (be16_at e (19 + n))) (peel16 (19 + n + 2) (omega arith) ∙ under (bytes16 (be16_at e (19 + n + 2))) (moved b)))))))))))
        ∙ sized_as z _

    response_laid : least_response ≤ length e → e ≡ response_again (response_of e) (drop least_response e)
    unfolding response_again response_of
    response_laid h =
        peel32 0 (omega arith)
        ∙ under (bytes32 (be32_at e 0))
        (peel32 4 (omega arith)
        ∙ under (bytes32 (be32_at e 4)) (peel8 8 (omega arith) ∙ under (get_or e 8 0 ∷ []) (peel8 9 (omega arith))))
        ∙ sized least_response h _

-- the answer that reading an entry of that type gives
pub answer_of : ℕ → List ℕ → Result Entry Refusal
answer_of kind e =
    cond (ltb kind notification) (Ok (entry.Command (command_of e)))
    (cond (eqb kind notification) (Ok (entry.Notification (notification_of e))) (Ok (entry.Response (response_of e))))

pub answer_numbers : (kind : ℕ) (e : List ℕ) → entry_numbers (answer_of kind e) ≡ fields_of kind e
unfolding answer_of fields_of entry_numbers
answer_numbers kind e = go (ltb kind notification) (eqb kind notification)
  where
    go : (a b : Bool)
        → entry_numbers (cond a (Ok (entry.Command (command_of e))) (cond b (Ok (entry.Notification (notification_of e))) (Ok (entry.Response (response_of e)))))
        ≡ cond a (entry_numbers (Ok (entry.Command (command_of e))))
        (cond b (entry_numbers (Ok (entry.Notification (notification_of e)))) (entry_numbers (Ok (entry.Response (response_of e)))))
    go true b = refl
    go false true = refl
    go false false = refl

-- an entry's size is its length, and its parameters start within it
entry_sized : (kind : ℕ) (e : List ℕ) → well_formed kind e ≡ true → (be32_at e 0 ≡ length e) × (parameter_offset kind e ≤ length e)
entry_sized kind e w =
    let f = (well_kind kind e w).1 in
    let a = entry_at_lem kind e (entries_first 0 kind e f).0 in
    let z = one_size kind e f in
    omega (arith, a.size, a.start)

-- neither below nor there
above : (kind : ℕ) → notification ≤ kind → (kind ≡ notification → ⊥) → notification < kind
above kind h d = go (dec_le kind notification)
  where
    go : Dec (kind ≤ notification) → notification < kind
    go (yes p) = absurd (d (omega (arith, p, h)))
    go (no p) = omega (arith, p)

-- the entry again, from its own answer, its own context and its own part
pub answer_laid : (kind : ℕ) (e : List ℕ) → EntryOf kind e → entry_again (answer_of kind e) (context_of kind e) (parameters_of kind e) ≡ e
unfolding answer_of entry_again parameters_of
answer_laid kind e w = let z = entry_sized kind e w.well in sym (go (ltb kind notification) (eqb kind notification) refl refl z.0 z.1)
  where
    go : (a b : Bool) → ltb kind notification ≡ a → eqb kind notification ≡ b → be32_at e 0 ≡ length e → parameter_offset kind e ≤ length e
        → e
        ≡ entry_again (cond a (Ok (entry.Command (command_of e))) (cond b (Ok (entry.Notification (notification_of e))) (Ok (entry.Response (response_of e)))))
        (context_of kind e) (drop (parameter_offset kind e) e)
    go true b p q z h =
        let k = ltb-true kind notification p in
        let o = offset_other kind e (λ x. omega arith) ∙ least_command_lem kind k in
        rw o (command_laid e w.bytes z (omega (arith, o)))
    go false true p q z h =
        let k = eqb-true kind notification q in
        rw k (notification_laid_lem e w.bytes z (rw k at h))
    go false false p q z h =
        let k = ltb-false kind notification p in
        let d = eqb-false kind notification q in
        let o = offset_other kind e d ∙ least_response_lem kind (above kind k d) in
        rw o (response_laid e w.bytes z (omega (arith, o)))

-- and from any answer with its numbers
pub entry_laid_lem : (kind : ℕ) (e : List ℕ) → EntryOf kind e → (r : Result Entry Refusal) → entry_numbers r ≡ fields_of kind e → entry_again r (context_of kind e) (parameters_of kind e) ≡ e
entry_laid_lem kind e w r h =
    let q = numbers_tell.entries r (answer_of kind e) (h ∙ sym (answer_numbers kind e)) in
    ap (λ (x : Result Entry Refusal). entry_again x (context_of kind e) (parameters_of kind e)) q ∙ answer_laid kind e w

pub entries_told : (kind : ℕ) (e f : List ℕ) → EntryOf kind e → EntryOf kind f → fields_of kind e ≡ fields_of kind f
    → context_of kind e ≡ context_of kind f → parameters_of kind e ≡ parameters_of kind f → e ≡ f
entries_told kind e f v w n c p =
    sym (answer_laid kind e v) ∙ ap₂ (entry_again (answer_of kind e)) c p ∙ entry_laid_lem kind f w (answer_of kind e) (answer_numbers kind e ∙ n)
