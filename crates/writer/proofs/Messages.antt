-- One entry behind a message in a buffer. Assumes nothing.
use Prim.Native.Nat.{ℕ, ◌+◌, ◌-◌, ◌≤◌}
use mathlib.Core.Path.{◌≡◌, sym, ap, ◌∙◌}
use mathlib.Core.List.{List, ◌++◌}
use native.Mathlib.Omega.{arith}
use lib.ListN.{length, take, drop, length-append, length-drop}
use lib.Seq.{sets, length-sets, length-take-le}
use Rattle.laws.proofs.Parts.{drop_take}
use Rattle.laws.proofs.Stores.{sets_append, sets_same, drop_sets}
use Rattle.reader.specs.Read.{data_of}
use Rattle.layout.specs.Message.{size_of, head_bytes, message, at_front}
use Rattle.layout.proofs.Messages.{length_head, put_whole}

pub length_data : (n : ℕ) (s : List ℕ) → n ≤ length s → length (data_of s n) ≡ n - 10
length_data n s h = omega (arith, length-drop 10 (take n s), length-take-le n s h)

module _ (kind count size : ℕ) (buf : List ℕ) where
  -- the head anew, and then one entry behind the first n bytes
  pub put_behind : (n : ℕ) (e : List ℕ) → size ≡ n + length e - 1 → 10 ≤ n → n + length e ≤ length buf
      → sets (sets buf 0 (head_bytes kind count size)) n e ≡ at_front (message kind count (data_of buf n ++ e)) buf
  put_behind n e z low h =
      let body = data_of buf n in
      let ld : length body ≡ n - 10 = length_data n buf (omega arith) in
      let la = length-append body e in
      let sz : size ≡ size_of (body ++ e) = omega arith in
      let b1 = sets buf 0 (head_bytes kind count size) in
      let l1 = length-sets buf 0 (head_bytes kind count size) in
      let back : 10 + length body ≡ n = omega arith in
      let r : body ≡ take (n - 10) (drop 10 b1) =
      drop_take 10 n buf ∙ ap (take (n - 10)) (sym (drop_sets (head_bytes kind count size) buf 0 10 (omega (arith, length_head kind count size)))) in
      let same : sets b1 10 body ≡ b1 = ap (sets b1 10) r ∙ sets_same b1 10 (n - 10) (omega arith) in
      sym (ap (λ (k : ℕ). sets (sets b1 10 body) k e) back ∙ ap (λ (l : List ℕ). sets l n e) same)
      ∙ sym (sets_append body e b1 10)
      ∙ put_whole kind count size buf (body ++ e) sz (omega arith)
