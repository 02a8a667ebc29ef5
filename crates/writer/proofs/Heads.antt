-- A message from its type, count and data is sound; and a sound message is one. Assumes nothing.
use Prim.Native.Nat.{ℕ, ◌+◌, ◌≤◌, ◌<◌}
use mathlib.Core.Path.{◌≡◌, refl, sym, ap, ◌∙◌}
use mathlib.Core.List.{List, [], ◌∷◌, ◌++◌, append_assoc}
use mathlib.Core.Bool.{true}
use native.Mathlib.Omega.{arith}
use Rattle.std.specs.Prelude.{None}
use lib.ListN.{length, take, drop, get_or, length-append, take-append-drop}
use lib.Seq.{take_at, drop_at, take-take, take-add, drop-cons}
use borrow.Author.Tests.{le-ltb}
use Rattle.octets.specs.Numbers.{be16_at, be32_at, bytes16, bytes32, Octets}
use Rattle.octets.proofs.Digits.{be16_bytes, be32_bytes, bytes16_be16, bytes32_be32}
use Rattle.frame.specs.Limits.{sync, version, least_size, greatest_size, keep_alive}
use Rattle.frame.specs.Header.{protocol_version, pdu_size, pdu_type, message_count, count_fault, fields_fault, header_fault}
use Rattle.frame.specs.Decide.{data_sound, decide}
use Rattle.frame.specs.declared.Decision.TheVariants.{Sound}
use Rattle.frame.proofs.Headers.{sound_header}
use Rattle.frame.proofs.Sounds.{sound_at, at_sound}
use Rattle.reader.specs.Read.{data_of}
use Rattle.layout.specs.Message.{size_of, head_bytes, message}
use Rattle.layout.proofs.Messages.{length_head, length_message}
use Rattle.writer.proofs.Messages.{length_data}

-- the message at the front of s: its length, type, count and data
pub record Holds (s : List ℕ) (n kind count : ℕ) (t : List ℕ) : Type 0 where
  pub sound : decide s ≡ Sound n
  pub type : pdu_type s ≡ kind
  pub number : message_count s ≡ count
  pub body : data_of s n ≡ t

module _ (kind count : ℕ) (body rest : List ℕ) where
  abbrev whole : List ℕ
  whole = message kind count body ++ rest

  size_of_lem : size_of body ≤ greatest_size → pdu_size whole ≡ size_of body
  unfolding message head_bytes bytes16 bytes32 be32_at
  size_of_lem h = be32_bytes (size_of body) (omega arith)

  count_of : count < 65536 → message_count whole ≡ count
  unfolding message head_bytes bytes16 bytes32 be16_at
  count_of h = be16_bytes count h

  version_of : protocol_version whole ≡ version
  unfolding message head_bytes bytes16 bytes32 be16_at
  version_of = refl

  type_of : pdu_type whole ≡ kind
  unfolding message head_bytes bytes16 bytes32
  type_of = refl

  first_of : get_or whole 0 0 ≡ sync
  unfolding message head_bytes bytes16 bytes32
  first_of = refl

  data_of_lem : data_of whole (length body + 10) ≡ body
  unfolding message
  data_of_lem =
      let m = message kind count body in
      let h = head_bytes kind count (size_of body) in
      rw (take_at m rest (length body + 10) (length_message kind count body)) (drop_at h body 10 (length_head kind count (size_of body)))

  module _ (low : kind ≤ keep_alive) (small : size_of body ≤ greatest_size) (few : count < 65536) (some : count_fault kind count ≡ None) where
    no_fault : header_fault whole ≡ None
    unfolding header_fault fields_fault
    no_fault =
        rw (version_of, size_of_lem small, type_of, count_of few)
        (simp (le-ltb (size_of body) least_size (omega arith), le-ltb greatest_size (size_of body) small, le-ltb keep_alive kind low, some))

    pub message_holds : data_sound kind count body ≡ true → Holds whole (length body + 10) kind count body
    message_holds d =
        let z = size_of_lem small in
        record {
          sound =
              at_sound whole (length body + 10)
              (record {
                first = first_of;
                header = no_fault;
                size = omega arith;
                low = omega arith;
                high = omega (arith, length-append (message kind count body) rest, length_message kind count body);
                body = rw (type_of, count_of few, data_of_lem) d;
              });
          type = type_of;
          number = count_of few;
          body = data_of_lem;
        }

one_at : (s : List ℕ) (i : ℕ) → i < length s → take 1 (drop i s) ≡ get_or s i 0 ∷ []
one_at s i h = rw (drop-cons s i 0 h)

pieces : (p x y q z : List ℕ) (a d : ℕ) → p ≡ a ∷ [] → q ≡ d ∷ [] → p ++ x ++ y ++ q ++ z ≡ a ∷ x ++ (y ++ (d ∷ z))
pieces p x y q z a d e f = regroup ∙ rw (e, f)
  where
    regroup : p ++ x ++ y ++ q ++ z ≡ p ++ x ++ (y ++ (q ++ z))
    regroup = simp append_assoc

-- the first ten bytes, as the header's fields
head_bytes_lem : (s : List ℕ) → 10 ≤ length s
    → take 10 s ≡ get_or s 0 0 ∷ take 2 (drop 1 s) ++ (take 4 (drop 3 s) ++ (get_or s 7 0 ∷ take 2 (drop 8 s)))
head_bytes_lem s h =
    take-add 8 2 s
    ∙ ap (λ (l : List ℕ). l ++ take 2 (drop 8 s))
    (take-add 7 1 s
    ∙ ap (λ (l : List ℕ). l ++ take 1 (drop 7 s)) (take-add 3 4 s ∙ ap (λ (l : List ℕ). l ++ take 4 (drop 3 s)) (take-add 1 2 s)))
    ∙ pieces (take 1 s) (take 2 (drop 1 s)) (take 4 (drop 3 s)) (take 1 (drop 7 s)) (take 2 (drop 8 s)) (get_or s 0 0) (get_or s 7 0) (one_at s 0 (omega arith)) (one_at s 7 (omega arith))

pub sound_message : (s : List ℕ) (n : ℕ) → Octets s → decide s ≡ Sound n
    → take n s ≡ message (pdu_type s) (message_count s) (data_of s n)
unfolding message head_bytes
sound_message s n o e =
    let w = sound_at s n e in
    let h = sound_header s w.header in
    let low = w.low in
    let high = w.high in
    let z : size_of (data_of s n) ≡ pdu_size s = omega (arith, w.size, length_data n s high) in
    let v : bytes16 version ≡ take 2 (drop 1 s) = ap bytes16 (sym h.protocol) ∙ bytes16_be16 s 1 o (omega arith) in
    let head : take 10 (take n s) ≡ head_bytes (pdu_type s) (message_count s) (size_of (data_of s n)) =
    take-take 10 n s low ∙ head_bytes_lem s (omega arith)
    ∙ rw (z, v, bytes32_be32 s 3 o (omega arith), bytes16_be16 s 8 o (omega arith), w.first) in
    sym (take-append-drop 10 (take n s)) ∙ ap (λ (l : List ℕ). l ++ data_of s n) head
