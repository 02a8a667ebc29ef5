-- A message in a buffer: the stores of its head and data leave it at the front. Assumes nothing.
use Prim.Native.Nat.{ℕ, ◌+◌, ◌≤◌}
use mathlib.Core.Path.{◌≡◌, refl}
use mathlib.Core.List.{List, ◌++◌}
use native.Mathlib.Omega.{arith}
use lib.ListN.{length, set, length-append}
use lib.Seq.{sets}
use Rattle.laws.proofs.Stores.{sets_append, sets_front}
use Rattle.octets.specs.Numbers.{bytes16, bytes32}
use Rattle.frame.specs.Limits.{sync, version}
use Rattle.layout.specs.Message.{size_of, head_bytes, message, at_front}

pub length_head : (kind count size : ℕ) → length (head_bytes kind count size) ≡ 10
unfolding head_bytes bytes16 bytes32
length_head kind count size = refl

pub length_message : (kind count : ℕ) (body : List ℕ) → length (message kind count body) ≡ length body + 10
unfolding message
length_message kind count body =
    omega (arith, length-append (head_bytes kind count (size_of body)) body, length_head kind count (size_of body))

pub front_sets : (m buf : List ℕ) → length m ≤ length buf → sets buf 0 m ≡ at_front m buf
unfolding at_front
front_sets m buf h = sets_front m buf h

-- the five stores of the head
pub head_stores : (b0 b1 b2 b3 : List ℕ) (kind count size : ℕ) → b1 ≡ sets (set b0 0 sync) 1 (bytes16 version)
    → b2 ≡ sets b1 3 (bytes32 size) → b3 ≡ sets (set b2 7 kind) 8 (bytes16 count)
    → b3 ≡ sets b0 0 (head_bytes kind count size)
unfolding head_bytes bytes16 bytes32
head_stores b0 b1 b2 b3 kind count size e1 e2 e3 = rw (e3, e2, e1)

module _ (kind count size : ℕ) (buf : List ℕ) where
  -- the head, and then the data behind it
  pub put_whole : (body : List ℕ) → size ≡ size_of body → length body + 10 ≤ length buf
      → sets (sets buf 0 (head_bytes kind count size)) 10 body ≡ at_front (message kind count body) buf
  unfolding message
  put_whole body z h =
      let head = head_bytes kind count (size_of body) in
      let l : 0 + length head ≡ 10 = omega (arith, length_head kind count (size_of body)) in
      rw (z, ← front_sets (head ++ body) buf (omega (arith, length-append head body)), sets_append head body buf 0, l)
