-- Laws of where an entry stands. Assumes nothing.
use Prim.Native.Nat.{ℕ, zero, suc, ◌≤◌, ◌<◌}
use mathlib.Core.Path.{◌≡◌, refl}
use mathlib.Core.List.{List}
use mathlib.Core.Bool.{true}
use native.Mathlib.Omega.{arith}
use native.Mathlib.Nat.{not-suc-le-zero}
use lib.ListN.{length, drop}
use lib.Seq.{length-take-le}
use borrow.Author.Tests.{eqb-true, ne_eqb}
use Rattle.frame.specs.Limits.{seconds_bytes, milliseconds_bytes}
use Rattle.frame.specs.Entry.{least_entry, parameter_offset, entry_size, entries_fill}
use Rattle.frame.specs.Decide.{keep_alive_fill}
use Rattle.frame.specs.Scaffold.{rest_from}
use Rattle.frame.proofs.Entries.{entry_at_lem, entries_first, offset_take}
use Rattle.fields.specs.Place.{entries_from, entry_bytes}

-- the bytes from entry i on are as many as the walk leaves
pub from_rest : (i k : ℕ) (t : List ℕ) → length (entries_from i k t) ≡ rest_from i k t
unfolding entries_from rest_from
from_rest zero k t = refl
from_rest (suc i) k t = from_rest i k (drop (entry_size k t) t)

-- each of the entries that fill some data is well formed
pub entries_get : (i n k : ℕ) (t : List ℕ) → i < n → entries_fill n k t ≡ true → entry_size k (entries_from i k t) ≡ 0 → ⊥
unfolding entries_from
entries_get zero zero k t h e z = not-suc-le-zero h
entries_get (suc i) zero k t h e z = not-suc-le-zero h
entries_get zero (suc n) k t h e z = (entries_first n k t e).0 z
entries_get (suc i) (suc n) k t h e z = entries_get i n k (drop (entry_size k t) t) (omega arith) (entries_first n k t e).1 z

pub entry_length : (i n k : ℕ) (t : List ℕ) → i < n → entries_fill n k t ≡ true → least_entry k ≤ length (entry_bytes i k t)
unfolding entry_bytes
entry_length i n k t h e =
    let u = entries_from i k t in
    let w = entry_at_lem k u (entries_get i n k t h e) in
    let l : entry_size k u ≤ length u = omega (arith, w.size, w.high) in
    omega (arith, length-take-le (entry_size k u) u l, w.size, w.low)

-- and its parameters start within it
pub entry_offset : (i n k : ℕ) (t : List ℕ) → i < n → entries_fill n k t ≡ true → parameter_offset k (entry_bytes i k t) ≤ length (entry_bytes i k t)
unfolding entry_bytes
entry_offset i n k t h e =
    let u = entries_from i k t in
    let w = entry_at_lem k u (entries_get i n k t h e) in
    let l : entry_size k u ≤ length u = omega (arith, w.size, w.high) in
    let o = (offset_take k (entry_size k u) u (omega (arith, w.size, w.low))).1 in
    omega (arith, length-take-le (entry_size k u) u l, w.size, w.start, o)

-- a keep-alive's data that is not seconds is milliseconds
pub keep_long : (t : List ℕ) → keep_alive_fill t ≡ true → (length t ≡ seconds_bytes → ⊥) → length t ≡ milliseconds_bytes
unfolding keep_alive_fill
keep_long t e n = eqb-true (length t) milliseconds_bytes (rw (ne_eqb (length t) seconds_bytes n) at e)
