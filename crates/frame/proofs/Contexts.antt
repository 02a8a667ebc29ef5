-- A notification's context stands in its entry, of 64 bytes at the most. Assumes nothing.
use Prim.Native.Nat.{ℕ, ◌+◌, ◌≤◌}
use mathlib.Core.Path.{◌≡◌, refl}
use mathlib.Core.List.{List, [], ◌∷◌, map}
use mathlib.Core.Bool.{Bool, true, false}
use native.Mathlib.Omega.{arith}
use lib.Dec.{eqb}
use lib.ListN.{length}
use borrow.Author.Tests.{eqb-true, eqb-false}
use Rattle.octets.specs.Numbers.{be16_at, be32_at, bytes16, bytes32}
use Rattle.octets.specs.Zeros.{zeros}
use Rattle.frame.specs.Limits.{greatest_context}
use Rattle.frame.specs.Entry.{least_entry, context_count, parameter_offset, is_context_bad, count_place, least_count, count_fits, entry_fits, entry_size, entries_fill, well_formed}
use Rattle.frame.specs.Contexts.{well_laid, context_counts, ContextTells}
use Rattle.frame.proofs.Entries.{EntryAt, entry_at_lem, entries_first, well_kind, offset_other}

bounded : (k : ℕ) (e : List ℕ) → well_formed k e ≡ true → context_count k e ≤ greatest_context
bounded k e w = (entry_at_lem k e (entries_first 0 k e (well_kind k e w).1).0).context

pub offset_within : (k : ℕ) (e : List ℕ) → well_formed k e ≡ true → parameter_offset k e ≤ length e
offset_within k e w =
    let a = entry_at_lem k e (entries_first 0 k e (well_kind k e w).1).0 in
    omega (arith, a.start, a.high)

-- where a well formed entry would be one that it is not, there is none
none_where : (k : ℕ) (t : List ℕ) → (EntryAt k t → ⊥) → entry_size k t ≡ 0
none_where k t f = go (eqb (entry_size k t) 0) refl
  where
    go : (b : Bool) → eqb (entry_size k t) 0 ≡ b → entry_size k t ≡ 0
    go true e = eqb-true (entry_size k t) 0 e
    go false e = absurd (f (entry_at_lem k t (eqb-false (entry_size k t) 0 e)))

worked : map (λ n. well_laid n n) context_counts ≡ 1 ∷ 1 ∷ 1 ∷ 1 ∷ 0 ∷ []
unfolding well_formed entries_fill entry_size is_context_bad parameter_offset context_count entry_fits count_fits least_count least_entry count_place be16_at be32_at bytes16 bytes32 zeros
worked = refl

missing : map (λ n. well_laid (n + 1) n) context_counts ≡ 0 ∷ 0 ∷ 0 ∷ 0 ∷ 0 ∷ []
unfolding well_formed entries_fill entry_size is_context_bad parameter_offset context_count entry_fits count_fits least_count least_entry count_place be16_at be32_at bytes16 bytes32 zeros
missing = refl

more : map (λ n. well_laid n (n + 1)) context_counts ≡ 0 ∷ 0 ∷ 0 ∷ 0 ∷ 0 ∷ []
unfolding well_formed entries_fill entry_size is_context_bad parameter_offset context_count entry_fits count_fits least_count least_entry count_place be16_at be32_at bytes16 bytes32 zeros
more = refl

pub context_tells : ContextTells
context_tells =
    record {
      bounded = bounded;
      within = offset_within;
      others = offset_other;
      long = λ k t h. none_where k t (λ a. omega (arith, h, a.context));
      past = λ k t h. none_where k t (λ a. omega (arith, h, a.start));
      worked = worked;
      missing = missing;
      more = more;
    }
