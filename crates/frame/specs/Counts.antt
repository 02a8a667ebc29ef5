-- R12. What an entry's parameter count tells of its parameter bytes.
use Rattle.std.specs.Prelude.{ℕ, ◌+◌, ◌-◌, ◌<◌, ◌≡◌, List, [], ◌∷◌, ◌++◌, map, cond, true, get_or, drop}
use Rattle.octets.specs.Numbers.{be32_at, bytes32}
use Rattle.octets.specs.Zeros.{zeros}
use Rattle.frame.specs.Limits.{notification, response}
use Rattle.frame.specs.Entry.{least_entry, parameter_offset, count_place, least_count, entry_size, well_formed}

-- R9. The parameter count that an entry gives.
abbrev pub count_given : ℕ → List ℕ → ℕ
count_given kind e = get_or e (count_place kind) 0

-- R12. The count is the least exactly where there are no parameter bytes.
abbrev pub NoneIsBare : ℕ → ℕ → List ℕ → Type 0
NoneIsBare least count part = (count ≡ least → part ≡ []) × (part ≡ [] → count ≡ least)

-- R12. Bytes laid out as an entry of that type with that count and so many parameter bytes; all other fields are zeros.
abbrev pub entry_laid : ℕ → ℕ → ℕ → List ℕ
entry_laid kind count bytes =
    bytes32 (least_entry kind + bytes) ++ (zeros (count_place kind - 4)
    ++ (count ∷ (zeros (least_entry kind - (count_place kind + 1)) ++ zeros bytes)))

-- R14. 1 where they are a well formed entry, else 0: with 0, with 1 and with 2 parameter bytes.
abbrev pub well_with : ℕ → ℕ → List ℕ
well_with kind count = map (λ bytes. cond (well_formed kind (entry_laid kind count bytes)) 1 0) (0 ∷ 1 ∷ 2 ∷ [])

-- R14. The same for the counts 0, 1, 2 and 255.
abbrev pub well_rows : ℕ → List (List ℕ)
well_rows kind = map (well_with kind) (0 ∷ 1 ∷ 2 ∷ 255 ∷ [])

-- R12. Those rows for commands of both types and for responses.
abbrev pub rows_from_none : List (List ℕ)
rows_from_none = (1 ∷ 0 ∷ 0 ∷ []) ∷ (0 ∷ 1 ∷ 1 ∷ []) ∷ (0 ∷ 1 ∷ 1 ∷ []) ∷ (0 ∷ 1 ∷ 1 ∷ []) ∷ []

-- R12. And for notifications, whose count starts from 1.
abbrev pub rows_from_one : List (List ℕ)
rows_from_one = (0 ∷ 0 ∷ 0 ∷ []) ∷ (1 ∷ 0 ∷ 0 ∷ []) ∷ (0 ∷ 1 ∷ 1 ∷ []) ∷ (0 ∷ 1 ∷ 1 ∷ []) ∷ []

-- Theorem. No parameters and no parameter bytes are the same, for each type: the least count exactly where the part is empty.
pub record CountTells : Type 0 where
  pub tells : (kind : ℕ) (e : List ℕ) → well_formed kind e ≡ true
      → NoneIsBare (least_count kind) (count_given kind e) (drop (parameter_offset kind e) e)
  -- a higher count in an entry that ends at its parameter offset is no entry, at the front of whatever bytes
  pub announced : (kind : ℕ) (t : List ℕ) → be32_at t 0 ≡ parameter_offset kind t → least_count kind < count_given kind t
      → entry_size kind t ≡ 0
  -- the least count is 1 for a notification, and 0 for the others
  pub least : least_count notification ≡ 1
  pub others : (kind : ℕ) → (kind ≡ notification → ⊥) → least_count kind ≡ 0
  -- types 0 to 3, computed
  pub worked : map well_rows (0 ∷ 1 ∷ notification ∷ response ∷ []) ≡ rows_from_none ∷ rows_from_none ∷ rows_from_one ∷ rows_from_none ∷ []
