-- Tests and searches over a list, for any element type: no rule is here.
use Rattle.std.specs.Prelude.{ℕ, suc, ◌+◌, ◌*◌, Bool, true, cond, ◌&&◌, List, [], ◌∷◌, ◌++◌}
use Rattle.std.specs.List.{list_all, list_any}

-- Every element meets the test.
abbrev pub all : {A : Type 0} → (A → Bool) → List A → Bool
all p xs = list_all p xs

-- Some element meets the test.
abbrev pub any : {A : Type 0} → (A → Bool) → List A → Bool
any p xs = list_any p xs

-- Every element stands in r to each one after it.
abbrev pub all_pairs : {A : Type 0} → (A → A → Bool) → List A → Bool
all_pairs r [] = true
all_pairs r (x ∷ xs) = all (r x) xs && all_pairs r xs

-- The place of the first element that meets the test, or the length.
abbrev pub index : {A : Type 0} → (A → Bool) → List A → ℕ
index p [] = 0
index p (x ∷ xs) = cond (p x) 0 (suc (index p xs))

-- Bit n is set where element n meets the test.
abbrev pub mask : {A : Type 0} → (A → Bool) → List A → ℕ
mask p [] = 0
mask p (x ∷ xs) = cond (p x) 1 0 + 2 * mask p xs

-- Lists, one behind another.
abbrev pub joined : {A : Type 0} → List (List A) → List A
joined [] = []
joined (xs ∷ xss) = xs ++ joined xss
