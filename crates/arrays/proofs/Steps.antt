use Rattle.std.proofs.Common.{◌≡◌, ℕ, suc, ◌<◌, refl, List, [], ◌∷◌, map, length, get_or, arith}

-- what is f of another list's element at each place is its map
pub map_by_index : {A : Type 0} (h : A → A) (xs ys : List A) → length ys ≡ length xs → ((k : ℕ) (d : A) → k < length xs → get_or ys k d ≡ h (get_or xs k d)) → ys ≡ map h xs
map_by_index h [] [] l e = refl
map_by_index h [] (y ∷ ys) l e = absurd (omega arith)
map_by_index h (x ∷ xs) [] l e = absurd (omega arith)
map_by_index {A} h (x ∷ xs) (y ∷ ys) l e =
    let a : y ≡ h x = e 0 x (omega arith) in
    let b : ys ≡ map h xs = map_by_index h xs ys (omega arith) (λ (k : ℕ) (d : A) q. e (suc k) d (omega arith)) in
    cc
