-- R4, and refusal 2. The lent area, what clears it, and the counts that go with it.
use Rattle.std.specs.Prelude.{ℕ, suc, ◌*◌, List, [], ◌∷◌, Bool, cond, true, false, not, ◌&&◌, length, take, drop, eqb, leb}
use Rattle.std.proofs.lemmas.List.Edits.{sets}
use Rattle.octets.specs.Zeros.{zeros, all_zero}
use Rattle.frame.specs.Limits.{greatest_size, longest_message}
use Rattle.frame.specs.Decide.{decide, settled}

-- R4. The bytes of one connection's part.
abbrev pub part_bytes : ℕ
part_bytes = longest_message

-- R4. The bytes of the area.
abbrev pub area_bytes : ℕ
area_bytes = 16392

-- R4. Where connection n's part starts.
abbrev pub part_at : ℕ → ℕ
part_at n = n * part_bytes

-- R63. A part is sound: its first k bytes are undecided, and zeros stand behind them.
unfoldable pub part_sound : ℕ → List ℕ → Bool
part_sound k part = not (settled (decide (take k part))) && all_zero (drop k part)

-- R63. Each part is sound by its connection's count, which held has.
unfoldable pub parts_sound : List ℕ → List ℕ → Bool
parts_sound [] area = true
parts_sound (k ∷ held) area = part_sound k (take part_bytes area) && parts_sound held (drop part_bytes area)

-- R63. Refusal 2 does not apply: the length is right and each part sound.
unfoldable pub area_sound : List ℕ → List ℕ → Bool
area_sound held area = cond (eqb (length area) area_bytes) (parts_sound held area) false

-- R4. The k undecided bytes of connection n.
unfoldable pub undecided_of : List ℕ → ℕ → ℕ → List ℕ
undecided_of area n k = take k (drop (part_at n) area)

-- R31, R60. Connection n's part all zeros.
unfoldable pub part_cleared : List ℕ → ℕ → List ℕ
part_cleared area n = sets area (part_at n) (zeros part_bytes)

-- R56. The part of each connection that is not open all zeros, from connection n on.
unfoldable pub cleared_from : ℕ → List Bool → List ℕ → List ℕ
cleared_from n [] area = area
cleared_from n (live ∷ lives) area = cleared_from (suc n) lives (cond live area (part_cleared area n))

-- R56. The part of each connection that is not open all zeros.
unfoldable pub closed_cleared : List Bool → List ℕ → List ℕ
closed_cleared lives area = cleared_from 0 lives area

-- R56. The count of each connection that is not open 0.
unfoldable pub held_kept : List Bool → List ℕ → List ℕ
held_kept [] held = held
held_kept (live ∷ lives) [] = []
held_kept (live ∷ lives) (k ∷ held) = cond live k 0 ∷ held_kept lives held

-- R61. Row e: a connection's count keeps its rule.
unfoldable pub count_obeys : Bool → ℕ → Bool
count_obeys live k = cond live (leb k greatest_size) (eqb k 0)

-- R61. Row e: all counts keep their rule.
unfoldable pub held_obeys : List Bool → List ℕ → Bool
held_obeys [] held = true
held_obeys (live ∷ lives) [] = true
held_obeys (live ∷ lives) (k ∷ held) = count_obeys live k && held_obeys lives held
