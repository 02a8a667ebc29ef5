-- R72. The text of an address, read and written.
use Rattle.std.specs.Prelude.{ℕ, ◌+◌, ◌-◌, ◌*◌, List, [], ◌∷◌, ◌++◌, map, Bool, true, false, cond, ◌&&◌, eqb, leb}
use Rattle.std.specs.Prelude.{Option, Some, None}
use Rattle.laws.specs.Decimal.{decimal_of}

-- R72. What one of the texts between the points says.
pub record Part : Type 0 where
  pub sound : Bool
  pub number : ℕ

-- R72. What a text says: the address is all zero where the text is not sound.
pub record Dotted : Type 0 where
  pub sound : Bool
  pub address : List ℕ

-- R72. The point, in ASCII.
abbrev pub dot : ℕ
dot = 46

-- R72. The byte that parts two fields.
unfoldable pub is_dot : ℕ → Bool
is_dot x = eqb x dot

-- R72. '0' to '9'.
unfoldable pub is_digit : ℕ → Bool
is_digit x = leb 48 x && leb x 57

-- R72. '1' to '9', the first of several digits.
unfoldable pub is_leading : ℕ → Bool
is_leading x = leb 49 x && leb x 57

-- R72. The number of a digit.
unfoldable pub digit_value : ℕ → ℕ
digit_value x = x - 48

-- R72. A text that is no part.
abbrev pub no_part : Part
no_part = record { sound = false; number = 0 }

-- R72. A part of that number, if these are digits and it is at most 255.
unfoldable pub part_if : Bool → ℕ → Part
part_if digits n = cond (digits && leb n 255) (record { sound = true; number = n }) no_part

-- R72. One digit, '0' too.
unfoldable pub one_digit : ℕ → Part
one_digit a = part_if (is_digit a) (digit_value a)

-- R72. Two digits, the first not '0'.
unfoldable pub two_digits : ℕ → ℕ → Part
two_digits a b = part_if (is_leading a && is_digit b) (digit_value a * 10 + digit_value b)

-- R72. Three digits, the first not '0'.
unfoldable pub three_digits : ℕ → ℕ → ℕ → Part
three_digits a b c = part_if (is_leading a && is_digit b && is_digit c) (digit_value a * 100 + digit_value b * 10 + digit_value c)

-- R72. One part; a text of no digit, or of more than three, is none.
unfoldable pub text_part : List ℕ → Part
text_part [] = no_part
text_part (a ∷ []) = one_digit a
text_part (a ∷ b ∷ []) = two_digits a b
text_part (a ∷ b ∷ c ∷ []) = three_digits a b c
text_part (a ∷ b ∷ c ∷ d ∷ s) = no_part

-- R72. A byte in front of the first field.
unfoldable pub onto : ℕ → List (List ℕ) → List (List ℕ)
onto x [] = (x ∷ []) ∷ []
onto x (f ∷ fs) = (x ∷ f) ∷ fs

-- R72. What stands before, between and behind the points.
unfoldable pub text_fields : List ℕ → List (List ℕ)
text_fields [] = [] ∷ []
text_fields (x ∷ t) = cond (is_dot x) ([] ∷ text_fields t) (onto x (text_fields t))

-- R72. A text that is no address: zeros.
abbrev pub not_dotted : Dotted
not_dotted = record { sound = false; address = 0 ∷ 0 ∷ 0 ∷ 0 ∷ [] }

-- R72. An address: its four numbers in the order of the text.
abbrev pub dotted_as : ℕ → ℕ → ℕ → ℕ → Dotted
dotted_as a b c d = record { sound = true; address = a ∷ b ∷ c ∷ d ∷ [] }

-- R72. All four parts are sound.
unfoldable pub four_parts : Part → Part → Part → Part → Dotted
four_parts a b c d =
    cond (a.sound && b.sound && c.sound && d.sound) (dotted_as a.number b.number c.number d.number) not_dotted

-- R72. Four parts, neither fewer nor more.
unfoldable pub of_parts : List Part → Dotted
of_parts [] = not_dotted
of_parts (a ∷ []) = not_dotted
of_parts (a ∷ b ∷ []) = not_dotted
of_parts (a ∷ b ∷ c ∷ []) = not_dotted
of_parts (a ∷ b ∷ c ∷ d ∷ []) = four_parts a b c d
of_parts (a ∷ b ∷ c ∷ d ∷ e ∷ ps) = not_dotted

-- R72. The parts of a text, sound or not.
unfoldable pub parts_of : List ℕ → List Part
parts_of t = map text_part (text_fields t)

-- R72. What a text says.
unfoldable pub dotted_of : List ℕ → Dotted
dotted_of t = of_parts (parts_of t)

-- R72. The text of numbers: each in decimal, a point between two.
unfoldable pub text_of : List ℕ → List ℕ
text_of [] = []
text_of (n ∷ []) = decimal_of n
text_of (n ∷ m ∷ ns) = decimal_of n ++ (dot ∷ text_of (m ∷ ns))

-- R72. The address of a text that is sound.
abbrev pub address_in : Dotted → Option (List ℕ)
address_in d = cond d.sound (Some d.address) None
