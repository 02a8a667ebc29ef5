-- R78, R79. The lines of the listing.
use Rattle.std.specs.Prelude.{ℕ, List, [], ◌∷◌, ◌++◌}
use Rattle.laws.specs.Decimal.{decimal_of}

-- R78. A space, in ASCII.
abbrev pub space : ℕ
space = 32

-- R78. A newline, in ASCII.
abbrev pub newline : ℕ
newline = 10

-- R78. A number and the byte that parts it from what follows.
unfoldable pub number_text : ℕ → ℕ → List ℕ
number_text n mark = decimal_of n ++ (mark ∷ [])

-- R79. The word stop and a space.
abbrev pub stop_word : List ℕ
stop_word = 115 ∷ 116 ∷ 111 ∷ 112 ∷ space ∷ []

-- R79. The word part and a space.
abbrev pub part_word : List ℕ
part_word = 112 ∷ 97 ∷ 114 ∷ 116 ∷ space ∷ []

-- R79. The word end and a newline.
abbrev pub end_word : List ℕ
end_word = 101 ∷ 110 ∷ 100 ∷ newline ∷ []

-- R78. The line of a message: offset, type, messageCount, pduSize.
unfoldable pub message_line : ℕ → ℕ → ℕ → ℕ → List ℕ
message_line at kind count size = number_text at space ++ (number_text kind space ++ (number_text count space ++ number_text size newline))

-- R79. The last line where a fault stands.
unfoldable pub stop_line : ℕ → ℕ → List ℕ
stop_line at fault = number_text at space ++ (stop_word ++ number_text fault newline)

-- R79. The last line where undecided bytes are left.
unfoldable pub part_line : ℕ → ℕ → List ℕ
part_line at left = number_text at space ++ (part_word ++ number_text left newline)

-- R79. The last line where nothing is left.
unfoldable pub end_line : ℕ → List ℕ
end_line at = number_text at space ++ end_word
