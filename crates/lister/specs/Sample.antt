-- R83. The listing's example.
use Rattle.std.specs.Prelude.{ℕ, ◌≡◌, List, [], ◌∷◌, ◌++◌}
use Rattle.reader.specs.Examples.{keep_alive2s, lock4097}
use Rattle.lines.specs.Text.{space, newline}
use Rattle.lister.specs.Listing.{listing}

-- R83. The 2 s keep-alive, the lock and one byte 00.
abbrev pub sample_input : List ℕ
sample_input = keep_alive2s ++ (lock4097 ++ (0x00 ∷ []))

-- R83. Its three lines.
abbrev pub sample_text : List ℕ
sample_text =
    48 ∷ space ∷ 52 ∷ space ∷ 49 ∷ space ∷ 49 ∷ 49 ∷ newline
    ∷ 49 ∷ 50 ∷ space ∷ 49 ∷ space ∷ 49 ∷ space ∷ 50 ∷ 54 ∷ newline
    ∷ 51 ∷ 57 ∷ space ∷ 115 ∷ 116 ∷ 111 ∷ 112 ∷ space ∷ 49 ∷ newline ∷ []

-- Theorem. That input is listed as these lines.
abbrev pub SampleListed : Type 0
SampleListed = listing sample_input ≡ sample_text
