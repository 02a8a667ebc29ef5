-- R80. Input that comes in pieces is listed as the whole.
use Rattle.std.specs.Prelude.{ℕ, ◌+◌, ◌≤◌, ◌≡◌, List, [], ◌∷◌, ◌++◌, Bool, cond, true, false, length}
use Rattle.laws.specs.Lists.{joined}
use Rattle.frame.specs.Limits.{greatest_size}
use Rattle.frame.specs.Decide.{decide}
use Rattle.frame.specs.declared.Decision.{Decision}
use Rattle.frame.specs.declared.Decision.TheVariants.{Undecided, Faulty, Sound}
use Rattle.lines.specs.Scaffold.{Puts}
use Rattle.lister.specs.declared.Piece.{Piece}
use Rattle.split.specs.Split.{sound_messages}
use Rattle.lister.specs.Listing.{lines_of, last_line, listed_bytes, unlisted, listing_from, listing}

-- R79. The last line is due: the input ends, or a fault stops the listing.
unfoldable pub over_by : Bool → Decision → Bool
over_by end Undecided = end
over_by end (Faulty f n) = true
over_by end (Sound n) = end

-- R79. The last line is due behind the sound messages of s.
unfoldable pub over : Bool → List ℕ → Bool
over end s = over_by end (decide (unlisted s))

-- R80. What is printed of the bytes s, which stand at the offset at; end says that the input ends with them.
unfoldable pub piece_text : Bool → ℕ → List ℕ → List ℕ
piece_text end at s = lines_of at (sound_messages s) ++ cond (over end s) (last_line (at + listed_bytes s) (unlisted s)) []

-- R80. The bytes s, which stand from the offset on, were listed.
pub record ListsPiece (end : Bool) (offset : ℕ) (s before after : List ℕ) (r : Piece) : Type 0 where
  pub used : r.used ≡ listed_bytes s
  pub within : r.used ≤ length s
  pub over : r.over ≡ over end s
  pub puts : Puts (piece_text end offset s) before 0 after r.put
  pub room : r.put ≤ length after

-- R80. What is printed of some pieces, with what was left unlisted put before the next.
unfoldable pub printed : ℕ → List ℕ → List (List ℕ) → List ℕ
printed at held [] = piece_text true at held
printed at held (p ∷ ps) =
    piece_text false at (held ++ p)
    ++ cond (over false (held ++ p)) [] (printed (at + listed_bytes (held ++ p)) (unlisted (held ++ p)) ps)

-- Theorem. However the input is cut, what is printed is its listing.
pub record Pieces : Type 0 where
  -- however the input is cut, what is printed is its listing
  pub whole : (ps : List (List ℕ)) → printed 0 [] ps ≡ listing (joined ps)
  -- the same from any offset, with some bytes held
  pub from : (at : ℕ) (held : List ℕ) (ps : List (List ℕ)) → printed at held ps ≡ listing_from at (held ++ joined ps)
  -- no sound message is left at the front of what is unlisted
  pub all : (s : List ℕ) (n : ℕ) → decide (unlisted s) ≡ Sound n → ⊥
  -- at most 2,048 bytes are left where the listing goes on
  pub short : (s : List ℕ) → over false s ≡ false → length (unlisted s) ≤ greatest_size
