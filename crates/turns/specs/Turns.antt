-- R80. What one turn of the listing does: it reads a piece, lists it and hands its text over.
use Rattle.std.specs.Prelude.{ℕ, ◌+◌, ◌≤◌, ◌<◌, ◌≡◌, ◌≢◌, List, ◌++◌, Bool, true, false, length, take, drop, eqb}
use Rattle.std.specs.Prelude.{IfSome, IsOk, Ok, Err, Some, None}
use Rattle.std.specs.declared.option.Option.{Option}
use Rattle.std.specs.declared.result.Result.{Result}
use Rattle.std.specs.Io.KnownBytes.{Consumes, Appends, IsAtEnd}
use Rattle.lister.specs.Listing.{listed_bytes, unlisted}
use Rattle.lister.specs.Pieces.{over, piece_text}
use Rattle.turns.specs.declared.Held.{Held}
use Rattle.turns.specs.declared.Stopped.{Stopped}
use Rattle.turns.specs.declared.Stopped.TheVariants.{Unread, Unsaid, Limit}

-- R80. The listing goes on: at least a byte was read, no fault was met, and what is unlisted is held.
pub record Goes (offset : ℕ) (held piece input : List ℕ) (r : Held) : Type 0 where
  pub some : 0 < length piece
  pub on : over false (held ++ piece) ≡ false
  pub next : r.offset ≡ offset + listed_bytes (held ++ piece)
  pub count : r.held ≡ length (unlisted (held ++ piece))
  pub kept : take r.held input ≡ unlisted (held ++ piece)

-- R80. A read took a piece from place at of the tape: none at its end alone.
pub record FromTape (tape : List ℕ) (at : ℕ) (piece : List ℕ) : Type 0 where
  pub read : piece ≡ take (length piece) (drop at tape)
  pub end : length piece ≡ 0 → length tape ≤ at

-- R80. Some text was handed over to be kept behind the bytes that were kept before; it was not where there is no room.
pub record TextKept (said : List ℕ) (before : List ℕ) (handed : ℕ) (after : List ℕ) (r : ℕ) (unwritten : Bool) : Type 0 where
  pub all : unwritten ≡ false → take r after ≡ take handed before ++ said
  pub none : unwritten ≡ true → take r after ≡ take handed before
  pub full : unwritten ≡ true → length after < handed + length said

-- R80. The text of the piece that was read behind the bytes held.
abbrev pub turn_text : ℕ → List ℕ → List ℕ → List ℕ
turn_text offset held piece = piece_text (eqb (length piece) 0) offset (held ++ piece)

-- R80. A piece was read, none where the input ended or could not be read, and its text handed over from the front of the output's buffer.
-- left and left' are the bytes left to read, text and text' those handed over, room those that there is room for: where they are known.
pub record Turned (left left' : Option (List ℕ)) (sure : Bool) (text text' : Option (List ℕ)) (room room' : Option ℕ) (offset : ℕ)
    (held : List ℕ) (input out : List ℕ) (r : Result (Option Held) Stopped) : Type 0 where
  pub piece : List ℕ
  pub taken : ℕ
  pub put : take (length (turn_text offset held piece)) out ≡ turn_text offset held piece
  pub goes : (h : Held) → r ≡ Ok (Some h) → Goes offset held piece input h
  pub last : r ≡ Ok None → over (eqb (length piece) 0) (held ++ piece) ≡ true
  pub counted : (h : Held) → r ≢ Err (Limit h)
  -- what was read
  pub read : Consumes left left' piece
  pub end : r ≢ Err Unread → length piece ≡ 0 → IsAtEnd left'
  pub none : r ≡ Err Unread → length piece ≡ 0
  pub told : sure ≡ true → r ≢ Err Unread
  -- what was handed over
  pub takes : Appends text text' (take taken (turn_text offset held piece))
  pub all : IsOk r → taken ≡ length (turn_text offset held piece)
  pub full : r ≡ Err Unsaid → IfSome room (λ n. IfSome text (λ t. n < length t + length (turn_text offset held piece)))
  pub same : room' ≡ room

-- R80. The same, and where it ends with Unsaid and the room is known, none of the text was handed over.
pub record TurnedWhole (left left' : Option (List ℕ)) (sure : Bool) (text text' : Option (List ℕ)) (room room' : Option ℕ) (offset : ℕ)
    (held : List ℕ) (input out : List ℕ) (r : Result (Option Held) Stopped) : Type 0 where
  pub turned : Turned left left' sure text text' room room' offset held input out r
  pub unsaid : r ≡ Err Unsaid → IfSome room (λ n. turned.taken ≡ 0)
