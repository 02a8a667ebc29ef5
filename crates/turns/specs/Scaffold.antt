-- For the contracts of inner functions and for proofs: no rule is here.
use Rattle.std.specs.Prelude.{ℕ, ◌+◌, ◌≤◌, ◌<◌, ◌≡◌, List, Bool, true, false, length, take, drop, IfSome, IsOk, OnOk, OnErr}
use Rattle.std.specs.Result.{result_unwrap_or}
use Rattle.std.specs.declared.option.Option.{Option}
use Rattle.std.specs.declared.result.Result.{Result}
use Rattle.std.specs.Io.KnownBytes.{Consumes, Appends, IsAtEnd}
use Rattle.frame.specs.Limits.{greatest_size}

-- R80. The bytes that the input's buffer holds.
abbrev pub piece_bytes : ℕ
piece_bytes = 16000

-- R80. The bytes that the output's buffer holds.
abbrev pub text_bytes : ℕ
text_bytes = 65536

-- R80. Below it every offset of a piece fits 64 bits.
abbrev pub greatest_offset : ℕ
greatest_offset = 18446744073709500000

-- The buffers, and few bytes held, from an offset on that can be counted.
pub record TurnReady (input out : List ℕ) (offset held : ℕ) : Type 0 where
  pub input_length : length input ≡ piece_bytes
  pub out_length : length out ≡ text_bytes
  pub counted : offset < greatest_offset
  pub few : held ≤ greatest_size

-- Bytes were read behind those held, from the front of what was left; none at the end alone, or where the read failed.
pub record ReadsMore {E : Type 0} (left left' : Option (List ℕ)) (sure : Bool) (held : ℕ) (before after : List ℕ) (r : Result ℕ E)
    : Type 0 where
  pub fits : held + result_unwrap_or r 0 ≤ length after
  pub same : take held after ≡ take held before
  pub read : Consumes left left' (take (result_unwrap_or r 0) (drop held after))
  pub end : OnOk r (result_unwrap_or r 0 ≡ 0 → IsAtEnd left')
  pub told : sure ≡ true → IsOk r

-- s was handed over: its front alone where that failed. Where the room is known, there was none for all of it then.
pub record HandsOver {E : Type 0} (text text' : Option (List ℕ)) (room room' : Option ℕ) (s : List ℕ) (r : Result (Unit {0}) E)
    : Type 0 where
  pub taken : ℕ
  pub within : taken ≤ length s
  pub takes : Appends text text' (take taken s)
  pub same : room' ≡ room
  pub all : OnOk r (taken ≡ length s)
  pub full : OnErr r (IfSome room (λ n. IfSome text (λ t. n < length t + length s)))

-- The same where an error says, if the room is known, that none of s was taken.
pub record HandsWhole {E : Type 0} (text text' : Option (List ℕ)) (room room' : Option ℕ) (s : List ℕ) (r : Result (Unit {0}) E)
    : Type 0 where
  pub taken : ℕ
  pub within : taken ≤ length s
  pub takes : Appends text text' (take taken s)
  pub same : room' ≡ room
  pub all : OnOk r (taken ≡ length s)
  pub none : OnErr r (IfSome room (λ n. taken ≡ 0))
  pub full : OnErr r (IfSome room (λ n. IfSome text (λ t. n < length t + length s)))

-- What is said of a sink that is whole, and of no other.
abbrev pub OfWhole : Bool → Type 0 → Type 0
OfWhole true P = P
OfWhole false P = Unit {0}
