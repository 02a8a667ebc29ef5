-- R80. What the loop has read and handed over: while it goes on, and when it ends.
use Rattle.std.specs.Prelude.{ℕ, ◌+◌, ◌≤◌, ◌<◌, ◌≡◌, ◌≢◌, List, [], ◌++◌, Bool, true, false, length, take, IfSome, is_ok, IsOk, Err, None}
use Rattle.std.specs.declared.option.Option.{Option}
use Rattle.std.specs.declared.result.Result.{Result}
use Rattle.std.specs.Io.KnownBytes.{Consumes, Appends}
use Rattle.split.specs.Split.{sound_messages}
use Rattle.lister.specs.Listing.{lines_of, listed_bytes, unlisted, listing}
use Rattle.turns.specs.declared.Held.{Held}
use Rattle.turns.specs.declared.Stopped.{Stopped}
use Rattle.turns.specs.declared.Stopped.TheVariants.{Unread, Unsaid, Limit}
use Rattle.turns.specs.Scaffold.{greatest_offset}

-- R80. So far `seen` was read and `said` handed over to be written: a line for each message of what was read; what is unlisted is held.
-- left₀ and text₀ are what was left to read and handed over when the loop began, left and text what is now: where they are known.
pub record ListingRuns (left₀ left text₀ text : Option (List ℕ)) (input : List ℕ) (offset held : ℕ) : Type 0 where
  pub seen : List ℕ
  pub said : List ℕ
  pub count : offset + held ≡ length seen
  pub listed : offset ≡ listed_bytes seen
  pub left_is : take held input ≡ unlisted seen
  pub lines : said ≡ lines_of 0 (sound_messages seen)
  pub read : Consumes left₀ left seen
  pub kept : Appends text₀ text said

-- R80. The loop ended: with the last line, which Ok says, by a failure, or at the offset's limit.
-- room is how many bytes of text there is room for, where that is known; sure says that no read can fail.
pub record ListingEnds (left₀ left : Option (List ℕ)) (sure : Bool) (text₀ text : Option (List ℕ)) (room : Option ℕ)
    (r : Result (Unit {0}) Stopped) : Type 0 where
  -- what was read, what was handed over to be written, and what was not
  pub seen : List ℕ
  pub said : List ℕ
  pub unsaid : List ℕ
  pub front : said ++ unsaid ≡ listing seen
  pub whole : IsOk r → said ≡ listing seen
  pub limit : (h : Held) → r ≡ Err (Limit h) → greatest_offset ≤ h.offset
  pub count : (h : Held) → r ≡ Err (Limit h) → h.offset + h.held ≡ length seen
  -- where the bytes are known, they are these
  pub read : Consumes left₀ left seen
  pub kept : Appends text₀ text said
  pub told : sure ≡ true → r ≢ Err Unread
  -- over known bytes, and what was not handed over of their listing
  pub rest : List ℕ
  pub known_front : r ≢ Err Unread → IfSome left₀ (λ t. said ++ rest ≡ listing t)
  pub known_whole : IsOk r → rest ≡ []
  pub full : r ≡ Err Unsaid → IfSome left₀ (λ t. IfSome room (λ n. IfSome text₀ (λ k. n < length k + length (listing t))))

-- R80. The listing of a reader answers true where it ended with the last line, and nothing failed.
pub record DescriptorListed (left₀ left text₀ text : Option (List ℕ)) (r : Bool) : Type 0 where
  pub stopped : Result (Unit {0}) Stopped
  pub ended : ListingEnds left₀ left false text₀ text None stopped
  pub answer : r ≡ is_ok stopped
  -- then the listing of all that was known to be left was handed over
  pub whole : r ≡ true → IfSome left₀ (λ t. Appends text₀ text (listing t))

-- R80. What is kept over a tape is a front of its listing, however it was cut into reads; all of it where there is room, and the
-- tape's offsets can be counted.
pub record TapeListed (tape text : List ℕ) (r : ℕ) : Type 0 where
  pub rest : List ℕ
  pub place : r ≤ length text
  pub front : take r text ++ rest ≡ listing tape
  pub whole : length tape < greatest_offset → length (listing tape) ≤ length text → rest ≡ []
