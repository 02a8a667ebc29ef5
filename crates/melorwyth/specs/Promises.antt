-- R68, R69. What each function promises C of the struct handed back and of the bytes lent, and that it allows one result.
use Rattle.std.specs.Prelude.{ℕ, ◌≡◌, List}
use Rattle.reader.specs.Read.{read_of}
use Rattle.reader.specs.Entry.{entry_of}
use Rattle.endpoint.specs.State.{fresh_state}
use Rattle.endpoint.specs.Calls.{clear_answer, cleared_area, open_call, close_call, tick_call}
use Rattle.endpoint.specs.Deliver.{deliver_call}
use Rattle.endpoint.specs.Take.{take_call}
use Rattle.endpoint.specs.Tell.{AllowsOne, AllowsOneLent, AllowsOneLentTwo}
use Rattle.endpoint.specs.declared.Record.{Record}
use Rattle.reset.specs.Datagram.{datagram_call}
use Rattle.writer.specs.Write.{start_of, append_of, keep_alive_of}
use Rattle.melorwyth.specs.Answers.{cleared_of, opened_of, closed_of, ticked_of, delivered_of, taken_of, reset_of}
use Rattle.melorwyth.specs.Messages.{reading_of, entry_from, part_from, context_from, written_of}
use Rattle.melorwyth.specs.declared.Cleared.{Cleared}
use Rattle.melorwyth.specs.declared.Opened.{Opened}
use Rattle.melorwyth.specs.declared.Closed.{Closed}
use Rattle.melorwyth.specs.declared.Ticked.{Ticked}
use Rattle.melorwyth.specs.declared.Delivered.{Delivered}
use Rattle.melorwyth.specs.declared.Taken.{Taken}
use Rattle.melorwyth.specs.declared.Reset.{Reset}
use Rattle.melorwyth.specs.declared.messages.Reading.{Reading}
use Rattle.melorwyth.specs.declared.messages.Entry.{Entry}
use Rattle.melorwyth.specs.declared.messages.Part.{Part}
use Rattle.melorwyth.specs.declared.messages.Written.{Written}

-- R69. The version that header and archive both tell, 0.1.0: the first number times 65,536, the second times 256, the third.
abbrev pub library_version : ℕ
library_version = 256

-- R69. Version.
abbrev pub VersionHands : ℕ → Type 0
VersionHands r = r ≡ library_version

-- R57, R69. Fresh.
abbrev pub FreshHands : ℕ → Record → Type 0
FreshHands reading r = r ≡ fresh_state reading

-- R67, R69. Clear.
abbrev pub ClearHands : List ℕ → Cleared → List ℕ → Type 0
ClearHands area r left = (r ≡ cleared_of (clear_answer area)) × (left ≡ cleared_area area)

-- R58, R69. Open.
abbrev pub OpenHands : Record → Opened → Type 0
OpenHands state r = r ≡ opened_of (open_call state)

-- R59, R69. Close.
abbrev pub CloseHands : Record → List ℕ → ℕ → Closed → List ℕ → Type 0
CloseHands state area n r left = (r ≡ closed_of (close_call state area n)) × (left ≡ (close_call state area n).area)

-- R56, R69. Tick.
abbrev pub TickHands : Record → List ℕ → ℕ → Ticked → List ℕ → Type 0
TickHands state area reading r left = (r ≡ ticked_of (tick_call state area reading)) × (left ≡ (tick_call state area reading).area)

-- R28, R69. Deliver.
abbrev pub DeliverHands : Record → List ℕ → ℕ → List ℕ → List ℕ → Delivered → List ℕ → List ℕ → Type 0
DeliverHands state area n piece output r left written =
    let o = deliver_call state area n piece output in
    (r ≡ delivered_of o) × (left ≡ o.area) × (written ≡ o.output)

-- R49, R69. Take.
abbrev pub TakeHands : Record → List ℕ → Taken → List ℕ → Type 0
TakeHands state output r written = (r ≡ taken_of (take_call state output)) × (written ≡ (take_call state output).output)

-- R69, R77. Datagram.
abbrev pub DatagramHands : Record → List ℕ → List ℕ → Reset → List ℕ → Type 0
DatagramHands state area datagram r left =
    (r ≡ reset_of (datagram_call state area datagram)) × (left ≡ (datagram_call state area datagram).area)

-- R19, R69. Read a message.
abbrev pub ReadingHands : List ℕ → Reading → Type 0
ReadingHands bytes r = r ≡ reading_of (read_of bytes)

-- R20, R69. Read an entry.
abbrev pub EntryHands : List ℕ → ℕ → Entry → Type 0
EntryHands bytes index r = r ≡ entry_from (entry_of bytes index)

-- R21, R22, R69. An entry's part.
abbrev pub PartHands : List ℕ → ℕ → Part → Type 0
PartHands bytes index r = r ≡ part_from bytes index

-- R21, R22, R69. An entry's context.
abbrev pub ContextHands : List ℕ → ℕ → Part → Type 0
ContextHands bytes index r = r ≡ context_from bytes index

-- R25, R69. Start.
abbrev pub StartHands : List ℕ → ℕ → List ℕ → Written → List ℕ → Type 0
StartHands buffer kind entry r left = (r ≡ written_of (start_of buffer kind entry).answer) × (left ≡ (start_of buffer kind entry).buffer)

-- R26, R69. Append.
abbrev pub AppendHands : List ℕ → ℕ → List ℕ → Written → List ℕ → Type 0
AppendHands buffer kind entry r left = (r ≡ written_of (append_of buffer kind entry).answer) × (left ≡ (append_of buffer kind entry).buffer)

-- R27, R69. Keep-alive.
abbrev pub KeepAliveHands : List ℕ → ℕ → ℕ → Written → List ℕ → Type 0
KeepAliveHands buffer form value r left =
    (r ≡ written_of (keep_alive_of buffer form value).answer) × (left ≡ (keep_alive_of buffer form value).buffer)

-- Theorem. Each function's promise, as its contract states it, allows one struct, and leaves the bytes lent in one way.
pub record HandedTell : Type 0 where
  pub version : AllowsOne ℕ VersionHands
  pub fresh : (reading : ℕ) → AllowsOne Record (FreshHands reading)
  pub cleared : (area : List ℕ) → AllowsOneLent Cleared (ClearHands area)
  pub opened : (state : Record) → AllowsOne Opened (OpenHands state)
  pub closed : (state : Record) (area : List ℕ) (n : ℕ) → AllowsOneLent Closed (CloseHands state area n)
  pub ticked : (state : Record) (area : List ℕ) (reading : ℕ) → AllowsOneLent Ticked (TickHands state area reading)
  pub delivered : (state : Record) (area : List ℕ) (n : ℕ) (piece output : List ℕ)
      → AllowsOneLentTwo Delivered (DeliverHands state area n piece output)
  pub taken : (state : Record) (output : List ℕ) → AllowsOneLent Taken (TakeHands state output)
  pub reset : (state : Record) (area datagram : List ℕ) → AllowsOneLent Reset (DatagramHands state area datagram)
  pub read : (bytes : List ℕ) → AllowsOne Reading (ReadingHands bytes)
  pub entry : (bytes : List ℕ) (index : ℕ) → AllowsOne Entry (EntryHands bytes index)
  pub part : (bytes : List ℕ) (index : ℕ) → AllowsOne Part (PartHands bytes index)
  pub context : (bytes : List ℕ) (index : ℕ) → AllowsOne Part (ContextHands bytes index)
  pub started : (buffer : List ℕ) (kind : ℕ) (entry : List ℕ) → AllowsOneLent Written (StartHands buffer kind entry)
  pub appended : (buffer : List ℕ) (kind : ℕ) (entry : List ℕ) → AllowsOneLent Written (AppendHands buffer kind entry)
  pub kept : (buffer : List ℕ) (form value : ℕ) → AllowsOneLent Written (KeepAliveHands buffer form value)
