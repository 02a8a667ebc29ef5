-- R21, R22. The context of entry i, a part of the caller's message as its parameters are.
use Rattle.std.specs.Prelude.{ℕ, ◌+◌, ◌-◌, ◌≤◌, ◌≡◌, List, [], Bool, cond, ◌&&◌, length, take, drop, eqb}
use Rattle.frame.specs.Limits.{notification}
use Rattle.frame.specs.Places.{context_place}
use Rattle.frame.specs.Header.{pdu_type, message_count}
use Rattle.frame.specs.Decide.{decide}
use Rattle.frame.specs.declared.Decision.{Decision}
use Rattle.frame.specs.declared.Decision.TheVariants.{Undecided, Faulty, Sound}
use Rattle.fields.specs.Place.{entries_from, context_of}
use Rattle.reader.specs.declared.Part.{Part}
use Rattle.reader.specs.Read.{data_of}
use Rattle.reader.specs.Entry.{has_entry, entry_at}

-- R21. The context of entry i of a sound message.
unfoldable pub context_in : List ℕ → ℕ → ℕ → List ℕ
context_in s n i = cond (has_entry (pdu_type s) (message_count s) i) (context_of (pdu_type s) (entry_at s n i)) []

-- R21. The context by what the bytes decide.
unfoldable pub context_by : Decision → List ℕ → ℕ → List ℕ
context_by Undecided s i = []
context_by (Faulty f n) s i = []
context_by (Sound n) s i = context_in s n i

-- R21. The context of entry i of the message at the front of s; none where the entry is refused or is no notification.
unfoldable pub entry_context : List ℕ → ℕ → List ℕ
entry_context s i = context_by (decide s) s i

-- R22. The message has an entry i, and that is a notification.
unfoldable pub has_context : List ℕ → ℕ → Bool
has_context s i = has_entry (pdu_type s) (message_count s) i && eqb (pdu_type s) notification

-- R22. Where the context starts in a sound message: behind its count.
unfoldable pub context_start_in : List ℕ → ℕ → ℕ → ℕ
context_start_in s n i = cond (has_context s i) ((n - length (entries_from i (pdu_type s) (data_of s n))) + context_place) 0

-- R22. Where it starts, by what the bytes decide.
unfoldable pub context_start_by : Decision → List ℕ → ℕ → ℕ
context_start_by Undecided s i = 0
context_start_by (Faulty f n) s i = 0
context_start_by (Sound n) s i = context_start_in s n i

-- R22. Where the context of entry i starts in the caller's bytes.
unfoldable pub context_start : List ℕ → ℕ → ℕ
context_start s i = context_start_by (decide s) s i

-- R21, R68. What asking for the context of entry i promises.
abbrev pub GivesContext : List ℕ → ℕ → List ℕ → Type 0
GivesContext s i context = context ≡ entry_context s i

-- R21, R22, R68. What asking where that context stands promises: its start and its length.
abbrev pub PlacesContext : List ℕ → ℕ → Part → Type 0
PlacesContext s i r = (r.start ≡ context_start s i) × (r.length ≡ length (entry_context s i))

-- Theorem. From its start on, as long as it is, the caller's bytes are the context, and they have that many.
pub record ContextStands : Type 0 where
  pub there : (s : List ℕ) (i : ℕ) → take (length (entry_context s i)) (drop (context_start s i) s) ≡ entry_context s i
  pub within : (s : List ℕ) (i : ℕ) → context_start s i + length (entry_context s i) ≤ length s
