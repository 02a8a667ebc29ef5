-- What is written is read as it was given, and one result is allowed: R19 to R27 together.
use Rattle.std.specs.Prelude.{ℕ, zero, suc, ◌+◌, ◌≤◌, ◌<◌, ◌≡◌, List, [], ◌∷◌, ◌++◌, Result, length, get_or, drop}
use Rattle.laws.specs.Lists.{joined}
use Rattle.heartbeat.specs.Beat.{seconds_form, milliseconds_form, greatest_seconds, greatest_milliseconds}
use Rattle.frame.specs.Limits.{header_end, keep_alive}
use Rattle.frame.specs.Header.{pdu_type, message_count}
use Rattle.frame.specs.Entry.{entry_size}
use Rattle.fields.specs.Place.{entry_bytes, parameters_of, context_of}
use Rattle.numbers.specs.Refusal.{no_entry, not_refused, no_room}
use Rattle.reader.specs.Read.{data_of, read_of}
use Rattle.reader.specs.Entry.{fields_of, entry_at, entry_of, part_of}
use Rattle.reader.specs.Context.{entry_context}
use Rattle.numbers.specs.declared.Refusal.{Refusal}
use Rattle.writer.specs.Numbers.{written_numbers}
use Rattle.layout.specs.Message.{message, at_front}
use Rattle.writer.specs.Write.{least_room, start_of, append_of, keep_alive_of, Starts, Appends, WritesKeepAlive}

-- R25, R26. A start and appends into buf, none refused, with the entries es: the last answers n and leaves that buffer.
pub data Made (buf : List ℕ) (kind : ℕ) : List (List ℕ) → ℕ → List ℕ → Type 0 where
  started : (e : List ℕ) (n : ℕ) → (start_of buf kind e).answer ≡ not_refused ∷ n ∷ []
      → Made buf kind (e ∷ []) n (start_of buf kind e).buffer
  appended : (es : List (List ℕ)) (m : ℕ) (before e : List ℕ) (n : ℕ) → Made buf kind es m before
      → (append_of before kind e).answer ≡ not_refused ∷ n ∷ [] → Made buf kind (es ++ (e ∷ [])) n (append_of before kind e).buffer

-- R13. So many entries of that type, each as its bytes.
unfoldable pub entries_of : ℕ → ℕ → List ℕ → List (List ℕ)
entries_of zero kind t = []
entries_of (suc n) kind t = entry_bytes 0 kind t ∷ entries_of n kind (drop (entry_size kind t) t)

-- R13. The entries of the sound message of n bytes at the front of s.
abbrev pub entries_in : List ℕ → ℕ → List (List ℕ)
entries_in s n = entries_of (message_count s) (pdu_type s) (data_of s n)

-- R19, R20, R21. The message at the front of s is read as one of n bytes with that type, count, entries, parts and contexts.
pub record ReadsAs (s : List ℕ) (n kind : ℕ) (es : List (List ℕ)) : Type 0 where
  pub message : read_of s ≡ not_refused ∷ n ∷ kind ∷ length es ∷ []
  pub bytes : (i : ℕ) → i < length es → entry_at s n i ≡ get_or es i []
  pub entry : (i : ℕ) → i < length es → entry_of s i ≡ fields_of kind (get_or es i [])
  pub part : (i : ℕ) → i < length es → part_of s i ≡ parameters_of kind (get_or es i [])
  pub context : (i : ℕ) → i < length es → entry_context s i ≡ context_of kind (get_or es i [])
  pub none : (i : ℕ) → length es ≤ i → entry_of s i ≡ no_entry ∷ []

-- Theorem. What start, append (any number of times) and keep-alive write is read as it was given.
pub record ReadAfterWrite : Type 0 where
  pub start : (buf : List ℕ) (kind : ℕ) (e : List ℕ) (n : ℕ)
      → (start_of buf kind e).answer ≡ not_refused ∷ n ∷ [] → ReadsAs (start_of buf kind e).buffer n kind (e ∷ [])
  pub append : (buf : List ℕ) (m type : ℕ) (es : List (List ℕ)) (kind : ℕ) (e : List ℕ) (n : ℕ) → ReadsAs buf m type es
      → (append_of buf kind e).answer ≡ not_refused ∷ n ∷ [] → ReadsAs (append_of buf kind e).buffer n type (es ++ (e ∷ []))
  pub all : (buf : List ℕ) (kind : ℕ) (es : List (List ℕ)) (n : ℕ) (after : List ℕ) → Made buf kind es n after → ReadsAs after n kind es
  -- the bytes: the message of those entries at the buffer's front
  pub bytes : (buf : List ℕ) (kind : ℕ) (es : List (List ℕ)) (n : ℕ) (after : List ℕ) → Made buf kind es n after
      → (n ≡ length (joined es) + header_end) × (after ≡ at_front (message kind (length es) (joined es)) buf)
  pub beat : (buf : List ℕ) (form value n : ℕ) → value ≤ greatest_milliseconds
      → (keep_alive_of buf form value).answer ≡ not_refused ∷ n ∷ []
      → read_of (keep_alive_of buf form value).buffer ≡ not_refused ∷ n ∷ keep_alive ∷ 1 ∷ form ∷ value ∷ []
  -- zero and the largest values too
  pub ends : (buf : List ℕ) → least_room ≤ length buf
      → (read_of (keep_alive_of buf seconds_form 0).buffer ≡ not_refused ∷ 12 ∷ keep_alive ∷ 1 ∷ seconds_form ∷ 0 ∷ [])
      × (read_of (keep_alive_of buf seconds_form greatest_seconds).buffer
      ≡ not_refused ∷ 12 ∷ keep_alive ∷ 1 ∷ seconds_form ∷ greatest_seconds ∷ [])
      × (read_of (keep_alive_of buf milliseconds_form 0).buffer ≡ not_refused ∷ 14 ∷ keep_alive ∷ 1 ∷ milliseconds_form ∷ 0 ∷ [])
      × (read_of (keep_alive_of buf milliseconds_form greatest_milliseconds).buffer
      ≡ not_refused ∷ 14 ∷ keep_alive ∷ 1 ∷ milliseconds_form ∷ greatest_milliseconds ∷ [])

-- R68. A promise over an answer and the buffer after it allows one of each.
abbrev pub AllowsOneWriting : (Result ℕ Refusal → List ℕ → Type 0) → Type 0
AllowsOneWriting promise = (a b : Result ℕ Refusal) (s t : List ℕ) → promise a s → promise b t → (a ≡ b) × (s ≡ t)

-- Theorem. Each call's promise allows one answer and one buffer, to the last byte.
pub record OneResult : Type 0 where
  pub numbers : (a b : Result ℕ Refusal) → written_numbers a ≡ written_numbers b → a ≡ b
  pub start : (buf : List ℕ) (kind : ℕ) (e : List ℕ) → AllowsOneWriting (Starts buf kind e)
  pub append : (buf : List ℕ) (kind : ℕ) (e : List ℕ) → AllowsOneWriting (Appends buf kind e)
  pub beat : (buf : List ℕ) (form value : ℕ) → AllowsOneWriting (WritesKeepAlive buf form value)
  pub runs : (buf : List ℕ) (kind : ℕ) (es : List (List ℕ)) (m n : ℕ) (s t : List ℕ) → Made buf kind es m s → Made buf kind es n t
      → (m ≡ n) × (s ≡ t)
  -- 2,049 bytes always decide: append refuses by 4 only where the buffer is under 2,049
  pub room : (buf : List ℕ) (kind : ℕ) (e : List ℕ) → (append_of buf kind e).answer ≡ no_room ∷ [] → length buf < least_room
