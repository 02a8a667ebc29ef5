-- Reading loses nothing: what the reader answers tells the bytes, and writes them again: R19 to R27 together.
use Rattle.std.specs.Prelude.{ℕ, ◌≤◌, ◌<◌, ◌≡◌, List, [], ◌∷◌, true, length, take}
use Rattle.octets.specs.Numbers.{Octets}
use Rattle.frame.specs.Limits.{response, keep_alive}
use Rattle.frame.specs.Header.{pdu_type, message_count}
use Rattle.frame.specs.Entry.{well_formed}
use Rattle.frame.specs.Decide.{decide}
use Rattle.frame.specs.declared.Decision.TheVariants.{Sound}
use Rattle.fields.specs.Place.{parameters_of, context_of}
use Rattle.numbers.specs.Refusal.{not_refused}
use Rattle.reader.specs.Read.{read_of}
use Rattle.reader.specs.Entry.{fields_of, entry_of, part_of}
use Rattle.reader.specs.Context.{entry_context}
use Rattle.layout.specs.Message.{at_front}
use Rattle.writer.specs.Write.{least_room, written, keep_alive_of}
use Rattle.writer.specs.Round.{Made, entries_in, ReadsAs}
use Rattle.lossless.specs.Again.{AllRebuilt}

-- R14. The bytes e are a well formed entry of that type.
pub record EntryOf (kind : ℕ) (e : List ℕ) : Type 0 where
  pub bytes : Octets e
  pub well : well_formed kind e ≡ true

-- R19, R20, R21. The reader's four calls answer the same on both, for each entry that there is.
pub record ReadAlike (s t : List ℕ) : Type 0 where
  pub message : read_of s ≡ read_of t
  pub entry : (i : ℕ) → i < message_count s → entry_of s i ≡ entry_of t i
  pub part : (i : ℕ) → i < message_count s → part_of s i ≡ part_of t i
  pub context : (i : ℕ) → i < message_count s → entry_context s i ≡ entry_context t i

-- Theorem. The answers of the reader tell the bytes, of an entry and of a message.
pub record FieldsDetermine : Type 0 where
  pub entries : (kind : ℕ) (e f : List ℕ) → EntryOf kind e → EntryOf kind f → fields_of kind e ≡ fields_of kind f
      → context_of kind e ≡ context_of kind f → parameters_of kind e ≡ parameters_of kind f → e ≡ f
  -- keep-alives too, whatever follows each message
  pub messages : (s t : List ℕ) (n : ℕ) → Octets s → Octets t → decide s ≡ Sound n → ReadAlike s t → take n s ≡ take n t
  -- with nothing behind them
  pub whole : (s t : List ℕ) → Octets s → Octets t → decide s ≡ Sound (length s) → length t ≡ length s → ReadAlike s t → s ≡ t

-- Theorem. What was read is written again as the same bytes, into any buffer that has room, from the answers of public calls alone.
pub record WriteAfterRead : Type 0 where
  pub reads : (s : List ℕ) (n : ℕ) → decide s ≡ Sound n → pdu_type s ≤ response → ReadsAs s n (pdu_type s) (entries_in s n)
  -- the answers on a sound message rebuild its own entries
  pub rebuilds : (s : List ℕ) (n : ℕ) → Octets s → decide s ≡ Sound n → pdu_type s ≤ response
      → AllRebuilt s n (pdu_type s) (entries_in s n)
  -- whatever was rebuilt, a start and appends make the message of it
  pub entries : (s buf : List ℕ) (n kind : ℕ) (es : List (List ℕ)) → Octets s → least_room ≤ length buf → AllRebuilt s n kind es
      → Made buf kind es n (at_front (take n s) buf)
  pub beat : (s buf : List ℕ) (n form value : ℕ) → Octets s → least_room ≤ length buf
      → read_of s ≡ not_refused ∷ n ∷ keep_alive ∷ 1 ∷ form ∷ value ∷ []
      → keep_alive_of buf form value ≡ written (take n s) buf
