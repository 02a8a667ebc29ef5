-- No parameters and no parameter bytes are the same in what the reader answers, and to a method that takes none; a context is as long
-- as its count: R9, R12, R20, R21, R40.
use Rattle.std.specs.Prelude.{ℕ, ◌≤◌, ◌≡◌, not, List, eqb, length, Ok}
use Rattle.frame.specs.Limits.{greatest_context}
use Rattle.frame.specs.Counts.{NoneIsBare}
use Rattle.fields.specs.declared.CommandFields.{CommandFields}
use Rattle.fields.specs.declared.NotificationFields.{NotificationFields}
use Rattle.fields.specs.declared.ResponseFields.{ResponseFields}
use Rattle.reader.specs.Entry.{part_of, ReadsEntry}
use Rattle.reader.specs.Context.{entry_context}
use Rattle.reader.specs.declared.Entry.TheVariants.{Command, Notification, Response}
use Rattle.objects.specs.Tests.{count_of, is_malformed}

-- Theorem. Of every entry that is read: its count is the least exactly where its part is empty.
pub record NoneTold : Type 0 where
  pub command : (s : List ℕ) (i : ℕ) (c : CommandFields) → ReadsEntry s i (Ok (Command c)) → NoneIsBare 0 c.count (part_of s i)
  pub notification : (s : List ℕ) (i : ℕ) (n : NotificationFields) → ReadsEntry s i (Ok (Notification n))
      → NoneIsBare 1 n.count (part_of s i)
  pub response : (s : List ℕ) (i : ℕ) (r : ResponseFields) → ReadsEntry s i (Ok (Response r)) → NoneIsBare 0 r.count (part_of s i)
  -- so to a method that takes none a wrong count is a wrong length, and either alone tells status 4
  pub takes_none : (s : List ℕ) (i : ℕ) (c : CommandFields) → ReadsEntry s i (Ok (Command c)) → (m : ℕ) → count_of m ≡ 0
      → (is_malformed m c.count (part_of s i) ≡ not (eqb c.count 0))
      × (is_malformed m c.count (part_of s i) ≡ not (eqb (length (part_of s i)) 0))

-- Theorem. Of every notification that is read: the count of its context is that of the bytes that are handed back, and at most 64.
pub record ContextTold : Type 0 where
  pub counted : (s : List ℕ) (i : ℕ) (n : NotificationFields) → ReadsEntry s i (Ok (Notification n))
      → (n.context_count ≡ length (entry_context s i)) × (n.context_count ≤ greatest_context)
