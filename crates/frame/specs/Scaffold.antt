-- For the contracts of inner functions and for proofs: no rule is here.
use Rattle.std.specs.Prelude.{ℕ, zero, suc, Option, Some, None, ◌≤◌, ◌≡◌, List, Bool, cond, true, false}
use Rattle.std.specs.Prelude.{ltb, eqb, length, take, drop, get_or}
use Rattle.frame.specs.Limits.{sync, header_end, keep_alive}
use Rattle.frame.specs.Header.{pdu_type, message_count, message_length, header_fault}
use Rattle.frame.specs.Entry.{entry_size}
use Rattle.frame.specs.Decide.{data_sound}
use Rattle.frame.specs.declared.Decision.{Decision}
use Rattle.frame.specs.declared.Decision.TheVariants.{Undecided, Faulty, Sound}
use Rattle.frame.specs.declared.Found.{Found}

-- R16. A sound message of n bytes stands at the front of s.
pub record SoundAt (s : List ℕ) (n : ℕ) : Type 0 where
  pub first : get_or s 0 0 ≡ sync
  pub header : header_fault s ≡ None
  pub size : n ≡ message_length s
  pub low : header_end ≤ n
  pub high : n ≤ length s
  pub body : data_sound (pdu_type s) (message_count s) (drop header_end (take n s)) ≡ true

-- A header stands at the front of s.
unfoldable pub has_header : List ℕ → Bool
has_header s = cond (ltb (length s) header_end) false (eqb (get_or s 0 0) sync)

-- So many entries at the front of t are well formed.
unfoldable pub entries_stand : ℕ → ℕ → List ℕ → Bool
entries_stand zero kind t = true
entries_stand (suc n) kind t = cond (eqb (entry_size kind t) 0) false (entries_stand n kind (drop (entry_size kind t) t))

-- How many bytes of t stand from its entry i on.
unfoldable pub rest_from : ℕ → ℕ → List ℕ → ℕ
rest_from zero kind t = length t
rest_from (suc i) kind t = rest_from i kind (drop (entry_size kind t) t)

-- A number that may be none: 0 is.
unfoldable pub nonzero : ℕ → Option ℕ
nonzero n = cond (eqb n 0) None (Some n)

-- How many bytes of t stand behind so many entries, if each of them is well formed.
unfoldable pub walked : ℕ → ℕ → List ℕ → Option ℕ
walked n kind t = cond (entries_stand n kind t) (Some (rest_from n kind t)) None

-- How many bytes of a message's data stand from entry i on: 0 where there is no such entry.
unfoldable pub data_rest : ℕ → ℕ → List ℕ → ℕ → ℕ
data_rest kind count t i = cond (eqb kind keep_alive) 0 (cond (ltb i count) (rest_from i kind t) 0)

-- The same of the whole message m.
unfoldable pub message_rest : List ℕ → ℕ → ℕ
message_rest m i = data_rest (pdu_type m) (message_count m) (drop header_end m) i

-- The same of the message at the front of s, if d, what s decides, is sound.
unfoldable pub rest_by : Decision → List ℕ → ℕ → ℕ
rest_by Undecided s i = 0
rest_by (Faulty f n) s i = 0
rest_by (Sound n) s i = message_rest (take n s) i

-- What is found of entry i where the bytes s decide d.
pub record Finds (d : Decision) (s : List ℕ) (i : ℕ) (r : Found) : Type 0 where
  pub decided : r.decision ≡ d
  pub rest : r.rest ≡ nonzero (rest_by d s i)
