-- What a sound message says to a reader. Assumes nothing.
use Prim.Native.Nat.{ℕ, ◌≤◌}
use mathlib.Core.Path.{◌≡◌}
use mathlib.Core.List.{List}
use mathlib.Core.Bool.{true, false, false≢true}
use native.Mathlib.Omega.{arith}
use lib.Dec.{eqb}
use lib.ListN.{length}
use borrow.Author.Tests.{eq-eqb, ne_eqb, ltb-true, eqb-false}
use Rattle.laws.proofs.Conds.{cond_right}
use Rattle.frame.specs.Limits.{response, keep_alive}
use Rattle.frame.specs.Header.{pdu_type, message_count}
use Rattle.frame.specs.Entry.{least_entry, parameter_offset, entries_fill}
use Rattle.frame.specs.Decide.{keep_alive_fill, data_sound}
use Rattle.frame.specs.Scaffold.{SoundAt}
use Rattle.frame.proofs.Headers.{sound_header}
use Rattle.fields.proofs.Places.{entry_length, entry_offset}
use Rattle.reader.specs.Read.{data_of}
use Rattle.reader.specs.Entry.{has_entry, entry_at}

module _ (s : List ℕ) (n : ℕ) (w : SoundAt s n) where
  pub kind_low : (pdu_type s ≡ keep_alive → ⊥) → pdu_type s ≤ response
  kind_low h = omega (arith, (sound_header s w.header).kind)

  pub keep_data : pdu_type s ≡ keep_alive → keep_alive_fill (data_of s n) ≡ true
  unfolding data_sound
  keep_data h = rw (eq-eqb (pdu_type s) keep_alive h) at w.body

  pub entries_data : (pdu_type s ≡ keep_alive → ⊥) → entries_fill (message_count s) (pdu_type s) (data_of s n) ≡ true
  unfolding data_sound
  entries_data h = rw (ne_eqb (pdu_type s) keep_alive h) at w.body

  -- an entry that is there has its least size
  pub entry_low : (i : ℕ) → has_entry (pdu_type s) (message_count s) i ≡ true → least_entry (pdu_type s) ≤ length (entry_at s n i)
  unfolding has_entry
  entry_low i h =
      let p = cond_right (eqb (pdu_type s) keep_alive) false _ true h false≢true in
      let k = eqb-false (pdu_type s) keep_alive p.0 in
      entry_length i (message_count s) (pdu_type s) (data_of s n) (ltb-true i (message_count s) p.1) (entries_data k)

  -- and its parameters start within it
  pub entry_start : (i : ℕ) → has_entry (pdu_type s) (message_count s) i ≡ true → parameter_offset (pdu_type s) (entry_at s n i) ≤ length (entry_at s n i)
  unfolding has_entry
  entry_start i h =
      let p = cond_right (eqb (pdu_type s) keep_alive) false _ true h false≢true in
      let k = eqb-false (pdu_type s) keep_alive p.0 in
      entry_offset i (message_count s) (pdu_type s) (data_of s n) (ltb-true i (message_count s) p.1) (entries_data k)
