-- The theorems of the writer, put together. Assumes nothing.
use Prim.Native.Nat.{ℕ, ◌+◌, ◌<◌}
use mathlib.Core.Path.{◌≡◌, refl, sym, ap, ◌∙◌}
use mathlib.Core.List.{List, [], ◌∷◌, ◌++◌}
use mathlib.Core.Bool.{Bool, cond, true, false, ◌&&◌}
use native.Mathlib.Omega.{arith}
use lib.Dec.{ltb, eqb}
use lib.ListN.{length, get_or}
use borrow.Author.Tests.{ltb-true}
use Rattle.octets.specs.Numbers.{bytes16, bytes32}
use Rattle.heartbeat.specs.Beat.{seconds_form, milliseconds_form, greatest_seconds, greatest_milliseconds}
use Rattle.frame.specs.Limits.{greatest_size}
use Rattle.frame.specs.Header.{pdu_type, message_count}
use Rattle.frame.specs.Entry.{well_formed}
use Rattle.frame.specs.Decide.{decide}
use Rattle.frame.specs.declared.Decision.{Decision}
use Rattle.frame.specs.declared.Decision.TheVariants.{Undecided, Faulty, Sound}
use Rattle.frame.proofs.Ways.{deciding}
use Rattle.numbers.specs.Refusal.{no_room, too_long, bad_entry}
use Rattle.reader.specs.Read.{data_of}
use Rattle.std.specs.Prelude.{Result}
use Rattle.numbers.specs.declared.Refusal.{Refusal}
use Rattle.reader.proofs.Tells.{answer_tells}
use Rattle.writer.specs.Numbers.{written_numbers, Writing, writing}
use Rattle.layout.specs.Message.{size_of, message, beat_bytes}
use Rattle.writer.specs.Write.{least_room, unwritten, written, offered, start_of, append_sound, append_by, append_of, beat_fits, keep_alive_of}
use Rattle.writer.specs.Round.{Made, ReadAfterWrite, OneResult}
use Rattle.writer.proofs.Readings.{start_reads, append_reads, made_reads, beat_reads, beat_taken}
use Rattle.writer.proofs.Runs.{made_bytes}

pub read_after_write : ReadAfterWrite
unfolding beat_fits beat_bytes bytes16 bytes32
read_after_write =
    record {
      start = start_reads;
      append = append_reads;
      all = λ buf kind es n after. made_reads;
      bytes = λ buf kind es n after. made_bytes;
      beat = λ buf form value n h. beat_reads buf form value n (omega (arith, h));
      ends = λ buf room. (
        beat_taken buf seconds_form 0 room refl (omega arith),
        beat_taken buf seconds_form greatest_seconds room refl (omega arith),
        beat_taken buf milliseconds_form 0 room refl (omega arith),
        beat_taken buf milliseconds_form greatest_milliseconds room refl (omega arith),
      );
    }

written_tells : (a b : Result ℕ Refusal) → written_numbers a ≡ written_numbers b → a ≡ b
unfolding written_numbers
written_tells = answer_tells written_numbers (λ l. get_or l 1 0) (λ n. refl) (λ n. refl) (λ r. refl)

one_result : (o : Writing) (a b : Result ℕ Refusal) (s t : List ℕ) → writing a s ≡ o → writing b t ≡ o → (a ≡ b) × (s ≡ t)
one_result o a b s t p q =
    let e = p ∙ sym q in
    (written_tells a b (ap (λ (x : Writing). x.answer) e), ap (λ (x : Writing). x.buffer) e)

one_run : (buf : List ℕ) (kind : ℕ) (es : List (List ℕ)) (m n : ℕ) (s t : List ℕ) → Made buf kind es m s → Made buf kind es n t → (m ≡ n) × (s ≡ t)
one_run buf kind es m n s t p q =
    let a = made_bytes p in
    let b = made_bytes q in
    (a.0 ∙ sym b.0, a.1 ∙ sym b.1)

-- a sound message has room
sound_room : (m : ℕ) (buf : List ℕ) (kind : ℕ) (e : List ℕ) → (append_sound m buf kind e).answer ≡ no_room ∷ [] → ⊥
unfolding append_sound offered unwritten written
sound_room m buf kind e h = go (eqb kind (pdu_type buf) && well_formed kind e) (ltb greatest_size (size_of (data_of buf m ++ e))) h
  where
    go : (a b : Bool)
        → (cond a (cond b (unwritten too_long buf) (written (message kind (message_count buf + 1) (data_of buf m ++ e)) buf)) (unwritten bad_entry buf)).answer
        ≡ no_room ∷ []
        → ⊥
    go true true h = omega (arith, ap (λ (l : List ℕ). get_or l 0 0) h)
    go true false h = omega (arith, ap length h)
    go false b h = omega (arith, ap (λ (l : List ℕ). get_or l 0 0) h)

append_room : (buf : List ℕ) (kind : ℕ) (e : List ℕ) → (append_of buf kind e).answer ≡ no_room ∷ [] → length buf < least_room
unfolding append_of append_by unwritten
append_room buf kind e h = go (ltb (length buf) least_room) refl (decide buf) refl h
  where
    go : (a : Bool) → ltb (length buf) least_room ≡ a → (d : Decision) → decide buf ≡ d
        → (cond a (unwritten no_room buf) (append_by d buf kind e)).answer ≡ no_room ∷ [] → length buf < least_room
    go true q d s h = ltb-true (length buf) least_room q
    go false q Undecided s h = omega (arith, deciding.short buf s)
    go false q (Faulty f m) s h = absurd (omega (arith, ap length h))
    go false q (Sound m) s h = absurd (sound_room m buf kind e h)

pub one_results : OneResult
one_results =
    record {
      numbers = written_tells;
      start = λ buf kind e. one_result (start_of buf kind e);
      append = λ buf kind e. one_result (append_of buf kind e);
      beat = λ buf form value. one_result (keep_alive_of buf form value);
      runs = one_run;
      room = append_room;
    }
