-- What the reader answers on a message rebuilds it; so messages that are read alike are equal. Assumes nothing.
use Prim.Native.Nat.{ℕ, zero, suc, ◌≤◌, ◌<◌}
use mathlib.Core.Path.{◌≡◌, refl, sym, ap, ap₂, ◌∙◌}
use mathlib.Core.List.{List, [], ◌∷◌}
use mathlib.Core.Bool.{Bool, cond, true, false}
use native.Mathlib.Omega.{arith}
use lib.Dec.{eqb}
use lib.ListN.{length, take, drop, get_or}
use lib.Seq.{ext_get_or, take_at, length-take-le, take-length}
use borrow.Author.Tests.{eq-eqb, eqb-true, eqb-false}
use Rattle.octets.specs.Numbers.{Octets}
use Rattle.octets.specs.Zeros.{zeros}
use Rattle.octets.proofs.Digits.{octets_take, octets_drop}
use Rattle.octets.proofs.Scans.{length_zeros}
use Rattle.heartbeat.specs.Beat.{form_of, value_of}
use Rattle.frame.specs.Limits.{response, keep_alive}
use Rattle.frame.specs.Header.{pdu_type, message_count}
use Rattle.frame.specs.Entry.{entry_size, entries_fill}
use Rattle.frame.specs.Decide.{decide}
use Rattle.frame.specs.declared.Decision.{Decision}
use Rattle.frame.specs.declared.Decision.TheVariants.{Undecided, Faulty, Sound}
use Rattle.frame.proofs.Entries.{well_make}
use Rattle.frame.proofs.Sounds.{sound_at}
use Rattle.fields.specs.Place.{entries_from, entry_bytes}
use Rattle.fields.specs.Fields.{heartbeat_of}
use Rattle.fields.proofs.Places.{entries_get}
use Rattle.numbers.specs.Refusal.{not_refused}
use Rattle.reader.specs.Numbers.{heartbeat_numbers}
use Rattle.reader.specs.Read.{data_of, message_of, read_by, read_of}
use Rattle.reader.specs.Entry.{part_of}
use Rattle.reader.specs.Context.{entry_context}
use Rattle.reader.proofs.Sounds.{kind_low}
use Rattle.layout.specs.Message.{at_front}
use Rattle.writer.specs.Numbers.{Writing}
use Rattle.writer.specs.Write.{least_room, written}
use Rattle.writer.specs.Round.{Made, entries_in}
use Rattle.writer.proofs.Outcomes.{sound_bounds, sound_entries}
use Rattle.writer.proofs.Walks.{one_alone, length_entries, entries_index}
use Rattle.writer.proofs.Readings.{sound_reads}
use Rattle.writer.proofs.Runs.{made_bytes}
use Rattle.lossless.specs.Again.{entry_again, AllRebuilt}
use Rattle.lossless.specs.Lossless.{EntryOf, ReadAlike, FieldsDetermine, WriteAfterRead}
use Rattle.lossless.proofs.Layouts.{answer_of, answer_numbers, answer_laid, entry_laid_lem, entries_told}
use Rattle.lossless.proofs.Again.{entries_again, read_beat, keep_again}

-- the entries of some data are bytes, and each is well formed
octets_from : (i k : ℕ) (t : List ℕ) → Octets t → Octets (entries_from i k t)
unfolding entries_from
octets_from zero k t o = o
octets_from (suc i) k t o = octets_from i k (drop (entry_size k t) t) (octets_drop (entry_size k t) t o)

entry_of : (i n k : ℕ) (t : List ℕ) → k ≤ response → Octets t → i < n → entries_fill n k t ≡ true → EntryOf k (entry_bytes i k t)
unfolding entry_bytes
entry_of i n k t low o h f =
    let u = entries_from i k t in
    record {
      bytes = octets_take (entry_size k u) u (octets_from i k t o);
      well = well_make k (take (entry_size k u) u) low (one_alone k u (entries_get i n k t h f));
    }

module _ (s : List ℕ) (n : ℕ) (o : Octets s) (e : decide s ≡ Sound n) (k : pdu_type s ≤ response) where
  in_entry : (i : ℕ) → i < length (entries_in s n) → EntryOf (pdu_type s) (get_or (entries_in s n) i [])
  in_entry i h =
      let l = length_entries (message_count s) (pdu_type s) (data_of s n) in
      let b : i < message_count s = omega arith in
      rw (entries_index i (message_count s) (pdu_type s) (data_of s n) b)
      (entry_of i (message_count s) (pdu_type s) (data_of s n) k (octets_drop 10 (take n s) (octets_take n s o)) b (sound_entries s n e k))

  -- the answers rebuild the message's own entries
  pub sound_rebuilt : AllRebuilt s n (pdu_type s) (entries_in s n)
  sound_rebuilt =
      let r = sound_reads s n e k in
      record {
        message = r.message;
        each = λ i h. let d = get_or (entries_in s n) i [] in
            record {
              answer = answer_of (pdu_type s) d;
              context = entry_context s i;
              part = part_of s i;
              entry = answer_numbers (pdu_type s) d ∙ sym (r.entry i h);
              within = refl;
              behind = refl;
              bytes = sym (ap₂ (entry_again (answer_of (pdu_type s) d)) (r.context i h) (r.part i h) ∙ answer_laid (pdu_type s) d (in_entry i h));
            };
      }

  -- and nothing else is rebuilt from them
  rebuilt_own : (es : List (List ℕ)) → AllRebuilt s n (pdu_type s) es → es ≡ entries_in s n
  rebuilt_own es a =
      let r = sound_reads s n e k in
      let q = sym a.message ∙ r.message in
      let l : length es ≡ length (entries_in s n) = cc in
      ext_get_or [] es (entries_in s n) l
      (λ i h.
      let b = a.each i h in
      let g : i < length (entries_in s n) = omega arith in
      let d = get_or (entries_in s n) i [] in
      b.bytes ∙ ap₂ (entry_again b.answer) (b.within ∙ r.context i g) (b.behind ∙ r.part i g)
      ∙ entry_laid_lem (pdu_type s) d (in_entry i g) b.answer (b.entry ∙ r.entry i g))

-- bytes that are read as a message of entries
read_entries : (s : List ℕ) (n kind count : ℕ) → read_of s ≡ not_refused ∷ n ∷ kind ∷ count ∷ []
    → (decide s ≡ Sound n) × (pdu_type s ≡ kind) × (pdu_type s ≤ response)
unfolding read_of read_by message_of heartbeat_numbers
read_entries s n kind count h = go (decide s) refl h
  where
    type : (m : ℕ) → decide s ≡ Sound m → (b : Bool) → eqb (pdu_type s) keep_alive ≡ b
        → cond b (keep_alive ∷ 1 ∷ heartbeat_numbers (heartbeat_of (data_of s m))) (pdu_type s ∷ message_count s ∷ []) ≡ kind ∷ count ∷ []
        → (pdu_type s ≡ kind) × (pdu_type s ≤ response)
    type m d true b e = absurd (omega (arith, ap length e))
    type m d false b e = (cc, kind_low s m (sound_at s m d) (eqb-false (pdu_type s) keep_alive b))

    go : (d : Decision) → decide s ≡ d → read_by d s ≡ not_refused ∷ n ∷ kind ∷ count ∷ []
        → (decide s ≡ Sound n) × (pdu_type s ≡ kind) × (pdu_type s ≤ response)
    go Undecided d e = absurd (omega (arith, ap length e))
    go (Faulty f m) d e = absurd (omega (arith, ap length e))
    go (Sound m) d e =
        let q : m ≡ n = cc in
        let r : message_of s m ≡ kind ∷ count ∷ [] = cc in
        let t = type m d (eqb (pdu_type s) keep_alive) refl r in
        (rw (← q) d, t.0, t.1)

made_from : (s buf : List ℕ) (n kind : ℕ) (es : List (List ℕ)) → Octets s → least_room ≤ length buf → AllRebuilt s n kind es
    → Made buf kind es n (at_front (take n s) buf)
made_from s buf n kind es o room a =
    let r = read_entries s n kind (length es) a.message in
    let own : AllRebuilt s n (pdu_type s) es = rw r.1 a in
    let q = rebuilt_own s n o r.0 r.2 es own in
    rw (q, ← r.1) (entries_again s buf n o room r.0 r.2)

pub write_after_read : WriteAfterRead
write_after_read = record { reads = sound_reads; rebuilds = sound_rebuilt; entries = made_from; beat = keep_again }

-- a front of n bytes, from the buffer that it was written into
front_tells : (n : ℕ) (s t buf : List ℕ) → n ≤ length s → n ≤ length t → at_front (take n s) buf ≡ at_front (take n t) buf → take n s ≡ take n t
unfolding at_front
front_tells n s t buf p q e =
    let l = length-take-le n s p in
    let m = length-take-le n t q in
    sym (take_at (take n s) (drop (length (take n s)) buf) n l) ∙ ap (take n) e ∙ take_at (take n t) (drop (length (take n t)) buf) n m

room : List ℕ
room = zeros least_room

room_there : least_room ≤ length room
unfolding room
room_there = omega (arith, length_zeros least_room)

module _ (s t : List ℕ) (n : ℕ) (o : Octets s) (p : Octets t) (e : decide s ≡ Sound n) (a : ReadAlike s t) where
  -- a message of entries: both are made of the same
  entries_alike : pdu_type s ≤ response → take n s ≡ take n t
  entries_alike k =
      let r = sound_rebuilt s n o e k in
      let es = entries_in s n in
      let l = length_entries (message_count s) (pdu_type s) (data_of s n) in
      let w : AllRebuilt t n (pdu_type s) es =
      record {
        message = sym a.message ∙ r.message;
        each = λ i h. let b = r.each i h in
            let g : i < message_count s = omega arith in
            record {
              answer = b.answer;
              context = b.context;
              part = b.part;
              entry = b.entry ∙ a.entry i g;
              within = b.within ∙ a.context i g;
              behind = b.behind ∙ a.part i g;
              bytes = b.bytes;
            };
      } in
      let f = made_bytes (made_from s room n (pdu_type s) es o room_there r) in
      let g = made_bytes (made_from t room n (pdu_type s) es p room_there w) in
      let d = read_entries t n (pdu_type s) (length es) w.message in
      front_tells n s t room (sound_bounds s n e).2 (sound_bounds t n d.0).2 (f.1 ∙ sym g.1)

  -- a keep-alive: both are written from the same form and value
  beats_alike : pdu_type s ≡ keep_alive → take n s ≡ take n t
  unfolding read_of read_by message_of heartbeat_numbers written
  beats_alike k =
      let h = heartbeat_of (data_of s n) in
      let q : read_of s ≡ not_refused ∷ n ∷ keep_alive ∷ 1 ∷ form_of h ∷ value_of h ∷ [] = rw e (simp (eq-eqb (pdu_type s) keep_alive k)) in
      let u = sym a.message ∙ q in
      let x = keep_again s room n (form_of h) (value_of h) o room_there q in
      let y = keep_again t room n (form_of h) (value_of h) p room_there u in
      let d = read_beat t n (form_of h ∷ value_of h ∷ []) u refl in
      front_tells n s t room (sound_bounds s n e).2 (sound_bounds t n d.0).2 (ap (λ (w : Writing). w.buffer) (sym x ∙ y))

  messages_alike : take n s ≡ take n t
  messages_alike = go (eqb (pdu_type s) keep_alive) refl
    where
      go : (b : Bool) → eqb (pdu_type s) keep_alive ≡ b → take n s ≡ take n t
      go true b = beats_alike (eqb-true (pdu_type s) keep_alive b)
      go false b = entries_alike (kind_low s n (sound_at s n e) (eqb-false (pdu_type s) keep_alive b))

whole_alike : (s t : List ℕ) → Octets s → Octets t → decide s ≡ Sound (length s) → length t ≡ length s → ReadAlike s t → s ≡ t
whole_alike s t o p e l a =
    sym (take-length s) ∙ messages_alike s t (length s) o p e a ∙ rw (← l) (take-length t)

pub fields_determine : FieldsDetermine
fields_determine = record { entries = entries_told; messages = messages_alike; whole = whole_alike }
