-- A message with an entry that is not well formed has fault 6, and what each call makes of it. Assumes nothing.
use Prim.Native.Nat.{ℕ, ◌+◌, ◌-◌, ◌≤◌}
use mathlib.Core.Path.{◌≡◌, refl, sym, ap, ◌∙◌}
use mathlib.Core.Logic.{inl, inr, ⊎_elim}
use mathlib.Core.Bool.{Bool, true, false, cond, ◌&&◌}
use mathlib.Core.List.{List, [], ◌∷◌, ◌++◌}
use native.Mathlib.Omega.{arith}
use native.Mathlib.Nat.{zero-add}
use lib.Dec.{ltb, eqb}
use lib.ListN.{length, take, drop, length-drop}
use lib.Seq.{length-take-le}
use borrow.Author.Tests.{ne_eqb, le-ltb}
use Rattle.laws.proofs.Conds.{either}
use Rattle.laws.proofs.Parts.{nil_of}
use Rattle.numbers.specs.declared.Refusal.TheVariants as refusals
use Rattle.writer.specs.Scaffold.{length_by}
use Rattle.numbers.specs.declared.Fault.TheVariants as faults
use Rattle.numbers.specs.Refusal.{fault, bad_entry}
use Rattle.numbers.specs.Fault.{fault_data}
use Rattle.frame.specs.Limits.{header_end, response, keep_alive}
use Rattle.octets.specs.Numbers.{be16_at, be32_at, bytes16, bytes32}
use Rattle.octets.specs.Zeros.{zeros}
use Rattle.frame.specs.Header.{pdu_type, message_count, message_length, count_fault, fields_fault, header_fault}
use Rattle.frame.specs.Entry.{least_entry, context_count, parameter_offset, is_context_bad, count_place, least_count, count_fits, entry_fits, entry_size, entries_fill, well_formed}
use Rattle.frame.specs.Decide.{data_sound, decide_data, decide}
use Rattle.frame.specs.declared.Decision.{Decision}
use Rattle.frame.specs.declared.Decision.TheVariants.{Faulty, Sound}
use Rattle.frame.proofs.Counts.{count_tells}
use Rattle.frame.proofs.Contexts.{context_tells}
use Rattle.frame.proofs.Headers.{sound_header}
use Rattle.frame.proofs.Ways.{whole, way_back}
use Rattle.frame.proofs.Sounds.{type_take, count_take}
use Rattle.fields.specs.Place.{entries_from}
use Rattle.fields.proofs.Places.{entries_get}
use Rattle.reader.specs.Read.{data_of, read_by, read_of}
use Rattle.reader.specs.Entry.{entry_by, entry_of, part_by, part_of}
use Rattle.reader.specs.Context.{context_by, entry_context}
use Rattle.writer.specs.Numbers.{Writing, written_numbers}
use Rattle.writer.specs.Write.{least_room, unwritten, start_of, append_sound, append_of}
use Rattle.writer.proofs.Outcomes.{append_sound_lem, append_unsound}
use Rattle.area.specs.Area.{area_bytes, undecided_of}
use Rattle.replies.specs.Bytes.{least_output}
use Rattle.delivery.specs.Intake.{delivered_by, taken_in}
use Rattle.endpoint.specs.State.{fresh_state, closed_state}
use Rattle.endpoint.specs.Calls.{open_call}
use Rattle.endpoint.specs.Deliver.{held_at, with_intake, deliver_call}
use Rattle.endpoint.specs.declared.Record.{Record}
use Rattle.split.specs.Split.{sound_messages}
use Rattle.lines.specs.Text.{stop_line}
use Rattle.lister.specs.Listing.{lines_of, last_by, last_line, listed_bytes, unlisted, listing_from, listing}
use Rattle.sent.specs.Longest.{Delivers, Unrefused}
use Rattle.sent.proofs.Longest.{passed, longest_reached}
use Rattle.counts.specs.Announced.{bytes_from, Headed, Announced, Announces, BadContext, HasBadContext}
use Rattle.counts.specs.Worked.{announced_lock, set_then_announced, context_of65, context_past}
use Rattle.counts.specs.Refused.{behind_fault, closed_for_data, Refuses, CountWithoutBytes, ContextRefused}

-- ---- the message
module _ (s : List ℕ) (i : ℕ) (a : Headed s i) (none : entry_size (pdu_type s) (bytes_from s i) ≡ 0) where
  abbrev size : ℕ
  size = message_length s

  low : header_end ≤ size
  low = omega (arith, (sound_header s a.header).low)

  entries_short : entries_fill (message_count s) (pdu_type s) (data_of s size) ≡ false
  entries_short = go (entries_fill (message_count s) (pdu_type s) (data_of s size)) refl
    where
      go : (b : Bool) → entries_fill (message_count s) (pdu_type s) (data_of s size) ≡ b → b ≡ false
      go true e = absurd (entries_get i (message_count s) (pdu_type s) (data_of s size) a.there e none)
      go false e = refl

  data_short : data_sound (pdu_type s) (message_count s) (data_of s size) ≡ false
  unfolding data_sound
  data_short = simp (ne_eqb (pdu_type s) keep_alive (λ q. omega (arith, a.type)), entries_short)

  decided_data : decide s ≡ Faulty faults.Data size
  unfolding decide_data
  decided_data =
      let w = take size s in
      let d : data_sound (pdu_type w) (message_count w) (drop header_end w) ≡ false =
      rw (type_take size s low, count_take size s low) data_short in
      way_back s (decide_data w) (whole a.first (omega (arith, low, a.whole)) a.header a.whole)
      ∙ simp d (ap (Faulty faults.Data) (length-take-le size s a.whole))

-- ---- what each call makes of it
module _ (Bad : List ℕ → ℕ → Type 0) (BadEntry : ℕ → List ℕ → Type 0) (decided : (s : List ℕ) (i : ℕ) → Bad s i → decide s ≡ Faulty faults.Data (message_length s)) (unformed : (kind : ℕ) (e : List ℕ) → BadEntry kind e → well_formed kind e ≡ false) where
  read : (s : List ℕ) (i : ℕ) → Bad s i → read_of s ≡ fault ∷ fault_data ∷ []
  unfolding read_of read_by
  read s i a = ap (λ (d : Decision). read_by d s) (decided s i a)

  entry_read : (s : List ℕ) (i j : ℕ) → Bad s i → entry_of s j ≡ fault ∷ fault_data ∷ []
  unfolding entry_of entry_by
  entry_read s i j a = ap (λ (d : Decision). entry_by d s j) (decided s i a)

  part_read : (s : List ℕ) (i j : ℕ) → Bad s i → part_of s j ≡ []
  unfolding part_of part_by
  part_read s i j a = ap (λ (d : Decision). part_by d s j) (decided s i a)

  context_read : (s : List ℕ) (i j : ℕ) → Bad s i → entry_context s j ≡ []
  unfolding entry_context context_by
  context_read s i j a = ap (λ (d : Decision). context_by d s j) (decided s i a)

  started : (buf : List ℕ) (kind : ℕ) (e : List ℕ) → least_room ≤ length buf → BadEntry kind e → start_of buf kind e ≡ unwritten bad_entry buf
  unfolding start_of
  started buf kind e room a = simp (le-ltb (length buf) least_room room, unformed kind e a)

  appended : (buf : List ℕ) (kind : ℕ) (e : List ℕ) (n : ℕ) → least_room ≤ length buf → decide buf ≡ Sound n → BadEntry kind e
      → append_of buf kind e ≡ unwritten bad_entry buf
  unfolding append_sound
  appended buf kind e n room d a = sym (append_sound_lem buf kind e room n d) ∙ rw (unformed kind e a) (go (eqb kind (pdu_type buf)) _)
    where
      go : (b : Bool) (x : Writing) → cond (b && false) x (unwritten bad_entry buf) ≡ unwritten bad_entry buf
      go true x = refl
      go false x = refl

  behind : (buf : List ℕ) (kind : ℕ) (e : List ℕ) (i : ℕ) → least_room ≤ length buf → Bad buf i → append_of buf kind e ≡ behind_fault buf
  unfolding written_numbers length_by
  behind buf kind e i room a = sym (append_unsound buf kind e room (refusals.Fault faults.Data) (rw (decided buf i a)))

  delivered : (r : Record) (area : List ℕ) (n : ℕ) (piece out : List ℕ) (i : ℕ) → Delivers r area n out
      → Bad (undecided_of area n (held_at r n) ++ piece) i
      → deliver_call r area n piece out
      ≡ closed_for_data r area n (message_length (undecided_of area n (held_at r n) ++ piece) - held_at r n) out
  unfolding taken_in delivered_by closed_state
  delivered r area n piece out i d a =
      let bytes = undecided_of area n (held_at r n) ++ piece in
      passed r area n out d piece
      ∙ ap (λ (x : Decision). with_intake r n (delivered_by x r.device area n (held_at r n) piece bytes out)) (decided bytes i a)

  listed : (s : List ℕ) (i : ℕ) → Bad (unlisted s) i → listing s ≡ lines_of 0 (sound_messages s) ++ stop_line (listed_bytes s) fault_data
  unfolding listing listing_from last_line last_by
  listed s i a =
      ap (λ (d : Decision). lines_of 0 (sound_messages s) ++ last_by d (0 + listed_bytes s) (length (unlisted s))) (decided (unlisted s) i a)
      ∙ rw zero-add

  all_refuse : Refuses Bad BadEntry
  all_refuse =
      record {
        decided = decided;
        message = read;
        entry = entry_read;
        part = part_read;
        context = context_read;
        started = started;
        appended = appended;
        behind = behind;
        delivered = delivered;
        listed = listed;
      }

-- ---- a count without bytes
announced : (s : List ℕ) (i : ℕ) → Announces s i → decide s ≡ Faulty faults.Data (message_length s)
announced s i a = decided_data s i a.headed (count_tells.announced (pdu_type s) (bytes_from s i) a.size a.count)

unannounced : (kind : ℕ) (e : List ℕ) → Announced kind e → well_formed kind e ≡ false
unannounced kind e a = go (well_formed kind e) refl
  where
    empty : drop (parameter_offset kind e) e ≡ []
    empty = nil_of (drop (parameter_offset kind e) e) (omega (arith, length-drop (parameter_offset kind e) e, a.long))

    go : (b : Bool) → well_formed kind e ≡ b → b ≡ false
    go true w = absurd (omega (arith, (count_tells.tells kind e w).1 empty, a.count))
    go false w = refl

counts_refuse : Refuses Announces Announced
counts_refuse = all_refuse Announces Announced announced unannounced

-- ---- a context above 64, or past its entry
no_size : (kind : ℕ) (t : List ℕ) → BadContext kind t → entry_size kind t ≡ 0
no_size kind t b = ⊎_elim (λ h. context_tells.long kind t (omega (arith, h))) (λ h. context_tells.past kind t h) b.over

bad_context : (s : List ℕ) (i : ℕ) → HasBadContext s i → decide s ≡ Faulty faults.Data (message_length s)
bad_context s i a = decided_data s i a.headed (no_size (pdu_type s) (bytes_from s i) a.context)

no_entry_lem : (kind : ℕ) (e : List ℕ) → BadContext kind e → well_formed kind e ≡ false
unfolding well_formed entries_fill
no_entry_lem kind e o = rw (no_size kind e o) (either (λ (b : Bool). b ≡ false) (ltb response kind) false false refl refl)

-- ---- such messages
alone : Announces announced_lock 0
unfolding header_fault fields_fault count_fault be16_at be32_at entries_from least_entry context_count parameter_offset least_count count_place
alone =
    record {
      headed = record { first = refl; header = refl; whole = omega arith; type = omega arith; there = omega arith };
      size = refl;
      count = omega arith;
    }

second : Announces set_then_announced 1
unfolding header_fault fields_fault count_fault be16_at be32_at entries_from entry_size entry_fits count_fits least_entry context_count parameter_offset is_context_bad least_count count_place
second =
    record {
      headed = record { first = refl; header = refl; whole = omega arith; type = omega arith; there = omega arith };
      size = refl;
      count = omega arith;
    }

long : HasBadContext context_of65 0
unfolding header_fault fields_fault count_fault be16_at be32_at bytes16 bytes32 zeros entries_from context_count
long =
    record {
      headed = record { first = refl; header = refl; whole = omega arith; type = omega arith; there = omega arith };
      context = record { type = refl; over = inl (omega arith) };
    }

past : HasBadContext context_past 0
unfolding header_fault fields_fault count_fault be16_at be32_at bytes16 bytes32 zeros entries_from least_entry context_count parameter_offset
past =
    record {
      headed = record { first = refl; header = refl; whole = omega arith; type = omega arith; there = omega arith };
      context = record { type = refl; over = inr (omega arith) };
    }

-- to a connection that has no undecided byte
closed_whole : (r : Record) (area : List ℕ) (n : ℕ) (m out : List ℕ) (i : ℕ) → Unrefused r area n out → Announces m i
    → deliver_call r area n m out ≡ closed_for_data r area n (message_length m) out
unfolding undecided_of
closed_whole r area n m out i w a =
    let z : undecided_of area n (held_at r n) ++ m ≡ m = rw w.empty refl in
    let t : message_length m - held_at r n ≡ message_length m = omega (arith, w.empty) in
    rw (z, t) at (counts_refuse.delivered r area n m out i w.delivers (rw z a))

fresh : (reading : ℕ) (out : List ℕ) → least_output ≤ length out
    → deliver_call (open_call (fresh_state reading)).state (zeros area_bytes) 0 set_then_announced out
    ≡ closed_for_data (open_call (fresh_state reading)).state (zeros area_bytes) 0 45 out
unfolding be32_at
fresh reading out room =
    closed_whole (open_call (fresh_state reading)).state (zeros area_bytes) 0 set_then_announced out 1 (longest_reached.fresh reading out room) second

pub count_without_bytes : CountWithoutBytes
count_without_bytes = record { refuses = counts_refuse; alone = alone; second = second; fresh = fresh }

pub context_refused : ContextRefused
context_refused = record { refuses = all_refuse HasBadContext BadContext bad_context no_entry_lem; long = long; past = past }
