-- A notification, as it is sent, is read. Assumes nothing.
use Prim.Native.Nat.{ℕ, ◌/◌, ◌%◌, ◌+◌, ◌*◌, ◌-◌, ◌<◌, ◌≤◌}
use mathlib.Core.Path.{◌≡◌, refl, sym, ap, ◌∙◌}
use mathlib.Core.Bool.{true}
use mathlib.Core.List.{List, [], ◌∷◌, ◌++◌}
use native.Mathlib.Omega.{arith}
use native.Mathlib.Nat.{div-div-eq-div-mul}
use lib.ListN.{length, get_or, drop, length-drop}
use lib.Seq.{take_at, drop_at, drop-drop}
use borrow.Author.Tests.{eq-eqb, ne_eqb}
use Rattle.octets.specs.Numbers.{be16_at, be32_at, bytes16, bytes32}
use Rattle.octets.proofs.Digits.{be16_bytes, be32_bytes, be16_drop, be32_drop}
use Rattle.numbers.specs.Refusal.{not_refused}
use Rattle.frame.specs.Limits.{notification, greatest_context}
use Rattle.frame.specs.Header.{count_fault}
use Rattle.frame.specs.Entry.{least_entry, context_count, parameter_offset, count_place, least_count, count_fits, entry_size, entries_fill, fits_at}
use Rattle.frame.specs.Decide.{data_sound}
use Rattle.frame.proofs.Entries.{entry_make}
use Rattle.fields.specs.Place.{parameters_of, context_of}
use Rattle.fields.specs.Fields.{notification_of, method_at, behind_context}
use Rattle.reader.specs.Numbers.{notification_numbers}
use Rattle.reader.specs.Entry.{fields_of}
use Rattle.layout.specs.Message.{message}
use Rattle.layout.proofs.Messages.{length_message}
use Rattle.writer.specs.Round.{entries_of, ReadsAs}
use Rattle.writer.proofs.Heads.{Holds, message_holds}
use Rattle.writer.proofs.Walks.{fits_make, entries_append}
use Rattle.writer.proofs.Readings.{reads_as}
use Rattle.subscription.specs.declared.Subscription.{Subscription}
use Rattle.replies.specs.Bytes.{context_sent, subscriber_bytes, change_bytes, notification_entry, notification_bytes}
use Rattle.replies.proofs.Puts.{length_context, length_entry}
use Rattle.sent.specs.Sent.{level_of, index_of, NotificationRead}

-- the two halves of a number of 32 bits
high : (v : ℕ) → v < 4294967296 → v / 16777216 % 256 * 256 + v / 65536 % 256 ≡ v / 65536
unfolding be16_at bytes16
high v h =
    let q = v / 65536 in
    let d = div-div-eq-div-mul v 65536 256 in
    let b = be16_bytes q (omega arith) in
    omega arith

low : (v : ℕ) → v / 256 % 256 * 256 + v % 256 ≡ v % 65536
low v = omega arith

-- what no record rule bounds is as the entry's declaration says: definitions have numbers and lists of any size
pub record Words (e : Subscription) : Type 0 where
  pub object : e.object < 4294967296
  pub method : e.method < 4294967296
  pub held : length e.context ≡ greatest_context

-- the numbers of an entry that are sent
pub record Told (e : Subscription) : Type 0 where
  pub words : Words e
  pub emitter : e.emitter < 4294967296
  pub event : e.event < 4294967296
  pub count : e.context_count ≤ greatest_context

module _ (e : Subscription) (value : ℕ) (t : Told e) where
  abbrev k : ℕ
  k = e.context_count

  abbrev x : List ℕ
  x = notification_entry e value

  holds : k ≤ length e.context
  holds = omega (arith, t.count, t.words.held)

  size : length x ≡ 29 + k
  size = length_entry e holds value

  -- the context stands behind the first 15 bytes, and what changed behind it
  behind_front : drop 15 x ≡ context_sent e ++ change_bytes e value
  unfolding notification_entry subscriber_bytes bytes16 bytes32
  behind_front = refl

  behind_context_lem : drop (15 + k) x ≡ change_bytes e value
  behind_context_lem = sym (drop-drop k 15 x) ∙ ap (drop k) behind_front ∙ drop_at (context_sent e) (change_bytes e value) k (length_context e holds)

  counted : be16_at x 13 ≡ k
  unfolding notification_entry subscriber_bytes bytes16 bytes32 be16_at
  counted = be16_bytes k (omega (arith, t.count))

  count_is : context_count notification x ≡ k
  unfolding context_count
  count_is = counted

  offset_is : parameter_offset notification x ≡ 23 + k
  unfolding parameter_offset least_entry
  offset_is = ap (λ (n : ℕ). 23 + n) count_is

  size_is : be32_at x 0 ≡ 29 + k
  unfolding notification_entry subscriber_bytes bytes32 be32_at
  size_is = be32_bytes (29 + k) (omega (arith, t.count))

  parameters_are : get_or x (count_place notification) 0 ≡ 2
  unfolding notification_entry subscriber_bytes bytes32 count_place
  parameters_are = refl

  count_fits_lem : count_fits (least_count notification) 2 6 ≡ true
  unfolding count_fits least_count
  count_fits_lem = refl

  fits : fits_at notification x ≡ true
  fits =
      let six : 29 + k - (23 + k) ≡ 6 = omega arith in
      rw (offset_is, size_is, parameters_are)
      (fits_make notification (23 + k) (29 + k) 2 (drop (23 + k) x) (omega arith) (omega (arith, length-drop (23 + k) x, size)) (rw six count_fits_lem))

  entry_size_lem : entry_size notification x ≡ 29 + k
  entry_size_lem = entry_make notification x (omega (arith, offset_is, size)) (omega (arith, count_is, t.count)) fits ∙ size_is

  one_made : entries_fill 1 notification x ≡ true
  unfolding entries_fill
  one_made =
      rw (entry_size_lem, ne_eqb (29 + k) 0 (λ z. omega arith))
      (eq-eqb (length (drop (29 + k) x)) 0 (omega (arith, length-drop (29 + k) x, size)))

  -- ---- the fields behind the context
  emitter_is : be32_at x (behind_context x 15) ≡ e.emitter
  unfolding change_bytes bytes32 be32_at
  emitter_is =
      let zero_more : 15 + k + 0 ≡ 15 + context_count notification x = omega (arith, count_is) in
      ap (be32_at x) (sym zero_more) ∙ sym (be32_drop x 0 (15 + k)) ∙ ap (λ (l : List ℕ). be32_at l 0) behind_context_lem ∙ be32_bytes e.emitter t.emitter

  half : (i : ℕ) → be16_at x (15 + context_count notification x + i) ≡ be16_at (change_bytes e value) i
  half i = rw count_is (sym (be16_drop x i (15 + k)) ∙ ap (λ (l : List ℕ). be16_at l i) behind_context_lem)

  level_is : be16_at x (behind_context x 19) ≡ level_of e.event
  unfolding change_bytes bytes32 be16_at
  level_is =
      let place : 19 + context_count notification x ≡ 15 + context_count notification x + 4 = omega arith in
      ap (be16_at x) place ∙ half 4 ∙ high e.event t.event

  index_is : be16_at x (behind_context x 19 + 2) ≡ index_of e.event
  unfolding change_bytes bytes32 be16_at
  index_is =
      let place : 19 + context_count notification x + 2 ≡ 15 + context_count notification x + 6 = omega arith in
      ap (be16_at x) place ∙ half 6 ∙ low e.event

  target_is : be32_at x 4 ≡ e.object
  unfolding notification_entry subscriber_bytes bytes32 be32_at
  target_is = be32_bytes e.object t.words.object

  method_level : be16_at x 8 ≡ level_of e.method
  unfolding notification_entry subscriber_bytes bytes32 be16_at
  method_level = high e.method t.words.method

  method_index : be16_at x 10 ≡ index_of e.method
  unfolding notification_entry subscriber_bytes bytes32 be16_at
  method_index = low e.method

  two : get_or x 12 0 ≡ 2
  unfolding notification_entry subscriber_bytes bytes32
  two = refl

  told_fields : fields_of notification x
      ≡ not_refused ∷ notification ∷ e.object ∷ level_of e.method ∷ index_of e.method ∷ 2
      ∷ k ∷ e.emitter ∷ level_of e.event ∷ index_of e.event ∷ []
  unfolding fields_of notification_numbers notification_of method_at
  told_fields = rw (target_is, method_level, method_index, two, counted, emitter_is, level_is, index_is)

  told_context : context_of notification x ≡ context_sent e
  unfolding context_of
  told_context = rw (count_is, behind_front) (take_at (context_sent e) (change_bytes e value) k (length_context e holds))

  past : drop (23 + k) x ≡ 0 ∷ 4 ∷ 0 ∷ 1 ∷ value ∷ 1 ∷ []
  unfolding change_bytes bytes32
  past =
      let more : 23 + k ≡ 15 + k + 8 = omega arith in
      ap (λ (n : ℕ). drop n x) more ∙ sym (drop-drop 8 (15 + k) x) ∙ ap (drop 8) behind_context_lem

  told_part : parameters_of notification x ≡ 0 ∷ 4 ∷ 0 ∷ 1 ∷ value ∷ 1 ∷ []
  unfolding parameters_of
  told_part = ap (λ (n : ℕ). drop n x) offset_is ∙ past

  pub notification_read : (rest : List ℕ) → NotificationRead (notification_bytes e value ++ rest) (length (notification_bytes e value)) e value
  unfolding notification_bytes count_fault data_sound entries_fill entries_of
  notification_read rest =
      let l = length_message notification 1 x in
      let f = one_made in
      let w : Holds (message notification 1 x ++ rest) (length (message notification 1 x)) notification 1 x =
      rw (sym l) at (message_holds notification 1 x rest (omega arith) (omega (arith, size, t.count)) (omega arith) refl f) in
      let one : entries_of 1 notification x ≡ x ∷ [] = entries_append 0 notification [] x refl f in
      let a : ReadsAs (message notification 1 x ++ rest) (length (message notification 1 x)) notification (x ∷ []) =
      rw one at (reads_as (message notification 1 x ++ rest) (length (message notification 1 x)) notification 1 x w (omega arith)) in
      record {
        sound = w.sound;
        message = a.message;
        entry = a.entry 0 (omega arith) ∙ told_fields;
        context = a.context 0 (omega arith) ∙ told_context;
        part = a.part 0 (omega arith) ∙ told_part;
      }
