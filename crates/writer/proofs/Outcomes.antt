-- Which way each call of the writer went, and what came of it. Assumes nothing.
use Prim.Native.Nat.{ℕ, ◌+◌, ◌≤◌, ◌<◌}
use mathlib.Core.Path.{◌≡◌, refl, sym, ap, ◌∙◌}
use mathlib.Core.List.{List, ◌++◌}
use mathlib.Core.Bool.{Bool, cond, true, false}
use lib.Dec.{ltb}
use native.Mathlib.Omega.{arith}
use lib.ListN.{length, length-append}
use borrow.Author.Tests.{ltb-true, lt-ltb, le-ltb, le-leb, lt-leb, eq-eqb, ne_eqb}
use Rattle.octets.specs.Numbers.{bytes16, bytes32}
use Rattle.octets.proofs.Digits.{length_bytes16, length_bytes32}
use Rattle.heartbeat.specs.Beat.{seconds_form, milliseconds_form, greatest_seconds}
use Rattle.frame.specs.Limits.{header_end, greatest_size, response, keep_alive}
use Rattle.frame.specs.Header.{pdu_type, message_count}
use Rattle.frame.specs.Entry.{entries_fill, well_formed}
use Rattle.frame.specs.Decide.{decide}
use Rattle.frame.specs.declared.Decision.{Decision}
use Rattle.frame.specs.declared.Decision.TheVariants.{Undecided, Faulty, Sound}
use Rattle.std.specs.Prelude.{Ok, Err}
use Rattle.numbers.specs.declared.Fault.{Fault}
use Rattle.numbers.specs.declared.Refusal.{Refusal}
use Rattle.numbers.specs.declared.Refusal.TheVariants.{NoRoom, TooLong, BadEntry}
use Rattle.numbers.specs.declared.Refusal.TheVariants as refusal
use Rattle.writer.specs.Scaffold.{room_check, length_by}
use Rattle.writer.specs.Numbers.{writing, written_numbers}
use Rattle.reader.specs.Read.{data_of}
use Rattle.reader.proofs.Sounds.{entries_data}
use Rattle.layout.specs.Message.{size_of, message, at_front, beat_bytes}
use Rattle.writer.specs.Write.{least_room, unwritten, written, offered, start_of, append_sound, append_by, append_of, beat_fits, keep_alive_of}
use Rattle.frame.proofs.Entries.{entries_few}
use Rattle.frame.proofs.Headers.{sound_header}
use Rattle.frame.proofs.Sounds.{sound_at}
use Rattle.layout.proofs.Messages.{length_message}
use Rattle.writer.proofs.Messages.{length_data}

-- a sound message's length
pub sound_bounds : (s : List ℕ) (n : ℕ) → decide s ≡ Sound n → (header_end ≤ n) × (n ≤ least_room) × (n ≤ length s)
sound_bounds s n e =
    let w = sound_at s n e in
    let h = sound_header s w.header in
    omega (arith, w.low, w.high, w.size, h.high)

-- a sound message of entries has few of them
pub sound_entries : (s : List ℕ) (n : ℕ) → decide s ≡ Sound n → pdu_type s ≤ response
    → entries_fill (message_count s) (pdu_type s) (data_of s n) ≡ true
sound_entries s n e k = entries_data s n (sound_at s n e) (λ q. omega arith)

pub sound_few : (s : List ℕ) (n : ℕ) → decide s ≡ Sound n → pdu_type s ≤ response → message_count s < 65535
sound_few s n e k =
    let b = sound_bounds s n e in
    omega (arith, entries_few (message_count s) (pdu_type s) (data_of s n) (sound_entries s n e k), length_data n s b.2)

written_done : (kind count : ℕ) (body buf after : List ℕ) (n : ℕ) → after ≡ at_front (message kind count body) buf → n ≡ length body + 10
    → writing (Ok n) after ≡ written (message kind count body) buf
unfolding written written_numbers
written_done kind count body buf after n e l = rw (e, l, length_message kind count body)

offered_long : (kind count : ℕ) (body buf : List ℕ) → greatest_size < size_of body → writing (Err TooLong) buf ≡ offered kind count body buf
unfolding offered unwritten written_numbers
offered_long kind count body buf h = simp (lt-ltb greatest_size (size_of body) h)

offered_done : (kind count : ℕ) (body buf after : List ℕ) (n : ℕ) → size_of body ≤ greatest_size
    → after ≡ at_front (message kind count body) buf → n ≡ length body + 10
    → writing (Ok n) after ≡ offered kind count body buf
unfolding offered
offered_done kind count body buf after n h e l =
    written_done kind count body buf after n e l ∙ sym (simp (le-ltb greatest_size (size_of body) h))

-- a buffer without room, and a length that is sound
no_room_is : (buf : List ℕ) (r : Refusal) → Err r ≡ room_check buf → (r ≡ NoRoom) × (length buf < least_room)
unfolding room_check
no_room_is buf r e = go (ltb (length buf) least_room) refl e
  where
    go : (b : Bool) → ltb (length buf) least_room ≡ b → Err r ≡ cond b (Err NoRoom) (Ok (tt {0})) → (r ≡ NoRoom) × (length buf < least_room)
    go true q z = (cc, ltb-true (length buf) least_room q)
    go false q z = absurd (let y : ◌≡◌ {A = ℕ} 0 1 = cc in omega arith)

pub length_sound : (d : Decision) (n : ℕ) → Ok n ≡ length_by d → d ≡ Sound n
unfolding length_by
length_sound Undecided n e = absurd (let y : ◌≡◌ {A = ℕ} 0 1 = cc in omega arith)
length_sound (Faulty f m) n e = absurd (let y : ◌≡◌ {A = ℕ} 0 1 = cc in omega arith)
length_sound (Sound m) n e = let q : m ≡ n = cc in ap Sound q

module _ (buf : List ℕ) (kind : ℕ) (e : List ℕ) where
  start_no_room : length buf < least_room → writing (Err NoRoom) buf ≡ start_of buf kind e
  unfolding start_of unwritten written_numbers
  start_no_room h = simp (lt-ltb (length buf) least_room h)

  pub start_unroomed : (r : Refusal) → Err r ≡ room_check buf → writing (Err r) buf ≡ start_of buf kind e
  start_unroomed r q = let w = no_room_is buf r q in rw w.0 (start_no_room w.1)

  module _ (room : least_room ≤ length buf) where
    pub start_bad : well_formed kind e ≡ false → writing (Err BadEntry) buf ≡ start_of buf kind e
    unfolding start_of unwritten written_numbers
    start_bad w = simp (le-ltb (length buf) least_room room, w)

    start_by : well_formed kind e ≡ true → offered kind 1 e buf ≡ start_of buf kind e
    unfolding start_of
    start_by w = simp (le-ltb (length buf) least_room room, w)

    pub start_long : well_formed kind e ≡ true → greatest_size < size_of e → writing (Err TooLong) buf ≡ start_of buf kind e
    start_long w h = offered_long kind 1 e buf h ∙ start_by w

    pub start_done : well_formed kind e ≡ true → size_of e ≤ greatest_size → (after : List ℕ) → after ≡ at_front (message kind 1 e) buf
        → writing (Ok (length e + 10)) after ≡ start_of buf kind e
    start_done w h after a = offered_done kind 1 e buf after (length e + 10) h a refl ∙ start_by w

  append_no_room : length buf < least_room → writing (Err NoRoom) buf ≡ append_of buf kind e
  unfolding append_of unwritten written_numbers
  append_no_room h = simp (lt-ltb (length buf) least_room h)

  pub append_unroomed : (r : Refusal) → Err r ≡ room_check buf → writing (Err r) buf ≡ append_of buf kind e
  append_unroomed r q = let w = no_room_is buf r q in rw w.0 (append_no_room w.1)

  module _ (room : least_room ≤ length buf) where
    append_by_lem : (d : Decision) → decide buf ≡ d → append_by d buf kind e ≡ append_of buf kind e
    unfolding append_of
    append_by_lem d q = simp (le-ltb (length buf) least_room room, q)

    append_undecided : decide buf ≡ Undecided → writing (Err NoRoom) buf ≡ append_of buf kind e
    unfolding append_by unwritten written_numbers
    append_undecided q = append_by_lem Undecided q

    append_fault : (f : Fault) (n : ℕ) → decide buf ≡ Faulty f n → writing (Err (refusal.Fault f)) buf ≡ append_of buf kind e
    unfolding append_by written_numbers
    append_fault f n q = append_by_lem (Faulty f n) q

    pub append_unsound : (r : Refusal) → Err r ≡ length_by (decide buf) → writing (Err r) buf ≡ append_of buf kind e
    unfolding length_by
    append_unsound r q = go (decide buf) refl q
      where
        go : (d : Decision) → decide buf ≡ d → Err r ≡ length_by d → writing (Err r) buf ≡ append_of buf kind e
        go Undecided h z = let y : r ≡ NoRoom = cc in rw y (append_undecided h)
        go (Faulty f n) h z = let y : r ≡ refusal.Fault f = cc in rw y (append_fault f n h)
        go (Sound n) h z = absurd (let y : ◌≡◌ {A = ℕ} 0 1 = cc in omega arith)

    pub append_sound_lem : (n : ℕ) → decide buf ≡ Sound n → append_sound n buf kind e ≡ append_of buf kind e
    unfolding append_by
    append_sound_lem n q = append_by_lem (Sound n) q

  module _ (n : ℕ) where
    pub append_other : (kind ≡ pdu_type buf → ⊥) → writing (Err BadEntry) buf ≡ append_sound n buf kind e
    unfolding append_sound unwritten written_numbers
    append_other o = simp (ne_eqb kind (pdu_type buf) o)

    pub append_bad : kind ≡ pdu_type buf → well_formed kind e ≡ false → writing (Err BadEntry) buf ≡ append_sound n buf kind e
    unfolding append_sound unwritten written_numbers
    append_bad o w = simp (eq-eqb kind (pdu_type buf) o, w)

    module _ (o : kind ≡ pdu_type buf) (w : well_formed kind e ≡ true) (s : decide buf ≡ Sound n) where
      append_offers : offered kind (message_count buf + 1) (data_of buf n ++ e) buf ≡ append_sound n buf kind e
      unfolding append_sound
      append_offers = simp (eq-eqb kind (pdu_type buf) o, w)

      more_size : length (data_of buf n ++ e) + 10 ≡ n + length e
      more_size =
          let b = sound_bounds buf n s in
          omega (arith, length-append (data_of buf n) e, length_data n buf b.2)

      pub append_long : least_room < n + length e → writing (Err TooLong) buf ≡ append_sound n buf kind e
      append_long h =
          offered_long kind (message_count buf + 1) (data_of buf n ++ e) buf (omega (arith, more_size)) ∙ append_offers

      pub append_done : n + length e ≤ least_room → (after : List ℕ)
          → after ≡ at_front (message kind (message_count buf + 1) (data_of buf n ++ e)) buf
          → writing (Ok (n + length e)) after ≡ append_sound n buf kind e
      append_done h after a =
          offered_done kind (message_count buf + 1) (data_of buf n ++ e) buf after (n + length e) (omega (arith, more_size)) a (sym more_size) ∙ append_offers

module _ (buf : List ℕ) (form value : ℕ) where
  beat_no_room : length buf < least_room → writing (Err NoRoom) buf ≡ keep_alive_of buf form value
  unfolding keep_alive_of unwritten written_numbers
  beat_no_room h = simp (lt-ltb (length buf) least_room h)

  pub beat_unroomed : (r : Refusal) → Err r ≡ room_check buf → writing (Err r) buf ≡ keep_alive_of buf form value
  beat_unroomed r q = let w = no_room_is buf r q in rw w.0 (beat_no_room w.1)

  module _ (room : least_room ≤ length buf) where
    beat_bad : beat_fits form value ≡ false → writing (Err BadEntry) buf ≡ keep_alive_of buf form value
    unfolding keep_alive_of unwritten written_numbers
    beat_bad b = simp (le-ltb (length buf) least_room room, b)

    pub beat_good : beat_fits form value ≡ true → written (message keep_alive 1 (beat_bytes form value)) buf ≡ keep_alive_of buf form value
    unfolding keep_alive_of
    beat_good b = simp (le-ltb (length buf) least_room room, b)

    pub no_form : (form ≡ milliseconds_form → ⊥) → (form ≡ seconds_form → ⊥) → writing (Err BadEntry) buf ≡ keep_alive_of buf form value
    unfolding beat_fits
    no_form m s = beat_bad (simp (ne_eqb form seconds_form s, ne_eqb form milliseconds_form m))

    pub no_seconds : form ≡ seconds_form → greatest_seconds < value → writing (Err BadEntry) buf ≡ keep_alive_of buf form value
    unfolding beat_fits
    no_seconds s h = beat_bad (simp (eq-eqb form seconds_form s, lt-leb value greatest_seconds h))

    pub in_seconds : form ≡ seconds_form → value ≤ greatest_seconds → (after : List ℕ)
        → after ≡ at_front (message keep_alive 1 (bytes16 value)) buf → writing (Ok 12) after ≡ keep_alive_of buf form value
    unfolding beat_fits beat_bytes
    in_seconds s h after a =
        let q = eq-eqb form seconds_form s in
        written_done keep_alive 1 (bytes16 value) buf after 12 a (omega (arith, length_bytes16 value))
        ∙ simp q at (beat_good (simp (q, le-leb value greatest_seconds h)))

    pub in_milliseconds : form ≡ milliseconds_form → (after : List ℕ)
        → after ≡ at_front (message keep_alive 1 (bytes32 value)) buf → writing (Ok 14) after ≡ keep_alive_of buf form value
    unfolding beat_fits beat_bytes
    in_milliseconds m after a =
        let q = ne_eqb form seconds_form (λ s. omega arith) in
        written_done keep_alive 1 (bytes32 value) buf after 14 a (omega (arith, length_bytes32 value))
        ∙ simp q at (beat_good (simp (q, eq-eqb form milliseconds_form m)))
