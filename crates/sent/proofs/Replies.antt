-- The reply to a sound message is read, or it is none, or longer than a message may be. Assumes nothing.
use Prim.Native.Nat.{ℕ, ◌+◌, ◌≤◌, ◌<◌}
use mathlib.Core.Path.{◌≡◌, refl, sym, ap, ◌∙◌}
use mathlib.Core.Bool.{Bool, true, false, cond}
use mathlib.Core.List.{List, [], ◌∷◌, ◌++◌}
use native.Mathlib.Omega.{arith}
use lib.Dec.{eqb, ltb}
use lib.ListN.{length, get_or, drop, length-append}
use lib.Seq.{take-length, take_all}
use borrow.Author.Tests.{le-leb, eq-eqb, ne_eqb, lt-ltb, le-ltb, eqb-true, eqb-false, ltb-true, ltb-false}
use Rattle.std.specs.Prelude.{Some, None}
use Rattle.std.proofs.lemmas.Option.{none-some}
use Rattle.laws.proofs.Conds.{cond_left, cond_right, either}
use Rattle.octets.specs.Numbers.{be16_at, be32_at, bytes16, bytes32, Octets}
use Rattle.octets.proofs.Digits.{be16_small, be32_bytes, bytes16_be16, bytes32_be32, octets_drop}
use Rattle.numbers.specs.Refusal.{fault}
use Rattle.numbers.specs.Fault.{fault_size}
use Rattle.numbers.specs.declared.Fault.TheVariants as faults
use Rattle.heartbeat.specs.Beat.{form_of, value_of, greatest_seconds, greatest_milliseconds}
use Rattle.heartbeat.specs.declared.Heartbeat.{Heartbeat}
use Rattle.heartbeat.specs.declared.Heartbeat.TheVariants.{InSeconds, InMilliseconds}
use Rattle.frame.specs.Limits.{sync, version, header_end, least_size, greatest_size, longest_message, command_wanting_reply, notification, response, keep_alive, seconds_bytes, milliseconds_bytes}
use Rattle.frame.specs.Header.{protocol_version, pdu_size, pdu_type, message_count, count_fault, fields_fault, header_fault}
use Rattle.frame.specs.Decide.{keep_alive_fill, data_sound, decide}
use Rattle.frame.specs.Scaffold.{SoundAt}
use Rattle.frame.specs.declared.Decision.TheVariants.{Faulty, Sound}
use Rattle.frame.proofs.Headers.{sound_header}
use Rattle.frame.proofs.Sounds.{sound_at}
use Rattle.frame.proofs.Ways.{header, way_back}
use Rattle.fields.specs.Place.{entries_from, entry_bytes, parameters_of}
use Rattle.fields.specs.Fields.{heartbeat_of}
use Rattle.reader.specs.Read.{read_by, read_of}
use Rattle.reader.specs.Entry.{fields_of}
use Rattle.layout.specs.Message.{size_of, head_bytes, message, beat_bytes}
use Rattle.layout.proofs.Messages.{length_message}
use Rattle.writer.specs.Round.{entries_of, ReadsAs}
use Rattle.writer.proofs.Heads.{Holds, message_holds, sound_message}
use Rattle.writer.proofs.Walks.{length_entries, entries_index}
use Rattle.writer.proofs.Readings.{reads_as}
use Rattle.connection.specs.Kept.{fits_form}
use Rattle.replies.specs.Bytes.{keep_alive_bytes, response_bytes}
use Rattle.replies.proofs.Puts.{length_keep_alive}
use Rattle.device.specs.State.{heard_at}
use Rattle.device.specs.declared.Device.{Device}
use Rattle.serve.specs.Serve.{ran_first, last_of, response_to, responses_of}
use Rattle.serve.specs.Sound.{Ruled, ruled, commands_of, kept_alive, sound_of}
use Rattle.serve.proofs.Replies.{few, beats, room, commands_silent, commands_told}
use Rattle.serve.proofs.Answers.{Fitting}
use Rattle.serve.proofs.Serves.{first_fits}
use Rattle.sent.specs.Sent.{BeatRead, longest_reply, reply_to, handle_at, answer_at, ResponsesRead, ReplyRead}
use Rattle.sent.proofs.Takes.{beat_read}
use Rattle.sent.proofs.Responses.{made_fields, made_part, responses_fill, responses_at, be32_small, handle_small}

-- ---- keep-alives
-- a heartbeat that was read is written again as the same bytes
beat_again : (t : List ℕ) → Octets t → keep_alive_fill t ≡ true → beat_bytes (form_of (heartbeat_of t)) (value_of (heartbeat_of t)) ≡ t
unfolding keep_alive_fill heartbeat_of form_of value_of beat_bytes
beat_again t o f = go (eqb (length t) seconds_bytes) refl f
  where
    back : Heartbeat → List ℕ
    back h = beat_bytes (form_of h) (value_of h)

    go : (b : Bool) → eqb (length t) seconds_bytes ≡ b → cond b true (eqb (length t) milliseconds_bytes) ≡ true
        → back (cond b (InSeconds (record { 0 = be16_at t 0 })) (InMilliseconds (record { 0 = be32_at t 0 }))) ≡ t
    go true e f =
        let l = eqb-true (length t) seconds_bytes e in
        bytes16_be16 t 0 o (omega arith) ∙ take_all 2 t (omega arith)
    go false e f =
        let l = eqb-true (length t) milliseconds_bytes f in
        bytes32_be32 t 0 o (omega arith) ∙ take_all 4 t (omega arith)

heartbeat_fits : (t : List ℕ) → Octets t → fits_form (heartbeat_of t) ≡ true
unfolding heartbeat_of fits_form
heartbeat_fits t o =
    either (λ (h : Heartbeat). fits_form h ≡ true) (eqb (length t) seconds_bytes) (InSeconds (record { 0 = be16_at t 0 })) (InMilliseconds (record { 0 = be32_at t 0 }))
    (le-leb (be16_at t 0) greatest_seconds (omega (arith, be16_small t 0 o)))
    (le-leb (be32_at t 0) greatest_milliseconds (omega (arith, be32_small t 0 o)))

-- ---- the header's count
count_some : (kind count : ℕ) → count_fault kind count ≡ None → 0 < count
unfolding count_fault
count_some kind count h =
    let p = cond_right (eqb count 0) (Some faults.Count) _ None h (λ e. none-some faults.Count (sym e)) in
    let q = eqb-false count 0 p.0 in
    omega arith

count_one : (count : ℕ) → count_fault keep_alive count ≡ None → count ≡ 1
unfolding count_fault
count_one count h =
    let p = cond_right (eqb count 0) (Some faults.Count) _ None h (λ e. none-some faults.Count (sym e)) in
    eqb-true count 1 (cond_left (eqb count 1) None (Some faults.Count) None p.1 (λ e. none-some faults.Count (sym e))).0

-- ---- a message that is too long
module _ (count : ℕ) (body rest : List ℕ) (over : greatest_size < size_of body) (under : size_of body ≤ longest_reply) where
  abbrev long : List ℕ
  long = message response count body ++ rest

  long_first : get_or long 0 0 ≡ sync
  unfolding message head_bytes bytes16 bytes32
  long_first = refl

  long_version : protocol_version long ≡ version
  unfolding message head_bytes bytes16 bytes32 be16_at
  long_version = refl

  long_size : pdu_size long ≡ size_of body
  unfolding message head_bytes bytes16 bytes32 be32_at
  long_size = be32_bytes (size_of body) (omega arith)

  long_fault : header_fault long ≡ Some faults.Size
  unfolding header_fault fields_fault
  long_fault =
      rw (long_version, long_size) (simp (le-ltb (size_of body) least_size (omega arith), lt-ltb greatest_size (size_of body) over))

  long_read : read_of long ≡ fault ∷ fault_size ∷ []
  unfolding read_of read_by
  long_read =
      let l : header_end ≤ length long = omega (arith, length-append (message response count body) rest, length_message response count body) in
      let w = way_back long (Faulty faults.Size header_end) (header faults.Size long_first l long_fault) in
      rw w

module _ (d : Device) (n : ℕ) (m : List ℕ) where
  -- ---- the reply by the message's type
  sound_beat : pdu_type m ≡ keep_alive → sound_of d n m ≡ kept_alive d n (heartbeat_of (drop header_end m))
  unfolding sound_of
  sound_beat k = rw (eq-eqb (pdu_type m) keep_alive k)

  beat_reply : pdu_type m ≡ keep_alive → reply_to d n m ≡ keep_alive_bytes (heartbeat_of (drop header_end m))
  unfolding kept_alive
  beat_reply k = ap (λ (x : Ruled). x.reply) (sound_beat k)

  -- the responses to the commands
  abbrev pub responses : List ℕ
  responses = responses_of (message_count m) (heard_at d n) n (pdu_type m) (drop header_end m)

  sound_commands : pdu_type m < notification → sound_of d n m ≡ commands_of (heard_at d n) n (pdu_type m) (message_count m) (drop header_end m)
  unfolding sound_of
  sound_commands k = rw (ne_eqb (pdu_type m) keep_alive (λ e. omega arith), lt-ltb (pdu_type m) notification k)

  pub told_reply : pdu_type m ≡ command_wanting_reply → reply_to d n m ≡ message response (message_count m) responses
  told_reply k =
      ap (λ (x : Ruled). x.reply)
      (sound_commands (omega arith) ∙ commands_told (heard_at d n) n (pdu_type m) (message_count m) (drop header_end m) (λ e. omega arith))

  sound_others : (pdu_type m ≡ keep_alive → ⊥) → notification ≤ pdu_type m → sound_of d n m ≡ ruled (heard_at d n) []
  unfolding sound_of
  sound_others q k = rw (ne_eqb (pdu_type m) keep_alive q, le-ltb (pdu_type m) notification k)

  none_reply : (pdu_type m ≡ command_wanting_reply → ⊥) → (pdu_type m ≡ keep_alive → ⊥) → reply_to d n m ≡ []
  none_reply p q = go (ltb (pdu_type m) notification) refl
    where
      go : (b : Bool) → ltb (pdu_type m) notification ≡ b → reply_to d n m ≡ []
      go true e =
          let low = ltb-true (pdu_type m) notification e in
          ap (λ (x : Ruled). x.reply)
          (sound_commands low ∙ commands_silent (heard_at d n) n (pdu_type m) (message_count m) (drop header_end m) (omega arith))
      go false e = ap (λ (x : Ruled). x.reply) (sound_others q (ltb-false (pdu_type m) notification e))

  -- ---- a sound message of bytes
  module _ (o : Octets m) (s : decide m ≡ Sound (length m)) where
    abbrev behind : List ℕ
    behind = drop header_end m

    known : SoundAt m (length m)
    known = sound_at m (length m) s

    count_told : count_fault (pdu_type m) (message_count m) ≡ None
    count_told = (sound_header m known.header).count

    -- a keep-alive gets itself
    itself : pdu_type m ≡ keep_alive → reply_to d n m ≡ m
    unfolding keep_alive_bytes
    itself k =
        let c : message_count m ≡ 1 = count_one (message_count m) (rw k at count_told) in
        let whole : m ≡ message (pdu_type m) (message_count m) behind = rw (take-length m) at (sound_message m (length m) o s) in
        beat_reply k ∙ ap (message keep_alive 1) (beat_again behind (octets_drop header_end m o) (beats m known k))
        ∙ sym (whole ∙ rw (k, c))

    module _ (rest : List ℕ) where
      answered : pdu_type m ≡ keep_alive → BeatRead (reply_to d n m ++ rest) (length (reply_to d n m)) (heartbeat_of behind)
      answered k = rw (beat_reply k) (beat_read (heartbeat_of behind) rest (heartbeat_fits behind (octets_drop header_end m o)))

      module _ (k : pdu_type m ≡ command_wanting_reply) where
        few_told : message_count m ≤ 119
        few_told = few m known (omega arith)

        length_told : length (reply_to d n m) ≡ length responses + 10
        length_told = ap length (told_reply k) ∙ length_message response (message_count m) responses

        short_told : length (reply_to d n m) ≤ longest_reply
        short_told = omega (arith, length_told, room (heard_at d n) n (pdu_type m) (message_count m) behind few_told)

        refused : longest_message < length (reply_to d n m) → read_of (reply_to d n m ++ rest) ≡ fault ∷ fault_size ∷ []
        refused h =
            let l = length_told in
            let u = short_told in
            rw (told_reply k) (long_read (message_count m) responses rest (omega arith) (omega arith))

        module _ (small : length (reply_to d n m) ≤ longest_message) where
          holds : Holds (message response (message_count m) responses ++ rest) (length responses + 10) response (message_count m) responses
          unfolding count_fault data_sound
          holds =
              let some = count_some (pdu_type m) (message_count m) count_told in
              message_holds response (message_count m) responses rest (omega arith) (omega (arith, length_told)) (omega (arith, few_told))
              (simp (ne_eqb (message_count m) 0 (λ e. omega arith))) (responses_fill n (pdu_type m) (message_count m) (heard_at d n) behind)

          reads : ReadsAs (message response (message_count m) responses ++ rest) (length responses + 10) response (entries_of (message_count m) response responses)
          reads = reads_as (message response (message_count m) responses ++ rest) (length responses + 10) response (message_count m) responses holds (omega arith)

          response_at : (i : ℕ) → i < message_count m
              → get_or (entries_of (message_count m) response responses) i [] ≡ response_bytes (handle_at m i) (answer_at d n m i)
          unfolding response_to ran_first entry_bytes
          response_at i h =
              entries_index i (message_count m) response responses h ∙ responses_at n (pdu_type m) i (message_count m) (heard_at d n) behind h

          fits : (i : ℕ) → Fitting (answer_at d n m i)
          unfolding ran_first entry_bytes
          fits i = first_fits (last_of i (heard_at d n) n (pdu_type m) behind) n (pdu_type m) (entries_from i (pdu_type m) behind)

          responses_read : ResponsesRead (reply_to d n m ++ rest) (length (reply_to d n m)) (message_count m) (handle_at m) (answer_at d n m)
          responses_read =
              let c = length_entries (message_count m) response responses in
              rw (length_told, told_reply k)
              (record {
                sound = holds.sound;
                message = rw c at reads.message;
                entry =
                    λ i h. reads.entry i (rw c h) ∙ ap (fields_of response) (response_at i h)
                    ∙ made_fields (handle_at m i) (answer_at d n m i) (fits i) (handle_small i (pdu_type m) behind (octets_drop header_end m o));
                part =
                    λ i h. reads.part i (rw c h) ∙ ap (parameters_of response) (response_at i h)
                    ∙ made_part (handle_at m i) (answer_at d n m i) (fits i);
              })

      short : length (reply_to d n m) ≤ longest_reply
      short = go (eqb (pdu_type m) command_wanting_reply) refl (eqb (pdu_type m) keep_alive) refl
        where
          go : (a : Bool) → eqb (pdu_type m) command_wanting_reply ≡ a → (b : Bool) → eqb (pdu_type m) keep_alive ≡ b → length (reply_to d n m) ≤ longest_reply
          go true e b f = short_told (eqb-true (pdu_type m) command_wanting_reply e)
          go false e true f =
              let k = eqb-true (pdu_type m) keep_alive f in
              omega (arith, ap length (beat_reply k), length_keep_alive (heartbeat_of behind))
          go false e false f =
              omega (arith, ap length (none_reply (eqb-false (pdu_type m) command_wanting_reply e) (eqb-false (pdu_type m) keep_alive f)))

      pub reply_read : ReplyRead d n m (reply_to d n m ++ rest) (length (reply_to d n m))
      reply_read =
          record {
            silent = λ p q. ap length (none_reply p q);
            answered = λ k. (itself k, answered k);
            responses = responses_read;
            long = refused;
            short = short;
          }
