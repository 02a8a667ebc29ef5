-- LongestReached: the law for equal commands, and a delivery of 119. Assumes nothing.
use Prim.Native.Nat.{ℕ, zero, suc, ◌+◌, ◌-◌, ◌*◌, ◌≤◌, ◌<◌}
use mathlib.Core.Path.{◌≡◌, refl, sym, ap, ◌∙◌}
use mathlib.Core.Bool.{true}
use mathlib.Core.List.{List, [], ◌∷◌, ◌++◌, append-nil}
use native.Mathlib.Omega.{arith}
use lib.Dec.{eqb}
use lib.ListN.{length, take, drop, get_or, length-append}
use lib.Seq.{take-length, drop_at}
use borrow.Author.Tests.{eq-eqb, ne_eqb, le-ltb}
use Rattle.laws.proofs.Conds.{and_left, and_right}
use Rattle.laws.proofs.Tables.{and_both}
use Rattle.octets.specs.Numbers.{be32_at, be16_at, bytes16}
use Rattle.octets.specs.Zeros.{zeros, all_zero}
use Rattle.octets.proofs.Scans.{length_zeros, drop_zeros, all_zero_zeros}
use Rattle.answers.specs.Numbers.{delivery_numbers}
use Rattle.answers.specs.declared.Delivery.TheVariants.{Message}
use Rattle.frame.specs.Limits.{header_end, least_response}
use Rattle.frame.specs.Header.{pdu_type, message_count, count_fault}
use Rattle.frame.specs.Entry.{least_entry, context_count, parameter_offset, is_context_bad, count_place, least_count, count_fits, entry_fits, entry_size, entries_fill}
use Rattle.frame.specs.Decide.{data_sound, decide}
use Rattle.frame.specs.declared.Decision.TheVariants.{Sound}
use Rattle.frame.proofs.Bytes.{nil_waits}
use Rattle.fields.specs.Place.{parameters_of}
use Rattle.fields.specs.Fields.{method_at, command_of}
use Rattle.layout.specs.Message.{size_of, head_bytes, message}
use Rattle.layout.proofs.Messages.{length_head, length_message}
use Rattle.writer.proofs.Heads.{Holds, message_holds}
use Rattle.area.specs.Area.{part_bytes, area_bytes, part_sound, parts_sound, area_sound, undecided_of, count_obeys, held_obeys}
use Rattle.connection.specs.State.{connection_count, live_at, is_not_open}
use Rattle.objects.specs.Methods.{class_method, is_mute, is_manager, is_object, is_telling, is_locking, is_muting, is_subscribing, has_method}
use Rattle.objects.specs.Tests.{is_forbidden, count_of, length_of, is_length_bad, is_pair_bad, is_malformed, is_value_bad, first_status}
use Rattle.objects.specs.Answers.{class_of, identification_of, reply_of, answer_with}
use Rattle.subscription.specs.Arguments.{is_emitter_bad}
use Rattle.replies.specs.Bytes.{least_output}
use Rattle.replies.proofs.Puts.{length_response}
use Rattle.device.specs.State.{fresh_of, open_of, lives_in, heard_at}
use Rattle.device.specs.Run.{is_held_by_other, is_out_of_turn, is_full, later_status, status_of, answer_of, ran_by, run_of}
use Rattle.device.specs.Obeys.{device_obeys}
use Rattle.device.specs.declared.Device.{Device}
use Rattle.device.proofs.Keeps.{rules_kept}
use Rattle.serve.specs.Serve.{ran_with, ran_first, response_to, responses_of}
use Rattle.serve.specs.Sound.{sound_of}
use Rattle.serve.proofs.Serves.{first_fits}
use Rattle.delivery.specs.Intake.{messaged, delivered_by, taken_in}
use Rattle.endpoint.specs.State.{state_of, fresh_state, record_obeys}
use Rattle.endpoint.specs.Outcome.{Outcome}
use Rattle.endpoint.specs.Calls.{opened_by, open_call}
use Rattle.endpoint.specs.Deliver.{held_at, with_intake, deliver_call}
use Rattle.endpoint.specs.declared.Record.{Record}
use Rattle.sent.specs.Sent.{reply_to}
use Rattle.sent.specs.Longest.{class_command, class_commands, class_message, Delivers, Unrefused, LongestReached}
use Rattle.sent.proofs.Replies.{told_reply}

-- ---- one command, with whatever stands behind it
class_size : (rest : List ℕ) → entry_size 1 (class_command ++ rest) ≡ 17
unfolding entry_size entry_fits count_fits least_entry context_count parameter_offset is_context_bad count_place least_count be32_at
class_size rest = simp (le-ltb (length (class_command ++ rest)) 17 (omega (arith, length-append class_command rest)), le-ltb (length rest) 0 (omega arith))

class_status : (d : Device) (n : ℕ) → status_of d n 4097 class_method 0 [] ≡ 0
unfolding status_of first_status later_status is_held_by_other is_emitter_bad is_value_bad is_out_of_turn is_full is_object is_manager is_mute has_method is_telling is_locking is_muting is_subscribing is_forbidden is_malformed count_of is_length_bad length_of is_pair_bad
class_status d n = refl

class_length : (d : Device) (n : ℕ) → (run_of d n 4097 class_method 0 []).answer.length ≡ 12
unfolding run_of ran_by answer_of answer_with reply_of identification_of class_of is_mute bytes16
class_length d n =
    ap (λ (s : ℕ). (ran_by d n 4097 class_method [] s).answer.length) (class_status d n)

first_length : (d : Device) (n : ℕ) (rest : List ℕ) → (ran_first d n 1 (class_command ++ rest)).answer.length ≡ 12
unfolding ran_first ran_with command_of method_at parameters_of least_entry context_count parameter_offset be32_at be16_at
first_length d n rest = rw (class_size rest) (class_length d n)

response_length : (d : Device) (n : ℕ) (rest : List ℕ) → length (response_to d n 1 (class_command ++ rest)) ≡ 22
unfolding response_to
response_length d n rest =
    let t = class_command ++ rest in
    let f = first_fits d n 1 t in
    let h = (command_of (take (entry_size 1 t) t)).handle in
    length_response h (ran_first d n 1 t).answer (omega (arith, f.low, f.room)) ∙ ap (λ (l : ℕ). least_response + l) (first_length d n rest)

class_rest : (rest : List ℕ) → drop (entry_size 1 (class_command ++ rest)) (class_command ++ rest) ≡ rest
class_rest rest = rw (class_size rest) refl

-- ---- so many of it
commands_length : (k : ℕ) → length (class_commands k) ≡ k * 17
unfolding class_commands
commands_length zero = refl
commands_length (suc k) = omega (arith, length-append class_command (class_commands k), commands_length k)

commands_fill : (k : ℕ) → entries_fill k 1 (class_commands k) ≡ true
unfolding class_commands entries_fill
commands_fill zero = refl
commands_fill (suc k) =
    let rest = class_commands k in
    rw (ne_eqb (entry_size 1 (class_command ++ rest)) 0 (λ e. omega (arith, class_size rest)), class_rest rest) (commands_fill k)

responses_length : (k : ℕ) (d : Device) (n : ℕ) → length (responses_of k d n 1 (class_commands k)) ≡ k * 22
unfolding class_commands responses_of
responses_length zero d n = refl
responses_length (suc k) d n =
    let rest = class_commands k in
    let t = class_command ++ rest in
    let e = (ran_first d n 1 t).device in
    let u = responses_of k e n 1 (drop (entry_size 1 t) t) in
    let l : length u ≡ k * 22 = rw (class_rest rest) (responses_length k e n) in
    omega (arith, length-append (response_to d n 1 t) u, response_length d n rest)

-- ---- the message of them
module _ (k : ℕ) (some : 0 < k) (few : k ≤ 119) where
  held : Holds (class_message k ++ []) (length (class_commands k) + 10) 1 k (class_commands k)
  unfolding count_fault data_sound
  held =
      let l = commands_length k in
      message_holds 1 k (class_commands k) [] (omega arith) (omega arith) (omega arith) (simp (ne_eqb k 0 (λ e. omega arith))) (commands_fill k)

  class_length_message : length (class_message k) ≡ 10 + k * 17
  class_length_message = omega (arith, length_message 1 k (class_commands k), commands_length k)

  class_sound : decide (class_message k) ≡ Sound (10 + k * 17)
  class_sound =
      let n : length (class_commands k) + 10 ≡ 10 + k * 17 = omega (arith, commands_length k) in
      rw (append-nil (class_message k), n) at held.sound

  class_type : pdu_type (class_message k) ≡ 1
  class_type = rw (append-nil (class_message k)) at held.type

  class_count : message_count (class_message k) ≡ k
  class_count = rw (append-nil (class_message k)) at held.number

  class_body : drop header_end (class_message k) ≡ class_commands k
  unfolding message
  class_body = drop_at (head_bytes 1 k (size_of (class_commands k))) (class_commands k) 10 (length_head 1 k (size_of (class_commands k)))

  class_reply : (d : Device) (n : ℕ) → length (reply_to d n (class_message k)) ≡ 10 + k * 22
  class_reply d n =
      let m = class_message k in
      let body = responses_of (message_count m) (heard_at d n) n (pdu_type m) (drop header_end m) in
      let b : length body ≡ k * 22 = rw (class_type, class_count, class_body) (responses_length k (heard_at d n) n) in
      ap length (told_reply d n m class_type) ∙ omega (arith, length_message 3 (message_count m) body)

-- ---- a delivery
pub passed : (r : Record) (area : List ℕ) (n : ℕ) (out : List ℕ) → Delivers r area n out → (piece : List ℕ)
    → deliver_call r area n piece out ≡ with_intake r n (taken_in r.device area n (held_at r n) piece out)
unfolding deliver_call
passed r area n out w piece = rw (w.obeying, w.lying, w.living, le-ltb (length out) least_output w.roomy)

module _ (r : Record) (area : List ℕ) (n : ℕ) (out : List ℕ) (w : Unrefused r area n out) (m : List ℕ) (s : decide m ≡ Sound (length m)) where
  came : taken_in r.device area n (held_at r n) m out ≡ messaged (sound_of r.device n m) area n (length m) out
  unfolding taken_in undecided_of delivered_by
  came =
      let z : length m - 0 ≡ length m = omega arith in
      rw (w.empty, s, take-length m, z)

  told : (deliver_call r area n m out).answer ≡ delivery_numbers (Message (length m) (length (reply_to r.device n m)))
  unfolding messaged
  told = ap (λ (o : Outcome). o.answer) (passed r area n out w.delivers m ∙ ap (with_intake r n) came)

-- ---- a fresh record, its first connection just opened
fresh_obeys : (reading : ℕ) → record_obeys (fresh_state reading) ≡ true
unfolding record_obeys fresh_state lives_in fresh_of held_obeys count_obeys zeros
fresh_obeys reading = and_both (device_obeys (fresh_of reading)) true (rules_kept.fresh reading) refl

opened_first : (reading : ℕ) → (open_call (fresh_state reading)).state ≡ state_of (open_of (fresh_of reading)).device (zeros connection_count)
unfolding open_call opened_by open_of fresh_of fresh_state is_not_open
opened_first reading =
    ap (λ (o : Outcome). o.state) go
  where
    go : open_call (fresh_state reading) ≡ opened_by (open_of (fresh_state reading).device).answer (fresh_state reading) (open_of (fresh_state reading).device)
    go = rw (fresh_obeys reading)

opened_lives : (reading : ℕ) → held_obeys (lives_in (open_of (fresh_of reading)).device) (zeros connection_count) ≡ true
unfolding lives_in open_of fresh_of is_not_open held_obeys count_obeys zeros
opened_lives reading = refl

opened_live : (reading : ℕ) → live_at (open_of (fresh_of reading)).device.connections 0 ≡ true
unfolding live_at open_of fresh_of is_not_open
opened_live reading = refl

zero_take : (n : ℕ) (l : List ℕ) → all_zero l ≡ true → all_zero (take n l) ≡ true
unfolding all_zero
zero_take zero l e = refl
zero_take (suc n) [] e = refl
zero_take (suc n) (x ∷ l) e =
    and_both (eqb x 0) (all_zero (take n l)) (and_left (eqb x 0) (all_zero l) e) (zero_take n l (and_right (eqb x 0) (all_zero l) e))

part_zero : (n j : ℕ) → part_sound 0 (take n (zeros j)) ≡ true
unfolding part_sound
part_zero n j = rw nil_waits (zero_take n (zeros j) (all_zero_zeros j))

parts_zero : (k j : ℕ) → parts_sound (zeros k) (zeros j) ≡ true
unfolding zeros parts_sound
parts_zero zero j = refl
parts_zero (suc k) j =
    and_both (part_sound 0 (take part_bytes (zeros j))) (parts_sound (zeros k) (drop part_bytes (zeros j))) (part_zero part_bytes j)
    (rw (drop_zeros part_bytes j) (parts_zero k (j - part_bytes)))

area_zero : (k : ℕ) → area_sound (zeros k) (zeros area_bytes) ≡ true
unfolding area_sound
area_zero k = rw (eq-eqb (length (zeros area_bytes)) area_bytes (length_zeros area_bytes)) (parts_zero k area_bytes)

held_zero : get_or (zeros connection_count) 0 0 ≡ 0
unfolding zeros
held_zero = refl

fresh_ready : (reading : ℕ) (out : List ℕ) → least_output ≤ length out → Unrefused (open_call (fresh_state reading)).state (zeros area_bytes) 0 out
unfolding record_obeys
fresh_ready reading out h =
    let d = (open_of (fresh_of reading)).device in
    rw (opened_first reading)
    (record {
      delivers = record {
        obeying =
            and_both (device_obeys d) (held_obeys (lives_in d) (zeros connection_count)) (rules_kept.opening (fresh_of reading) (rules_kept.fresh reading)) (opened_lives reading);
        lying = area_zero connection_count;
        living = opened_live reading;
        roomy = h;
      };
      empty = held_zero;
    })

pub longest_reached : LongestReached
longest_reached =
    record {
      sound = class_sound;
      reply = λ d n k some few. class_reply k some few d n;
      longest = λ d n. class_reply 119 (omega arith) (omega arith) d n;
      delivered =
          λ r area n out w.
          let l = class_length_message 119 (omega arith) (omega arith) in
          told r area n out w (class_message 119) (class_sound 119 (omega arith) (omega arith) ∙ ap Sound (sym l))
          ∙ rw (l, class_reply 119 (omega arith) (omega arith) r.device n);
      fresh = fresh_ready;
    }
