-- The 27 bytes of a lock, delivered on a connection with none of its bytes waiting: for Technician. Assumes nothing.
use Prim.Native.Nat.{ℕ, zero, suc, ◌+◌, ◌*◌, ◌/◌, ◌%◌, ◌^◌, ◌<◌}
use mathlib.Core.Path.{◌≡◌, refl, sym, ap, subst, ◌∙◌}
use mathlib.Core.Bool.{true, false}
use mathlib.Core.List.{List, [], ◌∷◌, ◌++◌}
use native.Mathlib.Omega.{arith}
use lib.Dec.{eqb, ltb}
use lib.ListN.{length, get_or, set, take, drop}
use lib.Seq.{get_or-set_same}
use borrow.Author.Tests.{le-ltb, lt-ltb, ltb-true}
use Rattle.laws.specs.Lists.{all, joined}
use Rattle.laws.proofs.Conds.{and_left, and_right}
use Rattle.octets.specs.Numbers.{be16_at, be32_at, bytes16, bytes32, Octets}
use Rattle.octets.proofs.Digits.{be32_bytes}
use Rattle.frame.specs.Limits.{header_end}
use Rattle.frame.specs.Header.{count_fault, fields_fault, header_fault}
use Rattle.frame.specs.Entry.{least_entry, context_count, parameter_offset, is_context_bad, count_place, least_count, count_fits, entry_fits, entry_size, entries_fill}
use Rattle.frame.specs.Decide.{data_sound, decide_data, decide_header, decide}
use Rattle.frame.specs.declared.Decision.TheVariants.{Sound}
use Rattle.fields.specs.Place.{parameters_of}
use Rattle.fields.specs.Fields.{method_at, command_of}
use Rattle.layout.specs.Message.{head_bytes, message}
use Rattle.area.specs.Area.{undecided_of}
use Rattle.objects.specs.Methods.{lock_method}
use Rattle.objects.specs.Answers.{failed_of, answer_with}
use Rattle.objects.specs.Answers.{Carried as Answer}
use Rattle.holders.specs.Holders.{owner_of, is_other}
use Rattle.replies.specs.Bytes.{least_output, response_bytes}
use Rattle.device.specs.State.{heard_at, sent_at}
use Rattle.device.specs.Setters.{with_holders}
use Rattle.device.specs.Run.{run_of}
use Rattle.device.specs.declared.Device.{Device}
use Rattle.device.specs.Run.{Ran}
use Rattle.device.proofs.Commands.{lock_other, lock_done}
use Rattle.serve.specs.Serve.{ran_with, ran_first, last_of, response_to, responses_of}
use Rattle.serve.specs.Sound.{Ruled, ruled, commands_of, sound_of}
use Rattle.delivery.specs.Intake.{messaged, delivered_by, taken_in}
use Rattle.endpoint.specs.Outcome.{Outcome}
use Rattle.endpoint.specs.Deliver.{with_intake, deliver_call}
use Rattle.endpoint.specs.declared.Record.{Record}
use Rattle.endpoint.proofs.States.{live_low}
use Rattle.stream.proofs.Bytes.{octets_nil, octets_append}
use Rattle.feed.specs.Feed.{Feeding, unfed, is_message, bytes_taken, reply_length, message_told, offer, feed_more, feed_piece, feed_of}
use Rattle.cutting.specs.Cutting.{SameEnd, feed_all}
use Rattle.cutting.proofs.Walks.{cutting}
use Rattle.promise.specs.Kept.{Kept}
use Rattle.promise.proofs.Locks.{other_holds}
use Rattle.technician.specs.Lock.{lock_bytes, reply_bytes, CanAsk, lock_call, lock_fed, Answered}

-- ---- the bytes
pub lock_decided : (handle at : ℕ) → decide (lock_bytes handle at) ≡ Sound 27
unfolding decide decide_header decide_data data_sound header_fault fields_fault count_fault entries_fill entry_size entry_fits count_fits least_entry context_count parameter_offset is_context_bad count_place least_count be16_at be32_at lock_bytes bytes32
lock_decided handle at = refl

-- the entry behind the header
entry : ℕ → ℕ → List ℕ
entry handle at =
    0x00 ∷ 0x00 ∷ 0x00 ∷ 0x11
    ∷ bytes32 handle ++ (0x00 ∷ 0x00 ∷ 0x10 ∷ (0x01 + at) ∷ 0x00 ∷ 0x01 ∷ 0x00 ∷ 0x03 ∷ 0x00 ∷ [])

lock_entry : (handle at : ℕ) → entry_size 1 (entry handle at) ≡ 17
unfolding entry entry_size entry_fits count_fits least_entry context_count parameter_offset is_context_bad count_place least_count be32_at bytes32
lock_entry handle at = refl

lock_fields : (handle at : ℕ) → handle < 2 ^ 32 → command_of (take 17 (entry handle at)) ≡ record { handle = handle; target = 4097 + at; method = record { level = 1; index = 3 }; count = 0 }
unfolding entry command_of method_at be16_at be32_at bytes32
lock_fields handle at l =
    let h : handle / 16777216 % 256 * 16777216 + handle / 65536 % 256 * 65536 + handle / 256 % 256 * 256 + handle % 256 ≡ handle = be32_bytes handle (omega arith) in
    let t : 4096 + (1 + at) ≡ 4097 + at = omega arith in
    rw (h, t) refl

lock_part : (handle at : ℕ) → parameters_of 1 (take 17 (entry handle at)) ≡ []
unfolding entry parameters_of least_entry context_count parameter_offset bytes32
lock_part handle at = refl

module _ (d : Device) (k handle at : ℕ) (four : handle < 2 ^ 32) where
  -- the lock, run
  run : Ran
  run = run_of d k (4097 + at) lock_method 0 []

  lock_ran : ran_first d k 1 (entry handle at) ≡ run
  unfolding run ran_first ran_with
  lock_ran = rw (lock_entry handle at, lock_fields handle at four, lock_part handle at) refl

  lock_responded : response_to d k 1 (entry handle at) ≡ response_bytes handle run.answer
  unfolding response_to
  lock_responded = rw (lock_entry handle at, lock_fields handle at four, lock_ran) refl

  lock_last : last_of 1 d k 1 (entry handle at) ≡ run.device
  unfolding last_of
  lock_last = ap (λ (x : Ran). x.device) lock_ran

  lock_responses : responses_of 1 d k 1 (entry handle at) ≡ response_bytes handle run.answer ++ []
  unfolding responses_of
  lock_responses = ap (λ (x : List ℕ). x ++ []) lock_responded

lock_behind : (handle at : ℕ) → drop header_end (lock_bytes handle at) ≡ entry handle at
unfolding entry lock_bytes bytes32
lock_behind handle at = refl

lock_sound : (d : Device) (k handle at : ℕ) → handle < 2 ^ 32
    → let q = run_of (heard_at d k) k (4097 + at) lock_method 0 [] in
    sound_of d k (lock_bytes handle at) ≡ ruled (sent_at q.device k) (message 3 1 (response_bytes handle q.answer ++ []))
lock_sound d k handle at four = first ∙ ap (λ (t : List ℕ). commands_of (heard_at d k) k 1 1 t) (lock_behind handle at) ∙ second
  where
    first : sound_of d k (lock_bytes handle at) ≡ commands_of (heard_at d k) k 1 1 (drop header_end (lock_bytes handle at))
    first = unfold sound_of lock_bytes be16_at bytes32 in refl

    second : commands_of (heard_at d k) k 1 1 (entry handle at)
        ≡ (let q = run_of (heard_at d k) k (4097 + at) lock_method 0 [] in ruled (sent_at q.device k) (message 3 1 (response_bytes handle q.answer ++ [])))
    second = unfold commands_of in rw (lock_responses (heard_at d k) k handle at four, lock_last (heard_at d k) k handle at four) (unfold run in refl)

-- ---- the reply
reply_of_lem : (handle status : ℕ) (a : Answer) → a.status ≡ status → a.count ≡ 0 → a.length ≡ 0 → message 3 1 (response_bytes handle a ++ []) ≡ reply_bytes handle status
unfolding message head_bytes response_bytes reply_bytes bytes16 bytes32
reply_of_lem handle status a s c l = rw (s, c, l) refl

reply_length_lem : (handle status : ℕ) → length (reply_bytes handle status) ≡ 20
unfolding reply_bytes bytes32
reply_length_lem handle status = refl

-- ---- the bytes are bytes, however they are cut
octet_on : (x : ℕ) (l : List ℕ) → x < 256 → Octets l → Octets (x ∷ l)
octet_on x l h o zero = h
octet_on x l h o (suc i) = o i

pub octets_all : (l : List ℕ) → all (λ (x : ℕ). ltb x 256) l ≡ true → Octets l
octets_all [] e = octets_nil
octets_all (x ∷ l) e = octet_on x l (ltb-true x 256 (and_left (ltb x 256) _ e)) (octets_all l (and_right (ltb x 256) _ e))

handle_octets : (handle : ℕ) → Octets (bytes32 handle)
unfolding bytes32
handle_octets handle =
    let a : List ℕ = handle % 256 ∷ [] in
    let b : List ℕ = handle / 256 % 256 ∷ a in
    let c : List ℕ = handle / 65536 % 256 ∷ b in
    octet_on (handle / 16777216 % 256) c (omega arith)
    (octet_on (handle / 65536 % 256) b (omega arith) (octet_on (handle / 256 % 256) a (omega arith) (octet_on (handle % 256) [] (omega arith) octets_nil)))

pub lock_octets : (handle at : ℕ) → at < 8 → Octets (lock_bytes handle at)
unfolding lock_bytes
lock_octets handle at low =
    let head : List ℕ = 0x3B ∷ 0x00 ∷ 0x01 ∷ 0x00 ∷ 0x00 ∷ 0x00 ∷ 0x1A ∷ 0x01 ∷ 0x00 ∷ 0x01 ∷ 0x00 ∷ 0x00 ∷ 0x00 ∷ 0x11 ∷ [] in
    let front : List ℕ = 0x00 ∷ 0x00 ∷ 0x10 ∷ [] in
    let behind : List ℕ = 0x00 ∷ 0x01 ∷ 0x00 ∷ 0x03 ∷ 0x00 ∷ [] in
    let end = octets_append front ((0x01 + at) ∷ behind) (octets_all front refl) (octet_on (0x01 + at) behind (omega arith) (octets_all behind refl)) in
    octets_append head (bytes32 handle ++ (front ++ ((0x01 + at) ∷ behind))) (octets_all head refl)
    (octets_append (bytes32 handle) (front ++ ((0x01 + at) ∷ behind)) (handle_octets handle) end)

-- in one piece, they are taken by one offer
fed_whole : (r : Record) (area : List ℕ) (k handle at : ℕ) (out : List ℕ) → (lock_call r area k handle at out).answer ≡ 0 ∷ 2 ∷ 27 ∷ 20 ∷ []
    → feed_of r area k (lock_bytes handle at) out ≡ lock_fed r area k handle at out
fed_whole r area k handle at out e = first ∙ second
  where
    once : offer k (unfed r area out) (lock_bytes handle at) ≡ lock_fed r area k handle at out
    once = unfold offer is_message reply_length message_told in rw e refl

    first : feed_of r area k (lock_bytes handle at) out ≡ feed_more 27 k (drop (bytes_taken (lock_call r area k handle at out).answer) (lock_bytes handle at)) (lock_fed r area k handle at out)
    first = unfold feed_of feed_piece in rw once (unfold lock_bytes bytes32 in refl)

    second : feed_more 27 k (drop (bytes_taken (lock_call r area k handle at out).answer) (lock_bytes handle at)) (lock_fed r area k handle at out) ≡ lock_fed r area k handle at out
    second = unfold feed_more is_message lock_bytes bytes32 in rw e refl

cut_anywhere : (r : Record) (area : List ℕ) (k handle at : ℕ) (out : List ℕ) → Kept r area → at < 8 → (lock_call r area k handle at out).answer ≡ 0 ∷ 2 ∷ 27 ∷ 20 ∷ []
    → (pieces : List (List ℕ)) → joined pieces ≡ lock_bytes handle at → SameEnd (feed_all k (unfed r area out) pieces) (lock_fed r area k handle at out)
cut_anywhere r area k handle at out w low e pieces q =
    let s = cutting.uncut r area k out pieces w (subst (λ (x : List ℕ). Octets x) (sym q) (lock_octets handle at low)) in
    subst (λ (x : Feeding). SameEnd (feed_all k (unfed r area out) pieces) x) (ap (λ (x : List ℕ). feed_of r area k x out) q ∙ fed_whole r area k handle at out e) s

-- ---- the delivery
module _ (r : Record) (area : List ℕ) (k handle at : ℕ) (out : List ℕ) (w : Kept r area) (c : CanAsk r k handle at out) where
  lock_delivered : lock_call r area k handle at out ≡ with_intake r k (messaged (sound_of r.device k (lock_bytes handle at)) area k 27 out)
  lock_delivered = taking ∙ ap (with_intake r k) intaken
    where
      taking : lock_call r area k handle at out ≡ with_intake r k (taken_in r.device area k 0 (lock_bytes handle at) out)
      taking = unfold deliver_call in rw (w.obeys, w.sound, c.live, le-ltb (length out) least_output c.room, c.none) refl

      intaken : taken_in r.device area k 0 (lock_bytes handle at) out ≡ messaged (sound_of r.device k (lock_bytes handle at)) area k 27 out
      intaken = unfold taken_in delivered_by undecided_of in rw (lock_decided handle at) (unfold lock_bytes bytes32 in refl)

  -- by what the command gives
  lock_given : (e : Device) (status : ℕ) (a : Answer) → run_of (heard_at r.device k) k (4097 + at) lock_method 0 [] ≡ record { device = e; answer = a }
      → a.status ≡ status → a.count ≡ 0 → a.length ≡ 0
      → lock_call r area k handle at out ≡ with_intake r k (messaged (ruled (sent_at e k) (reply_bytes handle status)) area k 27 out)
  lock_given e status a q s n l =
      lock_delivered
      ∙ ap (λ (x : Ruled). with_intake r k (messaged x area k 27 out))
      (lock_sound r.device k handle at c.four
      ∙ ap (λ (x : Ran). ruled (sent_at x.device k) (message 3 1 (response_bytes handle x.answer ++ []))) q
      ∙ ap (λ (x : List ℕ). ruled (sent_at e k) x) (reply_of_lem handle status a s n l))

  answered : (e : Device) (status n : ℕ) → lock_call r area k handle at out ≡ with_intake r k (messaged (ruled (sent_at e k) (reply_bytes handle status)) area k 27 out)
      → get_or e.holders at 0 ≡ n + 1 → Answered r area k handle at out status n
  unfolding messaged sent_at
  answered e status n g h =
      let a = ap (λ (o : Outcome). o.answer) g ∙ ap (λ (x : ℕ). 0 ∷ 2 ∷ 27 ∷ x ∷ []) (reply_length_lem handle status) in
      record {
        answer = a;
        output = ap (λ (o : Outcome). o.output) g;
        holder = ap (λ (o : Outcome). get_or o.state.device.holders at 0) g ∙ h;
        cut = cut_anywhere r area k handle at out w c.channel a;
      }

  -- another holds it
  pub refusing : (n : ℕ) → eqb k n ≡ false → get_or r.device.holders at 0 ≡ n + 1 → Answered r area k handle at out 3 n
  unfolding heard_at
  refusing n e h =
      let d = heard_at r.device k in
      let o : is_other (get_or d.holders at 0) k ≡ true = rw h (other_holds n k e) in
      answered d 3 n
      (lock_given d 3 (failed_of 3) (sym (lock_other d k at c.channel (is_other (get_or d.holders at 0) k) refl o (failed_of 3) refl))
      (unfold failed_of in refl) (unfold failed_of in refl) (unfold failed_of in refl))
      h

  -- nobody holds it
  pub entering : length r.device.connections ≡ 8 → at < length r.device.holders → get_or r.device.holders at 0 ≡ 0 → Answered r area k handle at out 0 k
  unfolding heard_at
  entering eight long h =
      let d = heard_at r.device k in
      let o : is_other (get_or d.holders at 0) k ≡ false = rw h (unfold is_other in refl) in
      let low = live_low r.device.connections k 8 c.live eight in
      let own : owner_of k ≡ k + 1 = unfold owner_of in rw (lt-ltb k 8 low) refl in
      let e = with_holders d (set d.holders at (owner_of k)) in
      answered e 0 k
      (lock_given e 0 (answer_with []) (sym (lock_done d k at c.channel (is_other (get_or d.holders at 0) k) refl o (owner_of k) refl (answer_with []) refl))
      (unfold answer_with in refl) (unfold answer_with in refl) (unfold answer_with in refl))
      (get_or-set_same r.device.holders at (owner_of k) 0 long ∙ own)
