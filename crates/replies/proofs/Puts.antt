-- The stores of a response and of a notification, as runs. Assumes nothing.
use Prim.Native.Nat.{ℕ, ◌+◌, ◌-◌, ◌≤◌}
use mathlib.Core.Path.{◌≡◌, refl, sym, ap, ◌∙◌}
use mathlib.Core.List.{List, [], ◌∷◌, ◌++◌}
use native.Mathlib.Omega.{arith}
use native.Mathlib.Nat.{sub-zero}
use lib.ListN.{length, take, length-append}
use lib.Seq.{sets, take-length, length-take-le}
use Rattle.laws.proofs.Stores.{sets_append}
use Rattle.octets.specs.Numbers.{bytes16, bytes32}
use Rattle.octets.proofs.Digits.{length_bytes16, length_bytes32}
use Rattle.heartbeat.specs.Beat.{form_of, value_of}
use Rattle.heartbeat.specs.declared.Heartbeat.{Heartbeat}
use Rattle.heartbeat.specs.declared.Heartbeat.TheVariants.{InSeconds, InMilliseconds}
use Rattle.frame.specs.Limits.{least_response, notification, keep_alive}
use Rattle.layout.specs.Message.{head_bytes, beat_bytes, at_front}
use Rattle.layout.proofs.Messages.{length_message, put_whole}
use Rattle.subscription.specs.declared.Subscription.{Subscription}
use Rattle.objects.specs.Methods.{mute_property}
use Rattle.objects.specs.Answers.{Carried, answer_in, answer_with, failed_of, identification_of, carried_count, carried_bytes}
use Rattle.objects.specs.declared.Class.TheVariants as class
use Rattle.objects.specs.declared.Reply.{Reply}
use Rattle.objects.specs.declared.Reply.TheVariants as reply
use Rattle.numbers.specs.Status.{carried_out, status_number}
use Rattle.numbers.specs.declared.Status.{Status}
use Rattle.std.proofs.Common.{Ok, Err}
use Rattle.replies.specs.Bytes.{answer_told, response_bytes, context_sent, subscriber_bytes, change_bytes, notification_entry, notification_bytes, keep_alive_bytes}

-- a run behind a run of known length
behind : (vs ws l : List ℕ) (i j : ℕ) → i + length vs ≡ j → sets (sets l i vs) j ws ≡ sets l i (vs ++ ws)
behind vs ws l i j e = ap (λ (k : ℕ). sets (sets l i vs) k ws) (sym e) ∙ sym (sets_append vs ws l i)

module _ (at handle status count : ℕ) (v b0 b1 b2 b3 b4 b5 : List ℕ) where
  pub response_stores : b1 ≡ sets b0 at (bytes32 (least_response + length v)) → b2 ≡ sets b1 (at + 4) (bytes32 handle)
      → b3 ≡ sets b2 (at + 8) (status ∷ []) → b4 ≡ sets b3 (at + 9) (count ∷ []) → b5 ≡ sets b4 (at + 10) v
      → b5 ≡ sets b0 at (response_bytes handle (answer_told status count v))
  unfolding response_bytes
  response_stores e1 e2 e3 e4 e5 =
      let z = bytes32 (least_response + length v) in
      let h = bytes32 handle in
      let lz = length_bytes32 (least_response + length v) in
      let lh = length_bytes32 handle in
      rw (take-length v) (
      e5 ∙ ap (λ (l : List ℕ). sets l (at + 10) v) e4 ∙ behind (count ∷ []) v b3 (at + 9) (at + 10) (omega arith)
      ∙ ap (λ (l : List ℕ). sets l (at + 9) (count ∷ v)) e3 ∙ behind (status ∷ []) (count ∷ v) b2 (at + 8) (at + 9) (omega arith)
      ∙ ap (λ (l : List ℕ). sets l (at + 8) (status ∷ count ∷ v)) e2 ∙ behind h (status ∷ count ∷ v) b1 (at + 4) (at + 8) (omega arith)
      ∙ ap (λ (l : List ℕ). sets l (at + 4) (h ++ (status ∷ count ∷ v))) e1 ∙ behind z (h ++ (status ∷ count ∷ v)) b0 at (at + 4) (omega arith)
      )

-- what a command answers, as what is written
pub reply_long : (r : Reply) → (answer_in (Ok r)).length ≡ length (carried_bytes r)
unfolding answer_with
reply_long r = refl

pub reply_told : (handle : ℕ) (r : Reply) → response_bytes handle (answer_told carried_out (carried_count r) (carried_bytes r)) ≡ response_bytes handle (answer_in (Ok r))
unfolding response_bytes answer_with identification_of bytes16
reply_told handle reply.Done = refl
reply_told handle (reply.Byte v) = refl
reply_told handle (reply.Class class.Mute) = refl
reply_told handle (reply.Class class.DeviceManager) = refl
reply_told handle (reply.Class class.SubscriptionManager) = refl

pub status_long : (s : Status) → (answer_in (Err s)).length ≡ 0
unfolding failed_of
status_long s = refl

pub status_told : (handle : ℕ) (s : Status) → response_bytes handle (answer_told (status_number s) 0 []) ≡ response_bytes handle (answer_in (Err s))
unfolding response_bytes failed_of
status_told handle s = refl

pub length_response : (handle : ℕ) (a : Carried) → a.length ≤ length a.bytes → length (response_bytes handle a) ≡ least_response + a.length
unfolding response_bytes bytes32
length_response handle a h = omega (arith, length-take-le a.length a.bytes h)

-- a context behind its count; `&context[0..n]` has n - 0 bytes
pub context_stores : (n : ℕ) (context b0 b1 b2 : List ℕ) → b1 ≡ sets b0 23 (bytes16 n) → b2 ≡ sets b1 25 (take (n - 0) context)
    → b2 ≡ sets b0 23 (bytes16 n ++ take n context)
unfolding bytes16
context_stores n context b0 b1 b2 e1 e2 = rw (e2, e1, sub-zero)

pub subscriber_stores : (s : Subscription) (b0 b1 b2 b3 b4 b5 : List ℕ) → b1 ≡ sets b0 10 (bytes32 (29 + s.context_count)) → b2 ≡ sets b1 14 (bytes32 s.object)
    → b3 ≡ sets b2 18 (bytes32 s.method) → b4 ≡ sets b3 22 (2 ∷ []) → b5 ≡ sets b4 23 (bytes16 s.context_count ++ take s.context_count s.context)
    → b5 ≡ sets b0 10 (subscriber_bytes s)
unfolding subscriber_bytes context_sent bytes32
subscriber_stores s b0 b1 b2 b3 b4 b5 e1 e2 e3 e4 e5 = rw (e5, e4, e3, e2, e1)

module _ (at : ℕ) (s : Subscription) (value : ℕ) (b0 b1 b2 b3 b4 b5 : List ℕ) where
  pub change_stores : b1 ≡ sets b0 at (bytes32 s.emitter) → b2 ≡ sets b1 (at + 4) (bytes32 s.event)
      → b3 ≡ sets b2 (at + 8) (bytes32 mute_property) → b4 ≡ sets b3 (at + 12) (value ∷ []) → b5 ≡ sets b4 (at + 13) (1 ∷ [])
      → b5 ≡ sets b0 at (change_bytes s value)
  unfolding change_bytes
  change_stores e1 e2 e3 e4 e5 =
      let m = bytes32 s.emitter in
      let v = bytes32 s.event in
      let p = bytes32 mute_property in
      let lm = length_bytes32 s.emitter in
      let lv = length_bytes32 s.event in
      let lp = length_bytes32 mute_property in
      e5 ∙ ap (λ (l : List ℕ). sets l (at + 13) (1 ∷ [])) e4 ∙ behind (value ∷ []) (1 ∷ []) b3 (at + 12) (at + 13) (omega arith)
      ∙ ap (λ (l : List ℕ). sets l (at + 12) (value ∷ 1 ∷ [])) e3 ∙ behind p (value ∷ 1 ∷ []) b2 (at + 8) (at + 12) (omega arith)
      ∙ ap (λ (l : List ℕ). sets l (at + 8) (p ++ (value ∷ 1 ∷ []))) e2 ∙ behind v (p ++ (value ∷ 1 ∷ [])) b1 (at + 4) (at + 8) (omega arith)
      ∙ ap (λ (l : List ℕ). sets l (at + 4) (v ++ (p ++ (value ∷ 1 ∷ [])))) e1 ∙ behind m (v ++ (p ++ (value ∷ 1 ∷ []))) b0 at (at + 4) (omega arith)

length_change : (s : Subscription) (value : ℕ) → length (change_bytes s value) ≡ 14
unfolding change_bytes bytes32
length_change s value = refl

-- a subscription holds at least the context that it counts
module _ (s : Subscription) (k : s.context_count ≤ length s.context) where
  pub length_context : length (context_sent s) ≡ s.context_count
  unfolding context_sent
  length_context = length-take-le s.context_count s.context k

  length_subscriber : length (subscriber_bytes s) ≡ 15 + s.context_count
  unfolding subscriber_bytes bytes32 bytes16
  length_subscriber = omega (arith, length_context)

  pub length_entry : (value : ℕ) → length (notification_entry s value) ≡ 29 + s.context_count
  unfolding notification_entry
  length_entry value = omega (arith, length-append (subscriber_bytes s) (change_bytes s value), length_subscriber, length_change s value)

  pub length_notification : (value : ℕ) → length (notification_bytes s value) ≡ 39 + s.context_count
  unfolding notification_bytes
  length_notification value = omega (arith, length_message notification 1 (notification_entry s value), length_entry value)

  pub notification_stores : (value : ℕ) (b0 b1 b2 b3 : List ℕ) → 39 + s.context_count ≤ length b0 → b1 ≡ sets b0 0 (head_bytes notification 1 (39 + s.context_count - 1))
      → b2 ≡ sets b1 10 (subscriber_bytes s) → b3 ≡ sets b2 (25 + s.context_count) (change_bytes s value)
      → b3 ≡ at_front (notification_bytes s value) b0
  unfolding notification_bytes notification_entry
  notification_stores value b0 b1 b2 b3 h e1 e2 e3 =
      let at = 25 + s.context_count in
      let l = length_entry value in
      e3 ∙ ap (λ (l : List ℕ). sets l at (change_bytes s value)) e2
      ∙ behind (subscriber_bytes s) (change_bytes s value) b1 10 at (omega (arith, length_subscriber))
      ∙ ap (λ (l : List ℕ). sets l 10 (notification_entry s value)) e1
      ∙ put_whole notification 1 (39 + s.context_count - 1) b0 (notification_entry s value) (omega arith) (omega arith)

pub length_keep_alive : (h : Heartbeat) → length (keep_alive_bytes h) ≤ 14
unfolding keep_alive_bytes beat_bytes form_of value_of
length_keep_alive (InSeconds s) = omega (arith, length_message keep_alive 1 (bytes16 s.0), length_bytes16 s.0)
length_keep_alive (InMilliseconds m) = omega (arith, length_message keep_alive 1 (bytes32 m.0), length_bytes32 m.0)
