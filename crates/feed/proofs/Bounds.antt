-- What a delivery takes is in the piece, and its reply fits the output. Assumes nothing.
use Prim.Native.Nat.{ℕ, ◌≤◌, ◌<◌}
use mathlib.Core.Path.{◌≡◌, refl, sym, ap, ◌∙◌}
use mathlib.Core.Bool.{Bool, cond, true, false, true≢false}
use mathlib.Core.List.{List, [], ◌∷◌, ◌++◌}
use native.Mathlib.Omega.{arith}
use lib.Dec.{ltb, eqb}
use lib.ListN.{length, take, drop, length-append}
use lib.Seq.{length-take-le}
use borrow.Author.Tests.{ltb-true, ltb-false}
use Rattle.frame.specs.Limits.{header_end, notification, response, keep_alive}
use Rattle.frame.specs.Header.{pdu_type, message_count}
use Rattle.frame.specs.Decide.{decide, taken, settled}
use Rattle.frame.specs.Scaffold.{SoundAt}
use Rattle.frame.specs.declared.Decision.{Decision}
use Rattle.frame.specs.declared.Decision.TheVariants.{Undecided, Faulty, Sound}
use Rattle.frame.proofs.Ways.{deciding}
use Rattle.frame.proofs.Sounds.{sound_at}
use Rattle.frame.proofs.Bytes.{beyond}
use Rattle.layout.specs.Message.{message}
use Rattle.layout.proofs.Messages.{length_message}
use Rattle.fields.specs.Fields.{heartbeat_of}
use Rattle.area.specs.Area.{area_sound, undecided_of}
use Rattle.area.specs.Scaffold.{Lying}
use Rattle.area.proofs.Gathers.{length_undecided}
use Rattle.connection.specs.State.{live_at}
use Rattle.device.specs.State.{heard_at, sent_at}
use Rattle.device.specs.declared.Device.{Device}
use Rattle.replies.specs.Bytes.{least_output}
use Rattle.replies.proofs.Puts.{length_keep_alive}
use Rattle.serve.specs.Serve.{last_of, responses_of}
use Rattle.serve.specs.Sound.{Ruled, ruled, kept_alive, commands_of, sound_of}
use Rattle.serve.proofs.Replies.{few, room}
use Rattle.delivery.specs.Intake.{messaged, delivered_by, taken_in}
use Rattle.endpoint.specs.State.{record_obeys}
use Rattle.endpoint.specs.Outcome.{Outcome, refused}
use Rattle.endpoint.specs.Deliver.{held_at, with_intake, deliver_call}
use Rattle.endpoint.specs.declared.Record.{Record}
use Rattle.endpoint.proofs.Delivers.{deliver_lies}
use Rattle.feed.specs.Feed.{is_message, bytes_taken, reply_length}

-- the reply to a sound message has at most 2,628 bytes
pub reply_short : (d : Device) (n : ℕ) (m : List ℕ) → SoundAt m (length m) → length (sound_of d n m).reply ≤ 2628
unfolding sound_of kept_alive commands_of
reply_short d n m w = go (eqb (pdu_type m) keep_alive) (ltb (pdu_type m) notification) refl (eqb (pdu_type m) 0)
  where
    go : (a b : Bool) → ltb (pdu_type m) notification ≡ b → (c : Bool)
        → length
        (cond {A = Ruled} a (kept_alive d n (heartbeat_of (drop header_end m)))
        (cond b
        (cond c (ruled (last_of (message_count m) (heard_at d n) n (pdu_type m) (drop header_end m)) [])
        (ruled (sent_at (last_of (message_count m) (heard_at d n) n (pdu_type m) (drop header_end m)) n)
        (message response (message_count m) (responses_of (message_count m) (heard_at d n) n (pdu_type m) (drop header_end m)))))
        (ruled (heard_at d n) []))
        ).reply ≤ 2628
    go true b e c = omega (arith, length_keep_alive (heartbeat_of (drop header_end m)))
    go false true e true = omega arith
    go false true e false =
        omega (arith, length_message response (message_count m) (responses_of (message_count m) (heard_at d n) n (pdu_type m) (drop header_end m)), room (heard_at d n) n (pdu_type m) (message_count m) (drop header_end m) (few m w (ltb-true (pdu_type m) 2 e)))
    go false false e c = omega arith

-- of a delivery's answer, by the piece and the output
pub record Bounds (answer piece out : List ℕ) : Type 0 where
  pub within : bytes_taken answer ≤ length piece
  pub fits : reply_length answer ≤ length out
  pub gains : is_message answer ≡ true → 0 < bytes_taken answer

-- a refusal takes nothing
refusal_bound : (q : ℕ) (piece out : List ℕ) → Bounds (q ∷ []) piece out
unfolding is_message reply_length
refusal_bound q piece out = record { within = omega arith; fits = omega arith; gains = λ e. absurd (true≢false (sym e)) }

module _ (d : Device) (area : List ℕ) (n k : ℕ) (lying : Lying area n k) (piece out : List ℕ) (wide : least_output ≤ length out) where
  by_decision : (x : Decision) → decide (undecided_of area n k ++ piece) ≡ x
      → Bounds (delivered_by x d area n k piece (undecided_of area n k ++ piece) out).answer piece out
  unfolding delivered_by messaged is_message reply_length taken settled
  by_decision Undecided e = record { within = omega arith; fits = omega arith; gains = λ z. absurd (true≢false (sym z)) }
  by_decision (Faulty f t) e =
      let h = undecided_of area n k in
      record {
        within = omega (arith, ap taken e, deciding.within (h ++ piece), length-append h piece, length_undecided area n k lying);
        fits = omega arith;
        gains = λ z. absurd (true≢false (sym z));
      }
  by_decision (Sound t) e =
      let h = undecided_of area n k in
      let l = length_undecided area n k lying in
      let g = deciding.within (h ++ piece) in
      let u : taken (decide (h ++ piece)) ≡ t = ap taken e in
      let b : length h < t = rw u at (beyond h piece lying.waiting (ap settled e)) in
      let m = take t (h ++ piece) in
      let q : decide m ≡ Sound t = (rw u at (deciding.enough (h ++ piece) (ap settled e))) ∙ e in
      let s : length m ≡ t = length-take-le t (h ++ piece) (omega arith) in
      let w : SoundAt m (length m) = rw s (sound_at m t q) in
      record {
        within = omega (arith, length-append h piece);
        fits = omega (arith, reply_short d n m w);
        gains = λ z. omega arith;
      }

pub deliver_bounds : (r : Record) (area : List ℕ) (n : ℕ) (piece out : List ℕ) → length r.device.connections ≡ 8 → length r.held ≡ 8
    → Bounds (deliver_call r area n piece out).answer piece out
unfolding deliver_call taken_in
deliver_bounds r area n piece out c8 h8 =
    go (record_obeys r) refl (area_sound r.held area) refl (live_at r.device.connections n) refl (ltb (length out) least_output) refl
  where
    go : (a : Bool) → a ≡ record_obeys r → (b : Bool) → b ≡ area_sound r.held area → (l : Bool) → l ≡ live_at r.device.connections n
        → (t : Bool) → ltb (length out) least_output ≡ t
        → Bounds
        (cond {A = Outcome} a
        (cond b
        (cond l (cond t (refused 4 r area out) (with_intake r n (taken_in r.device area n (held_at r n) piece out)))
        (refused 3 r area out))
        (refused 2 r area out))
        (refused 1 r area out)
        ).answer piece out
    go false ea b eb l el t et = refusal_bound 1 piece out
    go true ea false eb l el t et = refusal_bound 2 piece out
    go true ea true eb false el t et = refusal_bound 3 piece out
    go true ea true eb true el true et = refusal_bound 4 piece out
    go true ea true eb true el false et =
        by_decision r.device area n (held_at r n)
        (deliver_lies r area n piece out (sym ea) (sym eb) (sym el) c8 h8) piece out
        (ltb-false (length out) least_output et) (decide (undecided_of area n (held_at r n) ++ piece)) refl
