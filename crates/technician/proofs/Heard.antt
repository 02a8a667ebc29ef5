-- A sound message, whole with the bytes that waited, is heard: for Technician. Assumes nothing.
use Prim.Native.Nat.{ℕ, zero, suc, ◌<◌}
use mathlib.Core.Path.{◌≡◌, refl, sym, ap, ◌∙◌}
use mathlib.Core.Bool.{Bool, cond, true, false}
use mathlib.Core.List.{List, []}
use lib.Dec.{eqb, ltb}
use lib.ListN.{length, get_or, take, drop, length-set}
use lib.Seq.{get_or-set_same, take-append_seam}
use borrow.Author.Tests.{le-ltb, eqb-true}
use Rattle.laws.proofs.Conds.{either}
use Rattle.heartbeat.specs.Beat.{beat_of}
use Rattle.heartbeat.specs.declared.Heartbeat.{Heartbeat}
use Rattle.frame.specs.Limits.{header_end, notification, keep_alive}
use Rattle.frame.specs.Header.{pdu_type, message_count}
use Rattle.frame.specs.Entry.{entry_size}
use Rattle.frame.specs.Decide.{decide, settled}
use Rattle.frame.specs.declared.Decision.TheVariants.{Sound}
use Rattle.frame.proofs.Ways.{deciding}
use Rattle.fields.specs.Fields.{heartbeat_of}
use Rattle.connection.specs.State.{closed, live_at}
use Rattle.connection.specs.Supervision.{heard_of, sent_of, set_beat, beating_of}
use Rattle.connection.specs.declared.Connection.{Connection}
use Rattle.replies.specs.Bytes.{least_output}
use Rattle.device.specs.State.{heard_at, sent_at, beating_at}
use Rattle.device.specs.Run.{run_of}
use Rattle.device.specs.declared.Device.{Device}
use Rattle.serve.specs.Serve.{ran_with, ran_first, last_of}
use Rattle.serve.specs.Sound.{Ruled, ruled, commands_of, kept_alive, sound_of}
use Rattle.delivery.specs.Intake.{messaged, delivered_by, taken_in}
use Rattle.endpoint.specs.Deliver.{held_at, deliver_call}
use Rattle.endpoint.specs.declared.Record.{Record}
use Rattle.endpoint.proofs.States.{live_low}
use Rattle.promise.specs.Ticks.{Watched}
use Rattle.promise.specs.Heartbeats.{brought_by}
use Rattle.promise.proofs.Ways.{done_ways, run_ways}
use Rattle.technician.specs.Technician.{Ends, beat_in, beat_after}

-- ---- the device after it
module _ (r : Record) (area : List ℕ) (n : ℕ) (piece out m : List ℕ) (e : Ends r area n piece out m) where
  pub heard_decided : decide (brought_by r area n piece) ≡ Sound (length m)
  heard_decided = ap decide e.brought ∙ deciding.lasting m e.behind (rw e.sound (unfold settled in refl)) ∙ e.sound

  pub heard_front : take (length m) (brought_by r area n piece) ≡ m
  heard_front = ap (take (length m)) e.brought ∙ take-append_seam m e.behind

  pub heard_device : (deliver_call r area n piece out).state.device ≡ (sound_of r.device n m).device
  unfolding deliver_call taken_in delivered_by messaged
  heard_device =
      rw (e.kept.obeys, e.kept.sound, e.live, le-ltb (length out) least_output e.room, heard_decided, heard_front) refl

  -- none of its bytes wait then
  pub heard_none : held_at (deliver_call r area n piece out).state n ≡ 0
  unfolding deliver_call taken_in delivered_by messaged
  heard_none =
      let low : n < length r.held = rw e.kept.counts (live_low r.device.connections n 8 e.live e.kept.eight) in
      rw (e.kept.obeys, e.kept.sound, e.live, le-ltb (length out) least_output e.room, heard_decided) (get_or-set_same r.held n 0 0 low)

-- ---- commands leave the connections as they are
run_same : (d : Device) (n t k count : ℕ) (part : List ℕ) → (run_of d n t k count part).device.connections ≡ d.connections
run_same d n t k count part =
    run_ways (λ (x : Device). x.connections ≡ d.connections) d n t k count part
    (λ q. done_ways (λ (x : Device). x.connections ≡ d.connections) d n t k part (λ a. refl) (λ a. refl) (λ x a b c. b)) refl

last_same : (j : ℕ) (d : Device) (n kind : ℕ) (t : List ℕ) → (last_of j d n kind t).connections ≡ d.connections
unfolding last_of ran_first ran_with
last_same zero d n kind t = refl
last_same (suc j) d n kind t = last_same j (ran_first d n kind t).device n kind (drop (entry_size kind t) t) ∙ run_same d n _ _ _ _

-- ---- the connection after it

-- what a connection is after a message that leaves it the heartbeat H
record Hears (c : Connection) (H : ℕ) : Type 0 where
  live : c.live ≡ true
  beat : c.beat ≡ H
  silent : c.silence ≡ 0

module _ (d : Device) (n : ℕ) (l : live_at d.connections n ≡ true) where
  low : n < length d.connections
  low = live_low d.connections n (length d.connections) l refl

  -- the connection as it was
  was : Connection
  was = get_or d.connections n closed

  was_live : was.live ≡ true
  unfolding was live_at
  was_live = l

  beating : (h : Heartbeat) → Hears (beating_of h was) (beat_of h)
  unfolding beating_of sent_of heard_of set_beat
  beating h = go (eqb (beat_of h) 0) refl
    where
      go : (b : Bool) → eqb (beat_of h) 0 ≡ b → Hears (beating_of h was) (beat_of h)
      go true q = record { live = rw q was_live; beat = rw q (sym (eqb-true (beat_of h) 0 q)); silent = refl }
      go false q = record { live = rw q was_live; beat = rw q refl; silent = refl }

  heard_same : get_or (heard_at d n).connections n closed ≡ heard_of was
  unfolding heard_at was
  heard_same = get_or-set_same d.connections n (heard_of (get_or d.connections n closed)) closed low

  hearing : (c : Connection) → c ≡ heard_of was → Hears c was.beat
  unfolding heard_of
  hearing c q = rw q (record { live = was_live; beat = refl; silent = refl })

  -- a message that is no keep-alive
  at_last : (j kind : ℕ) (t : List ℕ) → get_or (last_of j (heard_at d n) n kind t).connections n closed ≡ heard_of was
  at_last j kind t = ap (λ (cs : List Connection). get_or cs n closed) (last_same j (heard_at d n) n kind t) ∙ heard_same

  sending : (e : Device) → get_or e.connections n closed ≡ heard_of was → n < length e.connections → Hears (get_or (sent_at e n).connections n closed) was.beat
  unfolding sent_at sent_of heard_of
  sending e q h =
      let c = get_or e.connections n closed in
      let s : get_or (sent_at e n).connections n closed ≡ sent_of (heard_of was) = get_or-set_same e.connections n (sent_of c) closed h ∙ ap sent_of q in
      rw s (record { live = was_live; beat = refl; silent = refl })

  sounding : (m : List ℕ) → Hears (get_or (sound_of d n m).device.connections n closed) (cond (eqb (pdu_type m) keep_alive) (beat_in m) was.beat)
  unfolding sound_of
  sounding m = go (eqb (pdu_type m) keep_alive) (ltb (pdu_type m) notification)
    where
      -- connection n of what the message comes to
      Q : ℕ → Ruled → Type 0
      Q H x = Hears (get_or x.device.connections n closed) H

      kept : Q (beat_in m) (kept_alive d n (heartbeat_of (drop header_end m)))
      kept = unfold kept_alive beating_at in rw l (rw (get_or-set_same d.connections n (beating_of (heartbeat_of (drop header_end m)) (get_or d.connections n closed)) closed low) (unfold was in beating (heartbeat_of (drop header_end m))))

      ran : Q was.beat (commands_of (heard_at d n) n (pdu_type m) (message_count m) (drop header_end m))
      ran =
          unfold commands_of in
          either (Q was.beat) (eqb (pdu_type m) 0) _ _ (hearing _ (at_last (message_count m) (pdu_type m) (drop header_end m)))
          (sending _ (at_last (message_count m) (pdu_type m) (drop header_end m)) long)
        where
          long : n < length (last_of (message_count m) (heard_at d n) n (pdu_type m) (drop header_end m)).connections
          long = rw (last_same (message_count m) (heard_at d n) n (pdu_type m) (drop header_end m)) (unfold heard_at in rw length-set low)

      go : (a b : Bool)
          → Hears (get_or (cond {A = Ruled} a (kept_alive d n (heartbeat_of (drop header_end m)))
          (cond b (commands_of (heard_at d n) n (pdu_type m) (message_count m) (drop header_end m)) (ruled (heard_at d n) []))
          ).device.connections n closed) (cond a (beat_in m) was.beat)
      go true b = kept
      go false true = ran
      go false false = hearing _ heard_same

pub heard : (r : Record) (area : List ℕ) (n : ℕ) (piece out m : List ℕ) → Ends r area n piece out m
    → Watched (deliver_call r area n piece out).state.device n (beat_after r n m) 0
unfolding beat_after was live_at
heard r area n piece out m e =
    let s = sounding r.device n e.live m in
    rw (heard_device r area n piece out m e) (record { live = s.live; beat = s.beat; silent = s.silent })
