-- What calls keep of the locks: the place of each, and that a channel is free for which nobody asks. Assumes nothing.
use Rattle.std.specs.Prelude.{Option, Some, None}
use Prim.Native.Nat.{ℕ, zero, suc, ◌^◌, ◌<◌}
use mathlib.Core.Path.{◌≡◌, refl}
use mathlib.Core.Bool.{true, false, not}
use mathlib.Core.List.{List, [], ◌∷◌, ◌++◌, map}
use lib.Dec.{eqb, ltb, leb}
use lib.ListN.{length, get_or, take, drop, length-map, length-set}
use borrow.Author.Tests.{not-true}
use Rattle.laws.specs.Lists.{any}
use Rattle.laws.proofs.Conds.{and_left, and_right, either}
use Rattle.frame.specs.Limits.{header_end, notification, keep_alive}
use Rattle.frame.specs.Header.{pdu_type, message_count}
use Rattle.frame.specs.Entry.{entry_size}
use Rattle.frame.specs.Decide.{decide, taken}
use Rattle.frame.specs.declared.Decision.{Decision}
use Rattle.frame.specs.declared.Decision.TheVariants.{Undecided, Faulty, Sound}
use Rattle.mechanism.specs.Datagram.{resets}
use Rattle.area.specs.Area.{area_sound, undecided_of}
use Rattle.connection.specs.State.{live_at, is_not_open}
use Rattle.connection.specs.declared.Connection.{Connection}
use Rattle.holders.specs.Holders.{swept_holder}
use Rattle.device.specs.State.{Opened, fresh_of, open_of, sweep_of, close_of, heard_at, sent_at, told_at, beating_at}
use Rattle.device.specs.Time.{Ticked, step_of, tick_step, tick_of}
use Rattle.device.specs.Run.{run_of}
use Rattle.device.specs.declared.Device.{Device}
use Rattle.serve.specs.Serve.{ran_with, ran_first, last_of}
use Rattle.serve.specs.Sound.{Ruled, commands_of, kept_alive, sound_of}
use Rattle.delivery.specs.Intake.{messaged, delivered_by, taken_in}
use Rattle.taking.specs.Dispatch.{notified_of}
use Rattle.stream.specs.Calls.{deliver, ask}
use Rattle.endpoint.specs.State.{fresh_state, record_obeys, closed_state}
use Rattle.endpoint.specs.Outcome.{Outcome}
use Rattle.endpoint.specs.Calls.{opened_by, open_call, close_call, ticked_by, tick_call}
use Rattle.endpoint.specs.Deliver.{held_at, deliver_call}
use Rattle.endpoint.specs.Take.{take_call}
use Rattle.endpoint.specs.declared.Record.{Record}
use Rattle.reset.specs.Datagram.{restarted, datagram_call}
use Rattle.promise.specs.Rulebook.{opening, closing, ticking, taking, datagram}
use Rattle.promise.specs.Calls.{HostCall, call_of}
use Rattle.promise.specs.Reset.{asks_in}
use Rattle.promise.proofs.Ways.{delivery_ways, taking_ways, done_ways, run_ways}
use Rattle.promise.proofs.Channels.{swept_free, sound_free, fresh_free}
use Rattle.technician.specs.Silence.{calls_of}
use Rattle.technician.specs.Lock.{asks_now, nobody_locks}

-- ---- what holds of the holders, whatever is swept and after a reset, holds after every call that is no whole message
module _ (P : List ℕ → Type 0) (swept : (cs : List Connection) (hs : List ℕ) → P hs → P (map (swept_holder cs) hs)) (fresh : (reading : ℕ) → P (fresh_of reading).holders)
  where
    abbrev Of : Outcome → Type 0
    Of o = P o.state.device.holders

    opened_keeps : (r : Record) → P r.device.holders → Of (open_call r)
    unfolding open_call opened_by open_of
    opened_keeps r p = either Of (record_obeys r) _ _ (go (open_of r.device).answer) p
      where
        go : (x : Option ℕ) → Of (opened_by x r (open_of r.device))
        go (Some n) = either (λ (o : Opened). P o.device.holders) (any is_not_open r.device.connections) _ _ p p
        go None = p

    closed_keeps : (r : Record) (area : List ℕ) (n : ℕ) → P r.device.holders → Of (close_call r area n)
    unfolding close_call closed_state close_of sweep_of
    closed_keeps r area n p =
        either Of (record_obeys r) _ _
        (either Of (area_sound r.held area) _ _ (either Of (live_at r.device.connections n) _ _ (swept _ r.device.holders p) p) p)
        p

    ticked_keeps : (r : Record) (area : List ℕ) (reading : ℕ) → P r.device.holders → Of (tick_call r area reading)
    unfolding tick_call ticked_by tick_step sweep_of
    ticked_keeps r area reading p =
        either Of (record_obeys r) _ _ (either Of (area_sound r.held area) _ _ (go (tick_of r.device reading).answer) p) p
      where
        go : (x : Option ℕ) → Of (ticked_by x r (tick_of r.device reading) area)
        go (Some k) =
            either (λ (o : Ticked). P o.device.holders) (leb (2 ^ 31) (step_of reading r.device.reading)) _ _ p
            (swept _ r.device.holders p)
        go None = p

    taken_keeps : (r : Record) (out : List ℕ) → P r.device.holders → P (take_call r out).state.device.holders
    unfolding notified_of sent_at told_at
    taken_keeps r out p = taking_ways (λ (d : Device). P d.holders) r out p p p

    reset_keeps : (r : Record) (area g : List ℕ) → P r.device.holders → Of (datagram_call r area g)
    unfolding datagram_call restarted fresh_state
    reset_keeps r area g p =
        either Of (record_obeys r) _ _
        (either Of (area_sound r.held area) _ _ (either Of (resets r.device.mechanism g) _ _ (fresh r.device.reading) p) p)
        p

    delivered_keeps : (r : Record) (area : List ℕ) (k : ℕ) (piece out : List ℕ) → P r.device.holders
        → ((t : ℕ) → decide (undecided_of area k (held_at r k) ++ piece) ≡ Sound t → P (sound_of r.device k (take t (undecided_of area k (held_at r k) ++ piece))).device.holders)
        → Of (deliver_call r area k piece out)
    unfolding taken_in
    delivered_keeps r area k piece out p sound =
        delivery_ways (λ (d : Device). P d.holders) r area k piece out p (go (decide (undecided_of area k (held_at r k) ++ piece)) refl)
      where
        go : (x : Decision) → decide (undecided_of area k (held_at r k) ++ piece) ≡ x
            → P (delivered_by x r.device area k (held_at r k) piece (undecided_of area k (held_at r k) ++ piece) out).device.holders
        go Undecided e = unfold delivered_by in p
        go (Faulty f t) e = unfold delivered_by close_of sweep_of in swept _ r.device.holders p
        go (Sound t) e = unfold delivered_by messaged in sound t e

    pub call_keeps : (r : Record) (area : List ℕ) (c : HostCall) → P r.device.holders
        → ((k t : ℕ) (piece : List ℕ) (out : List ℕ) → c ≡ deliver k piece out → decide (undecided_of area k (held_at r k) ++ piece) ≡ Sound t
        → P (sound_of r.device k (take t (undecided_of area k (held_at r k) ++ piece))).device.holders)
        → Of (call_of r area c)
    unfolding call_of
    call_keeps r area (deliver k piece out) p sound = delivered_keeps r area k piece out p (λ t e. sound k t piece out refl e)
    call_keeps r area (ask opening) p sound = opened_keeps r p
    call_keeps r area (ask (closing n)) p sound = closed_keeps r area n p
    call_keeps r area (ask (ticking reading)) p sound = ticked_keeps r area reading p
    call_keeps r area (ask (taking out)) p sound = taken_keeps r out p
    call_keeps r area (ask (datagram g)) p sound = reset_keeps r area g p

-- ---- the number of holders
module _ (at : ℕ) (low : at < 8) where
  -- there is a holder at that place
  abbrev Has : List ℕ → Type 0
  Has hs = at < length hs

  run_has : (d : Device) (n t m count : ℕ) (part : List ℕ) → Has d.holders → Has (run_of d n t m count part).device.holders
  run_has d n t m count part p =
      run_ways (λ (x : Device). Has x.holders) d n t m count part
      (λ q. done_ways (λ (x : Device). Has x.holders) d n t m part (λ a. rw length-set p) (λ a. rw length-set p) (λ x a b c. rw c p)) p

  last_has : (j : ℕ) (d : Device) (n kind : ℕ) (t : List ℕ) → Has d.holders → Has (last_of j d n kind t).holders
  unfolding last_of ran_first ran_with
  last_has zero d n kind t p = p
  last_has (suc j) d n kind t p = last_has j (ran_first d n kind t).device n kind (drop (entry_size kind t) t) (run_has d n _ _ _ _ p)

  sound_has : (d : Device) (n : ℕ) (m : List ℕ) → Has d.holders → Has (sound_of d n m).device.holders
  unfolding sound_of commands_of kept_alive beating_at heard_at sent_at
  sound_has d n m p =
      let l = last_has (message_count m) (heard_at d n) n (pdu_type m) (drop header_end m) p in
      either Q (eqb (pdu_type m) keep_alive) _ _ (either (λ (x : Device). Has x.holders) (live_at d.connections n) _ _ p p)
      (either Q (ltb (pdu_type m) notification) _ _ (either Q (eqb (pdu_type m) 0) _ _ l l) p)
    where
      Q : Ruled → Type 0
      Q x = Has x.device.holders

  fresh_has : (reading : ℕ) → Has (fresh_of reading).holders
  unfolding fresh_of
  fresh_has reading = low

  pub calls_have : (r : Record) (area : List ℕ) (cs : List HostCall) → Has r.device.holders → Has (calls_of r area cs).0.device.holders
  unfolding calls_of
  calls_have r area [] p = p
  calls_have r area (c ∷ cs) p =
      calls_have (call_of r area c).state (call_of r area c).area cs
      (call_keeps Has (λ xs hs q. rw length-map q) fresh_has r area c p (λ k t piece out e f. sound_has r.device k _ p))

-- ---- a channel for which nobody asks
module _ (at : ℕ) where
  -- nobody holds it
  abbrev Free : List ℕ → Type 0
  Free hs = get_or hs at 0 ≡ 0

  call_free : (r : Record) (area : List ℕ) (c : HostCall) → Free r.device.holders → asks_now at r area c ≡ false → Free (call_of r area c).state.device.holders
  unfolding asks_now asks_in taken
  call_free r area c p a =
      call_keeps Free (λ xs hs q. swept_free xs hs at q) (λ reading. fresh_free reading at) r area c p
      (λ k t piece out e f.
      let b : asks_now at r area (deliver k piece out) ≡ false = rw e at a in
      sound_free r.device at k _ p (rw f at b))

  pub calls_free : (r : Record) (area : List ℕ) (cs : List HostCall) → Free r.device.holders → nobody_locks at r area cs ≡ true → Free (calls_of r area cs).0.device.holders
  unfolding calls_of nobody_locks
  calls_free r area [] p a = p
  calls_free r area (c ∷ cs) p a =
      calls_free (call_of r area c).state (call_of r area c).area cs
      (call_free r area c p (not-true (asks_now at r area c) (and_left (not (asks_now at r area c)) _ a)))
      (and_right (not (asks_now at r area c)) _ a)
