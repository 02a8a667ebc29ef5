-- EveningInAHall: an evening call by call, each hypothesis of the technician's theorem of the real calls. Assumes nothing.
use Rattle.std.specs.Prelude.{Some}
use Prim.Native.Nat.{ℕ, zero, suc, ◌+◌, ◌*◌, ◌^◌, ◌<◌, ◌≤◌}
use mathlib.Core.Path.{◌≡◌, refl, sym, ap, subst, ◌∙◌}
use mathlib.Core.Bool.{Bool, true, false}
use mathlib.Core.List.{List, [], ◌∷◌, append-nil}
use native.Mathlib.Omega.{arith}
use lib.Dec.{eqb, ltb}
use lib.ListN.{length, get_or, take}
use lib.Seq.{get_or-set_other}
use borrow.Author.Tests.{le-ltb, eqb-false}
use Rattle.laws.proofs.Conds.{either}
use Rattle.octets.specs.Numbers.{Octets, bytes32}
use Rattle.octets.specs.Zeros.{zeros}
use Rattle.octets.proofs.Scans.{length_zeros}
use Rattle.octets.proofs.Digits.{octets_take}
use Rattle.frame.specs.Limits.{keep_alive}
use Rattle.frame.specs.Header.{pdu_type}
use Rattle.frame.specs.Decide.{decide, taken, settled}
use Rattle.frame.specs.declared.Decision.TheVariants.{Undecided, Sound}
use Rattle.frame.proofs.Ways.{deciding}
use Rattle.area.specs.Area.{area_bytes, area_sound, undecided_of, held_kept}
use Rattle.connection.specs.State.{closed, live_at, is_not_open}
use Rattle.reader.specs.Examples.{keep_alive2s}
use Rattle.replies.specs.Bytes.{least_output}
use Rattle.device.specs.State.{fresh_of, open_of}
use Rattle.device.specs.Time.{step_of}
use Rattle.stream.specs.Calls.{deliver, ask, AllBytes}
use Rattle.answers.specs.Numbers.{opening_numbers}
use Rattle.endpoint.specs.State.{state_of, fresh_state, record_obeys}
use Rattle.endpoint.specs.Outcome.{Outcome, outcome}
use Rattle.endpoint.specs.Calls.{opened_by, open_call, tick_call}
use Rattle.endpoint.specs.Deliver.{held_at, deliver_call}
use Rattle.endpoint.specs.declared.Record.{Record}
use Rattle.promise.specs.Rulebook.{opening, ticking}
use Rattle.promise.specs.Calls.{call_of}
use Rattle.promise.specs.Kept.{Kept}
use Rattle.promise.specs.Ticks.{step_at, passes, Watched}
use Rattle.promise.specs.Heartbeats.{brought_by}
use Rattle.promise.specs.Reset.{asks_in}
use Rattle.promise.proofs.Kept.{calls_keep}
use Rattle.promise.proofs.Ticks as ticked
use Rattle.technician.specs.Silence.{is_silent, calls_of, all_silent, step_in, time_in}
use Rattle.technician.specs.Lock.{lock_bytes, CanAsk, lock_call, Answered, asks_now, nobody_locks}
use Rattle.technician.specs.Technician.{keep_alive30s, at_last, since_then, then_tick, Ends, beat_in, beat_after, GoesSilent, Reaches, Asks, Waits}
use Rattle.technician.specs.Evening.{lent, hall, greeted, dying, in_vain, evening, TakenOver, EveningInAHall}
use Rattle.technician.proofs.Untouched.{deliver_call_lem}
use Rattle.technician.proofs.Silent.{idle_many}
use Rattle.technician.proofs.Locked as locks
use Rattle.technician.proofs.Free.{calls_have, calls_free}
use Rattle.technician.proofs.Heard.{heard, heard_decided, heard_front, heard_none}
use Rattle.technician.proofs.Technician.{technician_let_in}

-- ---- bytes
room : least_output ≤ length lent
room = omega (arith, length_zeros least_output)

-- a whole sound message on a connection with none of its bytes waiting
whole : (r : Record) (area : List ℕ) (n : ℕ) (m : List ℕ) → Kept r area → live_at r.device.connections n ≡ true → held_at r n ≡ 0 → decide m ≡ Sound (length m) → Ends r area n m lent m
unfolding undecided_of
whole r area n m k l z s = record { kept = k; live = l; room = room; sound = s; behind = []; brought = rw z (sym (append-nil m)) }

lock_whole : (handle at : ℕ) → decide (lock_bytes handle at) ≡ Sound (length (lock_bytes handle at))
lock_whole handle at = locks.lock_decided handle at ∙ (unfold lock_bytes bytes32 in refl)

-- its front is half a message
half_waits : decide (take 13 (lock_bytes 8 4)) ≡ Undecided
half_waits =
    let t : taken (decide (lock_bytes 8 4)) ≡ 27 = ap taken (locks.lock_decided 8 4) ∙ (unfold taken in refl) in
    deciding.before (lock_bytes 8 4) 13 (omega (arith, t))

-- ---- the technician's controller

-- connection 1 is open, without a heartbeat, and none of its bytes wait
record Stage (r : Record) (area : List ℕ) (x : ℕ) : Type 0 where
  kept : Kept r area
  reading : r.device.reading ≡ x
  live : live_at r.device.connections 1 ≡ true
  beat : (get_or r.device.connections 1 closed).beat ≡ 0
  none : held_at r 1 ≡ 0

held_other : (r : Record) (area : List ℕ) (k : ℕ) (piece out : List ℕ) (j : ℕ) → eqb j k ≡ false → held_at (deliver_call r area k piece out).state j ≡ held_at r j
unfolding deliver_call
held_other r area k piece out j e =
    either P (record_obeys r) _ _
    (either P (area_sound r.held area) _ _
    (either P (live_at r.device.connections k) _ _
    (either P (ltb (length out) least_output) _ _ refl (get_or-set_other r.held k j _ 0 (eqb-false j k e)))
    refl)
    refl)
    refl
  where
    P : Outcome → Type 0
    P o = held_at o.state j ≡ held_at r j

-- a piece of the tablet
stage_other : (r : Record) (area : List ℕ) (x : ℕ) (piece : List ℕ) → Stage r area x → Octets piece → Stage (deliver_call r area 0 piece lent).state (deliver_call r area 0 piece lent).area x
unfolding live_at call_of
stage_other r area x piece s o =
    let a = deliver_call_lem r area 0 piece lent 1 (unfold is_silent in refl) s.live in
    record {
      kept = calls_keep.calling r area (deliver 0 piece lent) o s.kept;
      reading = a.reading ∙ s.reading;
      live = a.live ∙ s.live;
      beat = a.beat ∙ s.beat;
      none = held_other r area 0 piece lent 1 refl ∙ s.none;
    }

kept_zero : (lives : List Bool) (held : List ℕ) (n : ℕ) → get_or held n 0 ≡ 0 → get_or (held_kept lives held) n 0 ≡ 0
unfolding held_kept
kept_zero [] held n e = e
kept_zero (b ∷ lives) [] n e = refl
kept_zero (b ∷ lives) (k ∷ held) zero e = either (λ (x : ℕ). x ≡ 0) b k 0 e refl
kept_zero (b ∷ lives) (k ∷ held) (suc n) e = kept_zero lives held n e

-- a tick that is not refused
tick_passes : (r : Record) (area : List ℕ) (x y : ℕ) → Stage r area x → step_of y x < 2 ^ 31 → passes r area y ≡ true
tick_passes r area x y s l =
    technician_let_in.passing r area y (record { obeys = s.kept.obeys; sound = s.kept.sound }) (rw s.reading l)

stage_tick : (r : Record) (area : List ℕ) (x y : ℕ) → Stage r area x → step_of y x < 2 ^ 31 → Stage (tick_call r area y).state (tick_call r area y).area y
unfolding calls_of call_of all_silent is_silent
stage_tick r area x y s l =
    let p = tick_passes r area x y s l in
    let i = idle_many 1 r area (ask (ticking y) ∷ []) refl s.live s.beat in
    record {
      kept = calls_keep.calling r area (ask (ticking y)) tt s.kept;
      reading = ticked.moved r area y p;
      live = i.live;
      beat = i.beat;
      none = ap (λ (l : List ℕ). get_or l 1 0) (ticked.counts r area y p) ∙ kept_zero _ r.held 1 s.none;
    }

-- its own lock, while the tablet is open
stage_asks : (r : Record) (area : List ℕ) (x : ℕ) → Stage r area x → live_at r.device.connections 0 ≡ true → Octets (lock_bytes 9 4)
    → Stage (lock_call r area 1 9 4 lent).state (lock_call r area 1 9 4 lent).area x
unfolding call_of
stage_asks r area x s l o =
    let e = whole r area 1 (lock_bytes 9 4) s.kept s.live s.none (lock_whole 9 4) in
    let w = heard r area 1 (lock_bytes 9 4) lent (lock_bytes 9 4) e in
    let a = deliver_call_lem r area 1 (lock_bytes 9 4) lent 0 (unfold is_silent in refl) l in
    let b : beat_after r 1 (lock_bytes 9 4) ≡ (get_or r.device.connections 1 closed).beat = unfold beat_after lock_bytes bytes32 in refl in
    record {
      kept = calls_keep.calling r area (deliver 1 (lock_bytes 9 4) lent) o s.kept;
      reading = a.reading ∙ s.reading;
      live = w.live;
      beat = w.beat ∙ b ∙ s.beat;
      none = heard_none r area 1 (lock_bytes 9 4) lent (lock_bytes 9 4) e;
    }

-- ---- the evening

-- both connections are open, none of their bytes wait, and channel 5 is free
record Two (r : Record) (area : List ℕ) : Type 0 where
  stage : Stage r area 0
  live : live_at r.device.connections 0 ≡ true
  none : held_at r 0 ≡ 0
  free : get_or r.device.holders 4 0 ≡ 0
  has : 4 < length r.device.holders

octets_7 : Octets (lock_bytes 7 4)
octets_7 = locks.lock_octets 7 4 (omega arith)

octets_8 : Octets (take 13 (lock_bytes 8 4))
octets_8 = octets_take 13 (lock_bytes 8 4) (locks.lock_octets 8 4 (omega arith))

octets_9 : Octets (lock_bytes 9 4)
octets_9 = locks.lock_octets 9 4 (omega arith)

module _ (r : Record) (area : List ℕ) (two : Two r area) (m : List ℕ) (sound : decide m ≡ Sound (length m)) (kind : pdu_type m ≡ keep_alive) (bytes : Octets m) where
  -- the keep-alive
  ends : Ends r area 0 m lent m
  ends = whole r area 0 m two.stage.kept two.live two.none sound

  stage1 : Stage (greeted r area m).state (greeted r area m).area 0
  stage1 = stage_other r area 0 m two.stage bytes

  greets : beat_after r 0 m ≡ beat_in m
  unfolding beat_after
  greets = rw kind refl

  spoke : Watched (greeted r area m).state.device 0 (beat_in m) 0
  spoke = rw greets at (heard r area 0 m lent m ends)

  -- it asks for no channel
  unasked : nobody_locks 4 r area (deliver 0 m lent ∷ []) ≡ true
  unfolding nobody_locks asks_now asks_in taken
  unasked = rw (heard_decided r area 0 m lent m ends, heard_front r area 0 m lent m ends, kind) refl

  free : get_or (greeted r area m).state.device.holders 4 0 ≡ 0
  free = unfold calls_of call_of in calls_free 4 r area (deliver 0 m lent ∷ []) two.free unasked

  has : 4 < length (greeted r area m).state.device.holders
  has = unfold calls_of call_of in calls_have 4 (omega arith) r area (deliver 0 m lent ∷ []) two.has

  -- the tablet's lock
  locked : Answered (greeted r area m).state (greeted r area m).area 0 7 4 lent 0 0
  locked =
      locks.entering (greeted r area m).state (greeted r area m).area 0 7 4 lent stage1.kept
      (record { live = spoke.live; none = heard_none r area 0 m lent m ends; room = room; four = omega arith; channel = omega arith })
      stage1.kept.eight has free

  ends2 : Ends (greeted r area m).state (greeted r area m).area 0 (lock_bytes 7 4) lent (lock_bytes 7 4)
  ends2 = whole (greeted r area m).state (greeted r area m).area 0 (lock_bytes 7 4) stage1.kept spoke.live (heard_none r area 0 m lent m ends) (lock_whole 7 4)

  -- what it comes to
  abbrev said : Outcome
  said = deliver_call (greeted r area m).state (greeted r area m).area 0 (lock_bytes 7 4) lent

  stage2 : Stage said.state said.area 0
  stage2 = stage_other (greeted r area m).state (greeted r area m).area 0 (lock_bytes 7 4) stage1 octets_7

  beat2 : beat_after (greeted r area m).state 0 (lock_bytes 7 4) ≡ beat_in m
  unfolding beat_after lock_bytes bytes32
  beat2 = spoke.beat

  -- half a message
  waits2 : decide (brought_by said.state said.area 0 (take 13 (lock_bytes 8 4))) ≡ Undecided
  waits2 =
      let z = heard_none (greeted r area m).state (greeted r area m).area 0 (lock_bytes 7 4) lent (lock_bytes 7 4) ends2 in
      rw z (unfold undecided_of in half_waits)

  abbrev halved : Outcome
  halved = deliver_call said.state said.area 0 (take 13 (lock_bytes 8 4)) lent

  stage3 : Stage halved.state halved.area 0
  stage3 = stage_other said.state said.area 0 (take 13 (lock_bytes 8 4)) stage2 octets_8

  module _ (H last next step : ℕ) (beat : beat_in m ≡ H) (first : step_of last 0 ≡ last) (soon : last < 2 ^ 31) (second : step_of next last ≡ step) (small : step < 2 ^ 31)
      (sum : last + step ≡ next) (below : last < 3 * H) (reach : 3 * H ≤ next)
    where
      soon' : step_of last 0 < 2 ^ 31
      soon' = rw first soon

      -- the tick to the last reading
      abbrev waited : Outcome
      waited = tick_call halved.state halved.area last

      stage4 : Stage waited.state waited.area last
      stage4 = stage_tick halved.state halved.area 0 last stage3 soon'

      passes4 : passes halved.state halved.area last ≡ true
      passes4 = tick_passes halved.state halved.area 0 last stage3 soon'

      step4 : step_at halved.state last ≡ last
      step4 = rw stage3.reading first

      dies : GoesSilent (evening r area m (dying last)) H
      dies =
          record {
            message = lock_bytes 7 4;
            ends = ends2;
            beat = beat2 ∙ beat;
            octets = octets_7;
            bytes = unfold AllBytes in (octets_8, (tt, tt));
            silent = unfold all_silent is_silent settled in rw (waits2, le-ltb (length lent) least_output room) refl;
          }

      silent : GoesSilent (evening r area m (in_vain last)) H
      silent =
          record {
            message = lock_bytes 7 4;
            ends = ends2;
            beat = beat2 ∙ beat;
            octets = octets_7;
            bytes = unfold AllBytes in (octets_8, (tt, (octets_9, tt)));
            silent = unfold all_silent is_silent settled in rw (waits2, le-ltb (length lent) least_output room) refl;
          }

      time4 : since_then (evening r area m (dying last)) ≡ last
      time4 = unfold time_in step_in call_of in rw (passes4, step4) (omega arith)

      time5 : since_then (evening r area m (in_vain last)) ≡ last
      time5 = unfold time_in step_in call_of in rw (passes4, step4) (omega arith)

      -- in vain
      can : CanAsk (at_last (evening r area m (dying last))).0 1 9 4 lent
      can = unfold calls_of call_of in record { live = stage4.live; none = stage4.none; room = room; four = omega arith; channel = omega arith }

      waits4 : Waits (evening r area m (dying last))
      waits4 = technician_let_in.waits (evening r area m (dying last)) H dies (omega (arith, time4))

      live4 : live_at waited.state.device.connections 0 ≡ true
      live4 = unfold calls_of call_of in waits4.live

      refused : Answered (at_last (evening r area m (dying last))).0 (at_last (evening r area m (dying last))).1 1 9 4 lent 3 0
      refused = waits4.locked_out 1 9 4 lent locked.holder refl can

      abbrev asked : Outcome
      asked = lock_call waited.state waited.area 1 9 4 lent

      stage5 : Stage asked.state asked.area last
      stage5 = stage_asks waited.state waited.area last stage4 live4 octets_9

      -- the tick to the next reading
      small' : step_of next last < 2 ^ 31
      small' = rw second small

      stage6 : Stage (tick_call asked.state asked.area next).state (tick_call asked.state asked.area next).area next
      stage6 = stage_tick asked.state asked.area last next stage5 small'

      passes6 : passes asked.state asked.area next ≡ true
      passes6 = tick_passes asked.state asked.area last next stage5 small'

      step6 : step_at asked.state next ≡ step
      step6 = rw stage5.reading second

      time6 : since_then (then_tick (evening r area m (in_vain last)) next []) ≡ next
      time6 = unfold time_in step_in call_of in rw (passes4, step4, passes6, step6) (omega arith)

      reaches : Reaches (evening r area m (in_vain last)) next H
      reaches = record { before = omega (arith, time5); reached = omega (arith, time6) }

      asks : Asks (evening r area m (in_vain last)) next [] 1 10 4 lent
      asks =
          record {
            held = locked.holder;
            bytes = unfold AllBytes in tt;
            unasked = unfold nobody_locks in refl;
            can = unfold calls_of call_of in record { live = stage6.live; none = stage6.none; room = room; four = omega arith; channel = omega arith };
          }

      taken_over : TakenOver r area m H last next
      taken_over =
          record {
            ends = ends;
            dies = dies;
            silent = silent;
            holds = locked.holder;
            time = time5;
            reaches = reaches;
            can = can;
            asks = asks;
            refused = refused;
            let_in = technician_let_in.let_in (evening r area m (in_vain last)) next H silent reaches [] 1 10 4 lent asks;
          }

-- ---- a fresh record, and two connections
opened : (r : Record) (n : ℕ) → record_obeys r ≡ true → (open_of r.device).answer ≡ Some n
    → open_call r ≡ outcome (opening_numbers n) (state_of (open_of r.device).device r.held) [] []
unfolding open_call opened_by
opened r n o e = rw (o, e) refl

-- the record after the tablet's opening, and after the technician's
abbrev first : Record
first = state_of (open_of (fresh_of 0)).device (zeros 8)

abbrev second : Record
second = state_of (open_of (open_of (fresh_of 0)).device).device (zeros 8)

number_0 : (open_of (fresh_state 0).device).answer ≡ Some 0
unfolding fresh_state fresh_of open_of is_not_open
number_0 = refl

number_1 : (open_of first.device).answer ≡ Some 1
unfolding fresh_of open_of is_not_open
number_1 = refl

opens_0 : open_call (fresh_state 0) ≡ outcome (opening_numbers 0) first [] []
unfolding fresh_state
opens_0 = opened (fresh_state 0) 0 (calls_keep.fresh 0).obeys number_0

kept_first : Kept first (zeros area_bytes)
unfolding call_of
kept_first = subst (λ (o : Outcome). Kept o.state (zeros area_bytes)) opens_0 (calls_keep.calling (fresh_state 0) (zeros area_bytes) (ask opening) tt (calls_keep.fresh 0))

opens_1 : open_call first ≡ outcome (opening_numbers 1) second [] []
opens_1 = opened first 1 kept_first.obeys number_1

kept_second : Kept second (zeros area_bytes)
unfolding call_of
kept_second = subst (λ (o : Outcome). Kept o.state (zeros area_bytes)) opens_1 (calls_keep.calling first (zeros area_bytes) (ask opening) tt kept_first)

two_open_lem : Two second (zeros area_bytes)
unfolding fresh_of open_of is_not_open live_at zeros
two_open_lem =
    record {
      stage = record { kept = kept_second; reading = refl; live = refl; beat = refl; none = refl };
      live = refl;
      none = refl;
      free = refl;
      has = omega arith;
    }

hall_is : hall ≡ (second, zeros area_bytes)
unfolding calls_of call_of
hall_is = ap (λ (o : Outcome). ((open_call o.state).state, zeros area_bytes)) opens_0 ∙ ap (λ (o : Outcome). (o.state, zeros area_bytes)) opens_1

hall_two : Two hall.0 hall.1
hall_two = subst (λ (x : Record × List ℕ). Two x.0 x.1) (sym hall_is) two_open_lem

pub evening_in_a_hall : EveningInAHall
evening_in_a_hall =
    let two = technician_let_in.two_seconds in
    let thirty = technician_let_in.thirty_seconds in
    record {
      tablet = ap (λ (o : Outcome). o.answer) opens_0;
      technician = ap (λ (o : Outcome). (open_call o.state).answer) opens_0 ∙ ap (λ (o : Outcome). o.answer) opens_1;
      two_seconds =
          taken_over hall.0 hall.1 hall_two keep_alive2s two.sound refl (locks.octets_all keep_alive2s refl) 2000 5999 6000 1 two.beat refl (omega arith) refl (omega arith) refl (omega arith)
          (omega arith);
      thirty_seconds =
          taken_over hall.0 hall.1 hall_two keep_alive30s thirty.sound refl (locks.octets_all keep_alive30s refl) 30000 89999 90000 1 thirty.beat refl (omega arith) refl (omega arith) refl (omega arith)
          (omega arith);
    }
