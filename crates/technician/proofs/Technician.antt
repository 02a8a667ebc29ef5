-- TechnicianLetIn: when a silent connection is closed, and that whoever then asks for its lock gets it. Assumes nothing.
use Prim.Native.Nat.{ℕ, zero, suc, ◌+◌, ◌*◌, ◌^◌, ◌<◌, ◌≤◌}
use mathlib.Core.Path.{◌≡◌, refl, sym, ap, subst, ◌∙◌}
use mathlib.Core.Bool.{Bool, cond, true, false}
use mathlib.Core.List.{List, [], ◌∷◌, ◌++◌}
use native.Mathlib.Omega.{arith}
use lib.ListN.{length, get_or}
use borrow.Author.Tests.{le-leb, lt-leb}
use Rattle.octets.specs.Numbers.{be16_at, be32_at, bytes32}
use Rattle.octets.specs.Zeros.{zeros}
use Rattle.heartbeat.specs.Beat.{beat_of}
use Rattle.frame.specs.Limits.{keep_alive}
use Rattle.frame.specs.Header.{pdu_type, count_fault, fields_fault, header_fault}
use Rattle.frame.specs.Decide.{keep_alive_fill, data_sound, decide_data, decide_header, decide}
use Rattle.frame.specs.declared.Decision.TheVariants.{Sound}
use Rattle.fields.specs.Fields.{heartbeat_of}
use Rattle.reader.specs.Examples.{keep_alive2s}
use Rattle.area.specs.Area.{area_bytes, area_sound}
use Rattle.connection.specs.State.{live_at}
use Rattle.numbers.specs.Refusal.{clock_back}
use Rattle.device.specs.Time.{tick_step}
use Rattle.stream.specs.Calls.{deliver, ask}
use Rattle.endpoint.specs.State.{fresh_state, record_obeys}
use Rattle.endpoint.specs.Outcome.{refused}
use Rattle.endpoint.specs.Calls.{ticked_by, tick_call}
use Rattle.endpoint.specs.declared.Record.{Record}
use Rattle.promise.specs.Rulebook.{ticking}
use Rattle.promise.specs.Calls.{HostCall, call_of}
use Rattle.promise.specs.Kept.{Kept}
use Rattle.promise.specs.Ticks.{step_at, passes, Watched}
use Rattle.promise.proofs.Kept.{calls_keep}
use Rattle.technician.specs.Silence.{step_in, calls_of, time_in}
use Rattle.technician.specs.Lock.{lock_bytes, reply_bytes, holder_in}
use Rattle.technician.specs.Technician.{Course, spoken, at_last, since_then, then_tick, GoesSilent, Holds, Reaches, Asks, Waits, Closes, Enters, beat_in, keep_alive30s, most_in_seconds, most_in_milliseconds, Exactly, TechnicianLetIn}
use Rattle.technician.proofs.Untouched.{half}
use Rattle.technician.proofs.Watched.{Followed, shutting, freeing}
use Rattle.technician.proofs.Silent.{calls_on, time_on, calls_kept, Stands, many, idle_many}
use Rattle.technician.proofs.Locked as locks
use Rattle.technician.proofs.Free.{calls_have, calls_free}
use Rattle.technician.proofs.Heard.{heard}

-- where somebody holds a lock there is a place for it
has_place : (hs : List ℕ) (at n : ℕ) → get_or hs at 0 ≡ n + 1 → at < length hs
has_place [] at n e = absurd (omega arith)
has_place (x ∷ hs) zero n e = omega arith
has_place (x ∷ hs) (suc at) n e = let h = has_place hs at n e in omega arith

module _ (c : Course) (H : ℕ) (g : GoesSilent c H) where
  kept : Kept (spoken c).state (spoken c).area
  unfolding call_of
  kept = calls_keep.calling c.start c.area (deliver c.tablet c.piece c.out) g.octets g.ends.kept

  kept_last : Kept (at_last c).0 (at_last c).1
  kept_last = calls_kept (spoken c).state (spoken c).area c.calls g.bytes kept

  spoke : Watched (spoken c).state.device c.tablet H 0
  spoke = rw g.beat at (heard c.start c.area c.tablet c.piece c.out g.message g.ends)

  stands : since_then c < 3 * H → Stands c.tablet H (since_then c) (spoken c).state.device (at_last c).0.device
  stands l =
      let f : Followed (spoken c).state.device c.tablet H 0 =
      record { eight = kept.eight; live = spoke.live; above = omega arith; beat = spoke.beat; silent = spoke.silent } in
      let e : 0 + since_then c ≡ since_then c = omega arith in
      rw e at (many (spoken c).state (spoken c).area c.calls c.tablet H 0 g.silent f (omega arith))

  -- with its locks, and others shut out of them
  waiting : live_at (at_last c).0.device.connections c.tablet ≡ true
      → ((at : ℕ) → Holds c at → holder_in (at_last c).0 at ≡ c.tablet + 1) → Waits c
  waiting l h =
      record {
        live = l;
        holds = h;
        locked_out = λ k handle at out z e can. locks.refusing (at_last c).0 (at_last c).1 k handle at out kept_last can c.tablet e (h at z);
      }

  waits : since_then c < 3 * H → Waits c
  waits l = let s = stands l in waiting s.followed.live s.locks

  counts : since_then c < 3 * H → Watched (at_last c).0.device c.tablet H (since_then c)
  counts l = let f = (stands l).followed in record { live = f.live; beat = f.beat; silent = f.silent }

  module _ (reading : ℕ) (a : Reaches c reading H) where
    -- the tick's outcome
    later_time : since_then (then_tick c reading []) ≡ since_then c + (cond (passes (at_last c).0 (at_last c).1 reading) (step_at (at_last c).0 reading) 0 + 0)
    later_time = time_on (spoken c).state (spoken c).area c.calls (ask (ticking reading) ∷ []) ∙ (unfold time_in step_in in refl)

    passing : passes (at_last c).0 (at_last c).1 reading ≡ true
    passing = go (passes (at_last c).0 (at_last c).1 reading) refl
      where
        go : (b : Bool) → passes (at_last c).0 (at_last c).1 reading ≡ b → b ≡ true
        go true q = refl
        go false q =
            let t : since_then (then_tick c reading []) ≡ since_then c + (0 + 0) = rw q at later_time in
            absurd (omega (arith, t, a.before, a.reached))

    reached : 3 * H ≤ since_then c + step_at (at_last c).0 reading
    reached =
        let t : since_then (then_tick c reading []) ≡ since_then c + (step_at (at_last c).0 reading + 0) = rw passing at later_time in
        omega (arith, t, a.reached)

    closes : Closes (at_last c).0 (at_last c).1 reading c.tablet
    closes = shutting (at_last c).0 (at_last c).1 reading passing c.tablet H (since_then c) (stands a.before).followed reached

    -- the record and the area after the tick, and after later calls
    ticked : at_last (then_tick c reading []) ≡ ((tick_call (at_last c).0 (at_last c).1 reading).state, (tick_call (at_last c).0 (at_last c).1 reading).area)
    ticked = calls_on (spoken c).state (spoken c).area c.calls (ask (ticking reading) ∷ []) ∙ (unfold calls_of call_of in refl)

    on : (later : List HostCall)
        → at_last (then_tick c reading later) ≡ calls_of (tick_call (at_last c).0 (at_last c).1 reading).state (tick_call (at_last c).0 (at_last c).1 reading).area later
    on later = calls_on (spoken c).state (spoken c).area c.calls (ask (ticking reading) ∷ later) ∙ (unfold calls_of call_of in refl)

    freed : (at : ℕ) → Holds c at → get_or (tick_call (at_last c).0 (at_last c).1 reading).state.device.holders at 0 ≡ 0
    freed at h =
        let s = stands a.before in
        freeing (at_last c).0 (at_last c).1 reading passing c.tablet H (since_then c) s.followed reached at (s.locks at h)

    frees : (at : ℕ) → Holds c at → holder_in (at_last (then_tick c reading [])).0 at ≡ 0
    frees at h = ap (λ (x : Record × List ℕ). get_or x.0.device.holders at 0) ticked ∙ freed at h

    let_in : (later : List HostCall) (k handle at : ℕ) (out : List ℕ) → Asks c reading later k handle at out → Enters c reading later k handle at out
    let_in later k handle at out q =
        let t = tick_call (at_last c).0 (at_last c).1 reading in
        let end = at_last (then_tick c reading later) in
        let kt : Kept t.state t.area = unfold call_of in calls_keep.calling (at_last c).0 (at_last c).1 (ask (ticking reading)) tt kept_last in
        let ke = subst (λ (x : Record × List ℕ). Kept x.0 x.1) (sym (on later)) (calls_kept t.state t.area later q.bytes kt) in
        let has = calls_have at q.can.channel (spoken c).state (spoken c).area (c.calls ++ (ask (ticking reading) ∷ later)) (has_place (spoken c).state.device.holders at c.tablet q.held) in
        let free = calls_free at (at_last (then_tick c reading [])).0 (at_last (then_tick c reading [])).1 later (frees at q.held) q.unasked in
        let same = ap (λ (x : Record × List ℕ). calls_of x.0 x.1 later) ticked in
        locks.entering end.0 end.1 k handle at out ke q.can ke.eight has
        (ap (λ (x : Record × List ℕ). get_or x.0.device.holders at 0) (on later ∙ sym same) ∙ free)

never : (c : Course) → GoesSilent c 0 → Waits c
never c g =
    let w = spoke c 0 g in
    let i = idle_many c.tablet (spoken c).state (spoken c).area c.calls g.silent w.live w.beat in
    waiting c 0 g i.live i.locks

-- ---- refusals
module _ (r : Record) (area : List ℕ) (reading : ℕ) (o : record_obeys r ≡ true) (a : area_sound r.held area ≡ true) where
  timely : step_at r reading < 2 ^ 31 → passes r area reading ≡ true
  unfolding passes tick_call tick_step ticked_by
  timely h =
      let e = lt-leb (2 ^ 31) (step_at r reading) h in
      rw (o, a, e)

  back : 2 ^ 31 ≤ step_at r reading → tick_call r area reading ≡ refused clock_back r area []
  unfolding tick_call tick_step ticked_by
  back h = rw (o, a, le-leb (2 ^ 31) (step_at r reading) h)

-- ---- with numbers
exactly : (m : List ℕ) (H last next : ℕ) → decide m ≡ Sound (length m) → pdu_type m ≡ keep_alive → beat_in m ≡ H → last < 3 * H → 3 * H ≤ next → Exactly m H last next
exactly m H last next s k b l u =
    record {
      sound = s;
      kind = k;
      beat = b;
      waits = λ c g t. waits c H g (omega arith);
      let_in = λ c reading g t v. let_in c H g reading (record { before = omega arith; reached = omega arith });
    }

-- the heartbeats that the keep-alives set
module _ where
  abbrev Sets : List ℕ → ℕ → Type 0
  Sets m H = (decide m ≡ Sound (length m)) × (beat_in m ≡ H)

  sets_2 : Sets keep_alive2s 2000
  unfolding decide decide_header decide_data data_sound keep_alive_fill header_fault fields_fault count_fault be16_at be32_at heartbeat_of beat_of
  sets_2 = (refl, refl)

  sets_30 : Sets keep_alive30s 30000
  unfolding decide decide_header decide_data data_sound keep_alive_fill header_fault fields_fault count_fault be16_at be32_at heartbeat_of beat_of
  sets_30 = (refl, refl)

  sets_seconds : Sets most_in_seconds 65535000
  unfolding decide decide_header decide_data data_sound keep_alive_fill header_fault fields_fault count_fault be16_at be32_at heartbeat_of beat_of
  sets_seconds = (refl, refl)

  sets_milliseconds : Sets most_in_milliseconds 4294967295
  unfolding decide decide_header decide_data data_sound keep_alive_fill header_fault fields_fault count_fault be16_at be32_at heartbeat_of beat_of
  sets_milliseconds = (refl, refl)

lock : lock_bytes 7 0 ≡ 0x3B ∷ 0x00 ∷ 0x01 ∷ 0x00 ∷ 0x00 ∷ 0x00 ∷ 0x1A ∷ 0x01 ∷ 0x00 ∷ 0x01 ∷ 0x00 ∷ 0x00 ∷ 0x00 ∷ 0x11 ∷ 0x00 ∷ 0x00 ∷ 0x00 ∷ 0x07 ∷ 0x00 ∷ 0x00 ∷ 0x10 ∷ 0x01 ∷ 0x00 ∷ 0x01 ∷ 0x00 ∷ 0x03 ∷ 0x00 ∷ []
unfolding lock_bytes bytes32
lock = refl

reply : (status : ℕ) → reply_bytes 7 status ≡ 0x3B ∷ 0x00 ∷ 0x01 ∷ 0x00 ∷ 0x00 ∷ 0x00 ∷ 0x13 ∷ 0x03 ∷ 0x00 ∷ 0x01 ∷ 0x00 ∷ 0x00 ∷ 0x00 ∷ 0x0A ∷ 0x00 ∷ 0x00 ∷ 0x00 ∷ 0x07 ∷ status ∷ 0x00 ∷ []
unfolding reply_bytes bytes32
reply status = refl

pub technician_let_in : TechnicianLetIn
technician_let_in =
    record {
      kept = λ reading before b. calls_kept (fresh_state reading) (zeros area_bytes) before b (calls_keep.fresh reading);
      heard = heard;
      counts = counts;
      waits = waits;
      never = never;
      closes = λ c reading H g a. closes c H g reading a;
      frees = λ c reading H g a. frees c H g reading a;
      let_in = λ c reading H g a. let_in c H g reading a;
      half_message = half;
      passing = λ r area x a. timely r area x a.obeys a.sound;
      refusing = λ r area x a. back r area x a.obeys a.sound;
      two_seconds = exactly keep_alive2s 2000 5999 6000 sets_2.0 refl sets_2.1 (omega arith) (omega arith);
      thirty_seconds = exactly keep_alive30s 30000 89999 90000 sets_30.0 refl sets_30.1 (omega arith) (omega arith);
      most_seconds = exactly most_in_seconds 65535000 196604999 196605000 sets_seconds.0 refl sets_seconds.1 (omega arith) (omega arith);
      most_milliseconds = exactly most_in_milliseconds 4294967295 12884901884 12884901885 sets_milliseconds.0 refl sets_milliseconds.1 (omega arith) (omega arith);
      lock = lock;
      reply = reply;
      around = refl;
    }
