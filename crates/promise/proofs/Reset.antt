-- ResetByKey and RackFreeAgain. Assumes nothing.
use Prim.Native.Nat.{ℕ, ◌+◌, ◌<◌}
use mathlib.Core.Path.{◌≡◌, refl, sym, ap, ◌∙◌, fun_ext}
use mathlib.Core.Bool.{Bool, true, false, true≢false}
use mathlib.Core.List.{List, [], ◌∷◌}
use borrow.Author.Tests.{eq-eqb, lt-ltb}
use lib.Dec.{eqb}
use lib.ListN.{get_or, length}
use Rattle.laws.proofs.Tables.{clash}
use Rattle.octets.specs.Zeros.{zeros}
use Rattle.area.specs.Area.{area_bytes, area_sound}
use Rattle.mechanism.specs.State.{disarmed}
use Rattle.mechanism.specs.Datagram as datagrams
use Rattle.mechanism.specs.declared.Mechanism.{Mechanism}
use Rattle.mechanism.proofs.Kept.{resets_exactly}
use Rattle.connection.specs.State.{live_at}
use Rattle.device.specs.State.{fresh_of}
use Rattle.device.specs.declared.Device.{Device}
use Rattle.stream.specs.Calls.{ask, Held, none_held, only, rules, AllBytes}
use Rattle.endpoint.specs.State.{fresh_state, record_obeys}
use Rattle.numbers.specs.Refusal.{bad_record, bad_area}
use Rattle.endpoint.specs.Outcome.{Outcome, outcome, refused}
use Rattle.reset.specs.Datagram.{restarted, datagram_call}
use Rattle.endpoint.specs.declared.Record.{Record}
use Rattle.promise.specs.Rulebook.{datagram, rule, reset_by}
use Rattle.promise.specs.Calls.{HostCall, call_of, run_calls}
use Rattle.promise.specs.Whole.{turn_of, device_by, turns_of, wholes_in, wholes_of, by_rules, bytes_waiting}
use Rattle.promise.specs.Reset.{Matches, Resets, ResetByKey, nobody_asks, RackFreeAgain}
use Rattle.promise.proofs.OpenConnections.{fresh_shut}
use native.Mathlib.Omega.{arith}
use lib.Seq.{get_or-set_same}
use Rattle.subscription.specs.State.{free}
use Rattle.objects.specs.Methods.{lock_method}
use Rattle.objects.specs.Answers.{failed_of, answer_with}
use Rattle.holders.specs.Holders.{owner_of, is_other}
use Rattle.device.specs.Run as commands
use Rattle.device.specs.Run.{Ran}
use Rattle.device.proofs.Closures.{free_locks}
use Rattle.device.proofs.Commands.{lock_other, lock_done}
use Rattle.promise.specs.Kept.{Accepted}
use Rattle.promise.specs.Locks.{lock_status}
use Rattle.promise.proofs.Locks.{locked_out_lem}
use Rattle.promise.proofs.Channels.{fresh_free, calls_free}

module _ (r : Record) (area g : List ℕ) where
  -- each way of the call
  bad : record_obeys r ≡ false → datagram_call r area g ≡ refused bad_record r area []
  unfolding datagram_call
  bad e = rw e

  spoilt : record_obeys r ≡ true → area_sound r.held area ≡ false → datagram_call r area g ≡ refused bad_area r area []
  unfolding datagram_call
  spoilt e f = rw (e, f)

  module _ (e : record_obeys r ≡ true) (f : area_sound r.held area ≡ true) where
    right : datagrams.resets r.device.mechanism g ≡ true → datagram_call r area g ≡ restarted r
    unfolding datagram_call
    right m = rw (e, f, m)

    wrong : datagrams.resets r.device.mechanism g ≡ false → datagram_call r area g ≡ outcome (0 ∷ 0 ∷ []) r area []
    unfolding datagram_call
    wrong m = rw (e, f, m)

  told : (o : Outcome) → datagram_call r area g ≡ o → o.answer ≡ 0 ∷ 1 ∷ [] → Resets r area g
  told o q a = ap (λ (x : Outcome). x.answer) q ∙ a

  not_reset : (o : Outcome) (P : Type 0) → datagram_call r area g ≡ o → eqb (get_or o.answer 1 0) 1 ≡ false → Resets r area g → P
  not_reset o P q n a =
      let k : get_or o.answer 1 0 ≡ 1 = ap (λ (x : List ℕ). get_or x 1 0) (sym (ap (λ (x : Outcome). x.answer) q) ∙ a) in
      clash P (eqb (get_or o.answer 1 0) 1) (eq-eqb _ 1 k) n

  matching : Matches r area g → datagrams.resets r.device.mechanism g ≡ true
  matching w = rw w.bytes (resets_exactly.always r.device.mechanism w.armed)

  -- by the three tests
  record Way : Type 0 where
    obeys : record_obeys r ≡ true
    sound : area_sound r.held area ≡ true
    match : datagrams.resets r.device.mechanism g ≡ true

  way : Resets r area g → Way
  way a = go (record_obeys r) refl (area_sound r.held area) refl (datagrams.resets r.device.mechanism g) refl
    where
      go : (x : Bool) → record_obeys r ≡ x → (y : Bool) → area_sound r.held area ≡ y → (z : Bool) → datagrams.resets r.device.mechanism g ≡ z → Way
      go false x y e z f = not_reset (refused bad_record r area []) Way (bad x) refl a
      go true x false e z f = not_reset (refused bad_area r area []) Way (spoilt x e) refl a
      go true x true e false f = not_reset (outcome (0 ∷ 0 ∷ []) r area []) Way (wrong x e f) refl a
      go true x true e true f = record { obeys = x; sound = e; match = f }

  done : Resets r area g → datagram_call r area g ≡ restarted r
  done a = let w = way a in right w.obeys w.sound w.match

  -- any other call changes nothing
  stays : ¬ Resets r area g → ((datagram_call r area g).state ≡ r) × ((datagram_call r area g).area ≡ area)
  unfolding restarted
  stays n = go (record_obeys r) refl (area_sound r.held area) refl (datagrams.resets r.device.mechanism g) refl
    where
      both : (o : Outcome) → datagram_call r area g ≡ o → o.state ≡ r → o.area ≡ area → ((datagram_call r area g).state ≡ r) × ((datagram_call r area g).area ≡ area)
      both o q s a = (ap (λ (x : Outcome). x.state) q ∙ s, ap (λ (x : Outcome). x.area) q ∙ a)

      go : (x : Bool) → record_obeys r ≡ x → (y : Bool) → area_sound r.held area ≡ y → (z : Bool) → datagrams.resets r.device.mechanism g ≡ z
          → ((datagram_call r area g).state ≡ r) × ((datagram_call r area g).area ≡ area)
      go false x y e z f = both (refused bad_record r area []) (bad x) refl refl
      go true x false e z f = both (refused bad_area r area []) (spoilt x e) refl refl
      go true x true e false f = both (outcome (0 ∷ 0 ∷ []) r area []) (wrong x e f) refl refl
      go true x true e true f = absurd (n (told (restarted r) (right x e f) refl))

  nothing : Accepted r area → ¬ Resets r area g → datagram_call r area g ≡ outcome (0 ∷ 0 ∷ []) r area []
  unfolding restarted
  nothing w n = go (datagrams.resets r.device.mechanism g) refl
    where
      go : (z : Bool) → datagrams.resets r.device.mechanism g ≡ z → datagram_call r area g ≡ outcome (0 ∷ 0 ∷ []) r area []
      go true m = absurd (n (told (restarted r) (right w.obeys w.sound m) refl))
      go false m = wrong w.obeys w.sound m

resets : (r : Record) (area g : List ℕ) → Matches r area g → Resets r area g
unfolding restarted
resets r area g w = told r area g (restarted r) (right r area g w.accepted.obeys w.accepted.sound (matching r area g w)) refl

only_key : (r : Record) (area g : List ℕ) → Resets r area g → Matches r area g
only_key r area g a =
    let w = way r area g a in
    let k = resets_exactly.only r.device.mechanism g w.match in
    record { accepted = record { obeys = w.obeys; sound = w.sound }; armed = k.0; bytes = k.1 }

leaves : (r : Record) (area g : List ℕ) → Resets r area g
    → ((datagram_call r area g).state ≡ fresh_state r.device.reading) × ((datagram_call r area g).area ≡ zeros area_bytes)
unfolding restarted
leaves r area g a = (ap (λ (o : Outcome). o.state) (done r area g a), ap (λ (o : Outcome). o.area) (done r area g a))

disarms : (reading : ℕ) → (fresh_state reading).device.mechanism ≡ disarmed
unfolding fresh_state fresh_of
disarms reading = refl

once : (reading : ℕ) (area g : List ℕ) → ¬ Resets (fresh_state reading) area g
once reading area g a =
    let armed = (only_key (fresh_state reading) area g a).armed in
    let k : (fresh_state reading).device.mechanism.armed ≡ false = ap (λ (m : Mechanism). m.armed) (disarms reading) in
    clash ⊥ (fresh_state reading).device.mechanism.armed armed k

anew : (r : Record) (area g : List ℕ) (cs : List HostCall) → Resets r area g
    → run_calls r area (ask (datagram g) ∷ cs)
    ≡ ((run_calls (fresh_state r.device.reading) (zeros area_bytes) cs).0, restarted r ∷ (run_calls (fresh_state r.device.reading) (zeros area_bytes) cs).1)
unfolding run_calls call_of restarted
anew r area g cs a = rw (done r area g a) refl

nobody : (d : Device) (h : Held) (g : List ℕ) → datagrams.resets d.mechanism g ≡ true
    → let one = ask (datagram g) ∷ [] in
    ((by_rules d h one).0 ≡ fresh_of d.reading) × (bytes_waiting d h one ≡ none_held)
unfolding turns_of turn_of device_by wholes_in rules rule reset_by only
nobody d h g m = (rw m refl, none (datagrams.resets d.mechanism g) m)
  where
    none : (b : Bool) → b ≡ true → only (λ n. live_at (reset_by b d).0.connections n) h ≡ none_held
    none true e = fun_ext λ n. rw (fresh_shut d.reading n)
    none false e = absurd (true≢false (sym e))

pub reset_by_key : ResetByKey
reset_by_key =
    record {
      resets = resets;
      only = only_key;
      long = λ r area g l a. resets_exactly.long r.device.mechanism g l (way r area g a).match;
      leaves = leaves;
      disarms = disarms;
      once = once;
      otherwise = stays;
      refused_record = bad;
      refused_area = spoilt;
      nothing = nothing;
      anew = anew;
      nobody = nobody;
      shut_all = fresh_shut;
    }

-- ---- after a reset
unheld : (r : Record) (area g : List ℕ) → Resets r area g → (at : ℕ) → get_or (datagram_call r area g).state.device.holders at 0 ≡ 0
unfolding fresh_state
unheld r area g a at = ap (λ (x : Record). get_or x.device.holders at 0) (leaves r area g a).0 ∙ fresh_free r.device.reading at

-- a lock that gets status 0 is held by whom asked
lock_holder : (d : Device) (k at : ℕ) → k < 8 → at < length d.holders → at < 8 → lock_status d k at ≡ 0
    → get_or (commands.run_of d k (4097 + at) lock_method 0 []).device.holders at 0 ≡ k + 1
unfolding owner_of failed_of
lock_holder d k at l h e s = go (is_other (get_or d.holders at 0) k) refl
  where
    go : (b : Bool) → is_other (get_or d.holders at 0) k ≡ b → get_or (commands.run_of d k (4097 + at) lock_method 0 []).device.holders at 0 ≡ k + 1
    go true q =
        let w : lock_status d k at ≡ 3 = ap (λ (x : Ran). x.answer.status) (sym (lock_other d k at e (is_other (get_or d.holders at 0) k) refl q (failed_of 3) refl)) in
        absurd (omega (arith, s, w))
    go false q =
        ap (λ (x : Ran). get_or x.device.holders at 0) (sym (lock_done d k at e (is_other (get_or d.holders at 0) k) refl q (k + 1) (rw (lt-ltb k 8 l)) (answer_with []) refl))
        ∙ get_or-set_same d.holders at (k + 1) 0 h

first_asks : (r : Record) (area g : List ℕ) (cs : List HostCall) → Resets r area g → AllBytes cs → (k at : ℕ) → at < 8
    → nobody_asks at (wholes_of (fresh_of r.device.reading) none_held cs) ≡ true
    → lock_status (run_calls r area (ask (datagram g) ∷ cs)).0.0.device k at ≡ 0
first_asks r area g cs e b k at h a =
    free_locks _ k at h
    (ap (λ (x : (Record × List ℕ) × List Outcome). get_or x.0.0.device.holders at 0) (anew r area g cs e) ∙ calls_free r.device.reading cs b at a)

pub rack_free_again : RackFreeAgain
rack_free_again =
    record {
      unheld = unheld;
      free = λ r area g a k at h. free_locks (datagram_call r area g).state.device k at h (unheld r area g a at);
      first = first_asks;
      holds = λ d k j at l h e s n. locked_out_lem _ k j at n h (lock_holder d k at l (omega arith) h s);
    }
