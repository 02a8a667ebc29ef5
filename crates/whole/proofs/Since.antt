-- MessagesOfBytes: the messages handed to the rules are those of the bytes taken. Assumes nothing.
use Rattle.std.specs.Prelude.{Option, Some, None}
use Prim.Native.Nat.{ℕ, zero, suc, ◌-◌, ◌^◌}
use mathlib.Core.Path.{◌≡◌, refl, sym, ap, ◌∙◌}
use mathlib.Core.Bool.{Bool, cond, true, false, not, ◌&&◌, true≢false}
use mathlib.Core.List.{List, [], ◌∷◌, ◌++◌, map, append-nil}
use native.Mathlib.Omega.{arith}
use lib.Dec.{ltb, leb, eqb}
use lib.ListN.{length, get_or, take, drop, set, get_or-map}
use lib.Seq.{get_or-set_other, length-take-le, take-length, drop-length, drop-append_seam}
use borrow.Author.Tests.{eq-eqb, ne_eqb, eqb-true, eqb-false, ltb-true, lt-ltb}
use Rattle.laws.specs.Lists.{any}
use Rattle.laws.proofs.Conds.{either, and_left}
use Rattle.laws.proofs.Tables.{any_index}
use Rattle.octets.specs.Zeros.{zeros}
use Rattle.octets.specs.Same.{same_bytes}
use Rattle.frame.specs.Decide.{decide, taken, settled}
use Rattle.frame.specs.declared.Decision.{Decision}
use Rattle.frame.specs.declared.Decision.TheVariants.{Undecided, Faulty, Sound}
use Rattle.frame.proofs.Ways.{deciding, unsettled}
use Rattle.frame.proofs.Bytes.{nil_waits, glued}
use Rattle.split.specs.Split.{parts, messages_then, split_of, decides_sound}
use Rattle.split.specs.Exactly.{AllSound}
use Rattle.split.proofs.Splits.{split_none, split_more, split_one, sound_more}
use Rattle.area.specs.Area.{area_bytes}
use Rattle.mechanism.specs.Datagram.{resets}
use Rattle.connection.specs.State.{closed, opened, live_at, is_not_open, lowest_free, lowest_due}
use Rattle.connection.specs.Supervision.{closes_at, connection_ticked}
use Rattle.connection.specs.declared.Connection.{Connection}
use Rattle.connection.proofs.Keeps.{supervision_kept}
use Rattle.subscription.specs.State.{lowest_waiting}
use Rattle.device.specs.State.{fresh_of, open_of, close_of, sweep_of, sent_at}
use Rattle.device.specs.Time.{Ticked, step_of, tick_step, tick_of}
use Rattle.device.specs.declared.Device.{Device}
use Rattle.serve.specs.Sound.{sound_of}
use Rattle.taking.specs.Dispatch.{notified_of}
use Rattle.taking.proofs.Takes.{index_meets}
use Rattle.replies.specs.Bytes.{least_output}
use Rattle.stream.specs.Calls.{deliver, ask, handed, asked, Held, none_held, put, only, rules, AllBytes}
use Rattle.stream.proofs.Lent.{Small, put_same, put_other, get_d_counted, undecided_flat}
use Rattle.answers.specs.Numbers.{opening_numbers}
use Rattle.numbers.specs.Refusal.{refusal_numbers}
use Rattle.numbers.specs.declared.Refusal.TheVariants as refusals
use Rattle.endpoint.specs.State.{fresh_state}
use Rattle.endpoint.specs.Outcome.{Outcome}
use Rattle.endpoint.specs.declared.Record.{Record}
use Rattle.endpoint.proofs.States.{live_low}
use Rattle.promise.specs.Rulebook as rulebook
use Rattle.promise.specs.Rulebook.{Ask, opening, closing, ticking, taking, datagram, Asked, Given, message_by, open_by, close_by, reset_by, rule, open?, admit}
use Rattle.promise.specs.Calls.{HostCall, run_calls, with_taken, record_with, area_with}
use Rattle.promise.specs.Kept.{held_in, Kept}
use Rattle.promise.specs.Whole.{up_to, Turn, tells, hands, turn_by, turn_of, device_by, turns_of, wholes_in, with_bytes, told_in, host_sees, wholes_of, by_rules, host_told, bytes_waiting, AsRules}
use Rattle.whole.specs.Since.{opens_number, taken_part, taken_after, taken_since, handed_after, handed_since, SplitAlike, added_by, wholes_told, SaidOfBytes, MessagesOfBytes}
use Rattle.promise.proofs.OpenConnections.{live_closed, live_gone, live_alike, live_sound, lives_sent, lives_notified, fresh_shut}
use Rattle.promise.proofs.Ways.{take_ways}
use Rattle.promise.proofs.DeviceLaws.{admit_live, ticked_closed}
use Rattle.promise.proofs.HeldBytes.{kept_good}
use Rattle.promise.proofs.Kept.{calls_keep}
use Rattle.promise.proofs.Whole.{up_waits, up_decides, demand_three}

-- ---- who is open after a call was open before, or is opened by it

-- a tick opens none
tick_back : (d : Device) (reading n : ℕ) → live_at (tick_of d reading).device.connections n ≡ true → live_at d.connections n ≡ true
unfolding tick_step sweep_of live_at
tick_back d reading n =
    let step = step_of reading d.reading in
    either P (leb (2 ^ 31) step) _ _ (λ l. l) (λ l. ticked step l)
  where
    P : Ticked → Type 0
    P t = (get_or t.device.connections n closed).live ≡ true → (get_or d.connections n closed).live ≡ true

    ticked : (step : ℕ) → (get_or (map (connection_ticked step) d.connections) n closed).live ≡ true → (get_or d.connections n closed).live ≡ true
    ticked step l =
        let c = get_or d.connections n closed in
        let g : get_or (map (connection_ticked step) d.connections) n closed ≡ connection_ticked step c =
        ap (λ (z : Connection). get_or (map (connection_ticked step) d.connections) n z) (sym (ticked_closed step)) ∙ get_or-map (connection_ticked step) d.connections n closed in
        and_left c.live (not (closes_at step c)) (sym (supervision_kept.leaving step c) ∙ ap (λ (z : Connection). z.live) (sym g) ∙ l)

-- nor does a closure
close_back : (d : Device) (c n : ℕ) → live_at (close_of d c).connections n ≡ true → live_at d.connections n ≡ true
close_back d c n l = go (eqb n c) refl
  where
    go : (b : Bool) → eqb n c ≡ b → live_at d.connections n ≡ true
    go true e = absurd (true≢false (sym l ∙ rw (eqb-true n c e) (live_gone d c)))
    go false e = sym (live_closed d c n e) ∙ l

message_back_lem : (d : Device) (k : ℕ) (m out : List ℕ) (n : ℕ) (x : Decision) → live_at (message_by x d k m out).0.connections n ≡ true → live_at d.connections n ≡ true
unfolding message_by
message_back_lem d k m out n Undecided l = l
message_back_lem d k m out n (Faulty f t) l = close_back d k n l
message_back_lem d k m out n (Sound t) l = sym (live_sound d k m n) ∙ l

-- an opening that gives number i opens a connection that was not open, and no other
record Opens (d : Device) (i : ℕ) : Type 0 where
  free : live_at d.connections i ≡ false
  others : (k : ℕ) → eqb i k ≡ false → live_at (open_of d).device.connections k ≡ true → live_at d.connections k ≡ true

opened_new : (d : Device) (i : ℕ) → (open_of d).answer ≡ Some i → Opens d i
unfolding open_of
opened_new d i = go (any is_not_open d.connections) refl
  where
    not_live : (b : Bool) → not b ≡ true → b ≡ false
    not_live true e = absurd (true≢false (sym e))
    not_live false e = refl

    found : any is_not_open d.connections ≡ true → lowest_free d.connections ≡ i → live_at d.connections i ≡ false
    found b e =
        unfold live_at is_not_open in
        not_live _
        (rw e at
        (index_meets is_not_open d.connections closed
        (ltb-true (lowest_free d.connections) (length d.connections) (sym (any_index is_not_open d.connections) ∙ b))))

    go : (b : Bool) → any is_not_open d.connections ≡ b → (open_of d).answer ≡ Some i → Opens d i
    go true b e =
        let q : Some (lowest_free d.connections) ≡ Some i = rw b at e in
        let j : lowest_free d.connections ≡ i = cc in
        record { free = found b j; others = λ k x l. other j k x (rw b at l) }
      where
        other : lowest_free d.connections ≡ i → (k : ℕ) → eqb i k ≡ false
            → live_at (set d.connections (lowest_free d.connections) opened) k ≡ true → live_at d.connections k ≡ true
        other j k x l =
            unfold live_at in
            sym (ap (λ (c : Connection). c.live) (get_or-set_other d.connections (lowest_free d.connections) k opened closed (λ q. eqb-false i k x (sym (q ∙ j))))) ∙ l
    go false b e = let q : None ≡ Some i = rw b at e in absurd (let z : ◌≡◌ {A = ℕ} 0 1 = cc in omega arith)

-- ---- what stands of one connection

-- the bytes of connection n taken since its opening, and the messages handed over
record Stands (d : Device) (h : Held) (n : ℕ) (bytes : List ℕ) (ms : List (List ℕ)) : Type 0 where
  same : ms ≡ (split_of bytes).messages
  sound : open? d n ≡ true → AllSound (split_of bytes).messages
  left : open? d n ≡ true → (split_of bytes).left ≡ h n

-- the bytes that wait are undecided, and a closed connection has none
record Waits (d : Device) (h : Held) : Type 0 where
  undecided : (n : ℕ) → settled (decide (h n)) ≡ false
  none : (n : ℕ) → open? d n ≡ false → h n ≡ []

only_open : (t : ℕ → Bool) (h : Held) (n : ℕ) → t n ≡ true → only t h n ≡ h n
unfolding only
only_open t h n e = rw e

only_waits : (e : Device) (g : Held) → ((n : ℕ) → settled (decide (g n)) ≡ false) → Waits e (only (open? e) g)
unfolding only
only_waits e g u = record { undecided = λ n. go n (open? e n); none = λ n z. rw z }
  where
    go : (n : ℕ) (b : Bool) → settled (decide (cond b (g n) [])) ≡ false
    go n true = u n
    go n false = nil_waits

stands_first : (d : Device) (h : Held) (n : ℕ) → settled (decide (h n)) ≡ false → Stands d h n (h n) []
stands_first d h n u =
    let x = split_none (h n) (unsettled (decide (h n)) u) in
    record { same = rw x; sound = λ l. rw x; left = λ l. rw x }

module _ {d : Device} {h : Held} {n : ℕ} {bytes : List ℕ} {ms : List (List ℕ)} (s : Stands d h n bytes ms) where
  -- nothing of it was taken
  stay : (e : Device) (g : Held) → (open? e n ≡ true → open? d n ≡ true) → (open? e n ≡ true → g n ≡ h n) → Stands e g n bytes ms
  stay e g f q = record { same = s.same; sound = λ l. s.sound (f l); left = λ l. s.left (f l) ∙ sym (q l) }

  module _ (live : open? d n ≡ true) (p : List ℕ) where
    behind : split_of (bytes ++ p) ≡ messages_then (split_of bytes).messages (split_of (h n ++ p))
    behind = rw (s.left live) at (split_more bytes p (s.sound live))

    -- bytes that decide nothing
    more : (g : Held) → g n ≡ h n ++ p → settled (decide (h n ++ p)) ≡ false → Stands d g n (bytes ++ p) ms
    more g q u =
        let x : split_of (bytes ++ p) ≡ parts (split_of bytes).messages (h n ++ p) =
        behind ∙ rw (split_none (h n ++ p) (unsettled (decide (h n ++ p)) u), append-nil (split_of bytes).messages) in
        record { same = rw x s.same; sound = λ l. rw x (s.sound live); left = λ l. rw x (sym q) }

    -- bytes up to the deciding one of m
    message : (e : Device) (g : Held) (m : List ℕ) → m ≡ h n ++ p → settled (decide m) ≡ true → taken (decide m) ≡ length m → g n ≡ []
        → (open? e n ≡ true → decides_sound (decide m) ≡ true) → Stands e g n (bytes ++ p) (ms ++ (m ∷ []))
    message e g m w u k q f =
        let x : split_of (bytes ++ p) ≡ parts ((split_of bytes).messages ++ (m ∷ [])) [] = behind ∙ rw (← w, split_one m u k) in
        record {
          same = rw (x, s.same);
          sound = λ l. rw x (sound_more (split_of bytes).messages m (s.sound live) (f l));
          left = λ l. rw x (sym q);
        }

-- ---- the bytes up to the deciding one

module _ (bytes piece : List ℕ) (u : settled (decide bytes) ≡ false) where
  abbrev upto : List ℕ
  upto = up_to bytes piece

  -- undecided they are all
  up_all : settled (decide upto) ≡ false → upto ≡ bytes ++ piece
  up_all e = go (settled (decide (bytes ++ piece))) refl
    where
      go : (b : Bool) → settled (decide (bytes ++ piece)) ≡ b → upto ≡ bytes ++ piece
      go false z = up_waits bytes piece z
      go true z =
          let x = up_decides bytes piece u z in
          absurd (true≢false (sym z ∙ ap settled (sym (deciding.enough (bytes ++ piece) z)) ∙ ap (λ (y : List ℕ). settled (decide y)) (sym x) ∙ e))

  record Up : Type 0 where
    exact : taken (decide upto) ≡ length upto
    glue : upto ≡ bytes ++ take (length upto - length bytes) piece

  up_some : settled (decide upto) ≡ true → Up
  up_some e = go (settled (decide (bytes ++ piece))) refl
    where
      go : (b : Bool) → settled (decide (bytes ++ piece)) ≡ b → Up
      go false z = absurd (true≢false (sym e ∙ ap (λ (y : List ℕ). settled (decide y)) (up_waits bytes piece z) ∙ z))
      go true z =
          let k = taken (decide (bytes ++ piece)) in
          let x = up_decides bytes piece u z in
          let l : length upto ≡ k = ap length x ∙ length-take-le k (bytes ++ piece) (deciding.within (bytes ++ piece)) in
          record {
            exact = ap (λ (y : List ℕ). taken (decide y)) x ∙ ap taken (deciding.enough (bytes ++ piece) z) ∙ sym l;
            glue = x ∙ glued bytes piece u z ∙ ap (λ (j : ℕ). bytes ++ take (j - length bytes) piece) (sym l);
          }

-- ---- one turn

-- what the host is told of a turn
told_of : Device → Turn → Given
told_of d (tells g) = g
told_of d (hands k w) = with_bytes k w (rule d w).1

-- the messages of connection n handed over after it
handed_turn : ℕ → Device → Turn → List (List ℕ) → List (List ℕ)
handed_turn n d (tells g) ms = ms
handed_turn n d (hands k w) ms = handed_after n w (rule d w).1.answer ms

-- the answers of an opening
number_opens : (n i : ℕ) → opens_number n (opening_numbers i) ≡ eqb i n
unfolding opens_number same_bytes
number_opens n i = rw (eq-eqb 0 0 refl) (go (eqb i n))
  where
    go : (b : Bool) → (b && true) ≡ b
    go true = refl
    go false = refl

full_opens : (n : ℕ) → opens_number n (refusal_numbers refusals.TableFull) ≡ false
unfolding opens_number same_bytes
full_opens n = rw (ne_eqb 5 0 (λ e. omega arith))

module _ (d : Device) (h : Held) (w : Waits d h) (n : ℕ) (bytes : List ℕ) (ms : List (List ℕ)) (s : Stands d h n bytes ms) where
  -- no byte was taken
  refused_turn : (v : Bool) → Stands d (only (open? d) h) n (cond v (bytes ++ []) bytes) ms
  refused_turn true = rw (append-nil bytes) (stay s d (only (open? d) h) (λ l. l) (λ l. only_open (open? d) h n l))
  refused_turn false = stay s d (only (open? d) h) (λ l. l) (λ l. only_open (open? d) h n l)

  module _ (k : ℕ) (piece out : List ℕ) where
    abbrev m : List ℕ
    m = up_to (h k) piece

    live_at_lem : admit d k out ≡ 0 → eqb k n ≡ true → open? d n ≡ true
    live_at_lem a v = rw (eqb-true k n v) at (admit_live d k out a)

    -- all bytes taken, and none decides
    more_turn : admit d k out ≡ 0 → settled (decide m) ≡ false → (v : Bool) → eqb k n ≡ v
        → Stands d (only (open? d) (put h k m)) n (cond v (bytes ++ take (length piece) piece) bytes) ms
    more_turn a u true v =
        let q = eqb-true k n v in
        let l = live_at_lem a v in
        let x : m ≡ h n ++ piece = up_all (h k) piece (w.undecided k) u ∙ ap (λ (j : ℕ). h j ++ piece) q in
        let g : only (open? d) (put h k m) n ≡ h n ++ piece = only_open (open? d) (put h k m) n l ∙ ap (λ (j : ℕ). put h k m j) (sym q) ∙ put_same h k m ∙ x in
        rw (take-length piece) (more s l piece (only (open? d) (put h k m)) g (ap (λ (y : List ℕ). settled (decide y)) (sym x) ∙ u))
    more_turn a u false v =
        stay s d (only (open? d) (put h k m)) (λ l. l)
        (λ l. only_open (open? d) (put h k m) n l ∙ put_other h k m n (λ q. eqb-false k n v (sym q)))

    -- a message handed over, after which the device is e
    hand_turn : (e : Device) → admit d k out ≡ 0 → settled (decide m) ≡ true → (open? e n ≡ true → open? d n ≡ true)
        → (open? e k ≡ true → decides_sound (decide m) ≡ true) → (v : Bool) → eqb k n ≡ v
        → Stands e (only (open? e) (put h k [])) n (cond v (bytes ++ take (length m - length (h k)) piece) bytes) (cond v (ms ++ (m ∷ [])) ms)
    hand_turn e a u f z true v =
        let q = eqb-true k n v in
        let l = live_at_lem a v in
        let x = up_some (h k) piece (w.undecided k) u in
        let y : m ≡ h n ++ take (length m - length (h k)) piece = x.glue ∙ ap (λ (j : ℕ). h j ++ take (length m - length (h k)) piece) q in
        message s l (take (length m - length (h k)) piece) e (only (open? e) (put h k [])) m y u x.exact (none_left q) (λ o. z (ap (open? e) q ∙ o))
      where
        none_left : k ≡ n → only (open? e) (put h k []) n ≡ []
        none_left q = unfold only in go (open? e n)
          where
            go : (b : Bool) → cond b (put h k [] n) [] ≡ []
            go true = ap (put h k []) (sym q) ∙ put_same h k []
            go false = refl
    hand_turn e a u f z false v =
        stay s e (only (open? e) (put h k [])) f
        (λ l. only_open (open? e) (put h k []) n l ∙ put_other h k [] n (λ q. eqb-false k n v (sym q)))

    -- by what m decides
    by_message : (x : Decision) → decide m ≡ x → settled x ≡ true → admit d k out ≡ 0
        → let t = message_by x d k m out in
        Stands t.0 (only (open? t.0) (put h k [])) n
        (cond (eqb k n) (bytes ++ take (get_or (with_taken (length m - length (h k)) t.1.answer) 2 0) piece) bytes)
        (cond (eqb k n) (ms ++ (m ∷ [])) ms)
    unfolding message_by with_taken settled decides_sound
    by_message Undecided e u a = absurd (true≢false (sym u))
    by_message (Faulty f j) e u a =
        hand_turn (close_of d k) a (ap settled e) (close_back d k n) (λ l. absurd (true≢false (sym l ∙ live_gone d k))) (eqb k n) refl
    by_message (Sound j) e u a =
        hand_turn (sound_of d k m).device a (ap settled e) (λ l. sym (live_sound d k m n) ∙ l) (λ l. ap decides_sound e) (eqb k n) refl

    deliver_turn : (q : ℕ) → admit d k out ≡ q → (b : Bool) → settled (decide m) ≡ b
        → let t = turn_by q b h k m piece out in
        let e = device_by d t.0 in
        Stands e (only (open? e) t.1) n (taken_after n (deliver k piece out) (told_of d t.0).answer bytes) (handed_turn n d t.0 ms)
    unfolding turn_by device_by told_of handed_turn taken_after taken_part handed_after with_bytes rule
    deliver_turn (suc q) a b u = refused_turn (eqb k n)
    deliver_turn zero a false u = more_turn a u (eqb k n) refl
    deliver_turn zero a true u = by_message (decide m) refl u a

  -- a call that opens no connection
  still_turn : (e : Device) → (open? e n ≡ true → open? d n ≡ true) → Stands e (only (open? e) h) n bytes ms
  still_turn e f = stay s e (only (open? e) h) f (λ l. only_open (open? e) h n l)

  -- connection i was opened
  opened_turn : (i : ℕ) → Opens d i → (v : Bool) → eqb i n ≡ v
      → let e = (open_of d).device in
      Stands e (only (open? e) h) n (cond v [] bytes) (cond v [] ms)
  opened_turn i o true v =
      let e = (open_of d).device in
      let z : h n ≡ [] = w.none n (ap (live_at d.connections) (sym (eqb-true i n v)) ∙ o.free) in
      let x = split_none [] (unsettled (decide []) nil_waits) in
      record { same = rw x; sound = λ l. rw x; left = λ l. rw x (sym (only_open (open? e) h n l ∙ z)) }
  opened_turn i o false v = still_turn (open_of d).device (o.others n v)

  abbrev Asks : Ask → Type 0
  Asks a =
      let t = rule d (asked a) in
      Stands t.0 (only (open? t.0) h) n (taken_after n (ask a) t.1.answer bytes) (handed_after n (asked a) t.1.answer ms)

  ask_turn : (a : Ask) → Asks a
  unfolding rule taken_after handed_after open_by close_by rulebook.tick_by reset_by
  ask_turn opening = go (open_of d).answer refl
    where
      go : (x : Option ℕ) → (open_of d).answer ≡ x
          → let t = open_by x d (open_of d).device in
          Stands t.0 (only (open? t.0) h) n (cond (opens_number n t.1.answer) [] bytes) (cond (opens_number n t.1.answer) [] ms)
      go (Some i) e = rw (number_opens n i) (opened_turn i (opened_new d i e) (eqb i n) refl)
      go None e = rw (full_opens n) (still_turn d (λ l. l))
  ask_turn (closing k) = go (live_at d.connections k)
    where
      go : (b : Bool) → let t = close_by b d k in Stands t.0 (only (open? t.0) h) n bytes ms
      go true = still_turn (close_of d k) (close_back d k n)
      go false = still_turn d (λ l. l)
  ask_turn (ticking reading) = go (tick_of d reading).answer
    where
      go : (x : Option ℕ) → let t = rulebook.tick_by x d (tick_of d reading).device in Stands t.0 (only (open? t.0) h) n bytes ms
      go (Some mask) = still_turn (tick_of d reading).device (tick_back d reading n)
      go None = still_turn d (λ l. l)
  ask_turn (taking out) =
      let i = lowest_waiting d.subscriptions in
      let j = lowest_due d.connections in
      take_ways (λ (e : Device). Stands e (only (open? e) h) n bytes ms) d out (ltb (length out) least_output) (still_turn d (λ l. l))
      (still_turn (notified_of d i) (λ l. sym (live_alike d (notified_of d i) n (lives_notified d i)) ∙ l))
      (still_turn (sent_at d j) (λ l. sym (live_alike d (sent_at d j) n (lives_sent d j)) ∙ l))
  ask_turn (datagram g) = go (resets d.mechanism g)
    where
      go : (b : Bool) → let t = reset_by b d in Stands t.0 (only (open? t.0) h) n bytes ms
      go true = still_turn (fresh_of d.reading) (λ l. absurd (true≢false (sym l ∙ fresh_shut d.reading n)))
      go false = still_turn d (λ l. l)

  -- ANY CALL'S TURN
  turn_stands : (c : HostCall)
      → let t = turn_of d h c in
      let e = device_by d t.0 in
      Stands e (only (open? e) t.1) n (taken_after n c (told_of d t.0).answer bytes) (handed_turn n d t.0 ms)
  unfolding turn_of device_by told_of handed_turn with_bytes
  turn_stands (deliver k piece out) = deliver_turn k piece out (admit d k out) refl (settled (decide (up_to (h k) piece))) refl
  turn_stands (ask a) = ask_turn a

-- the bytes that then wait are undecided
turn_undecided : (d : Device) (h : Held) → Waits d h → (c : HostCall) (n : ℕ) → settled (decide ((turn_of d h c).1 n)) ≡ false
unfolding turn_of
turn_undecided d h w (deliver k piece out) n = go (admit d k out) (settled (decide (up_to (h k) piece))) refl
  where
    putting : (x : List ℕ) → settled (decide x) ≡ false → settled (decide (put h k x n)) ≡ false
    putting x u = unfold put in by (eqb n k)
      where
        by : (b : Bool) → settled (decide (cond b x (h n))) ≡ false
        by true = u
        by false = w.undecided n

    go : (q : ℕ) (b : Bool) → settled (decide (up_to (h k) piece)) ≡ b → settled (decide ((turn_by q b h k (up_to (h k) piece) piece out).1 n)) ≡ false
    go (suc q) b u = unfold turn_by in w.undecided n
    go zero false u = unfold turn_by in putting (up_to (h k) piece) u
    go zero true u = unfold turn_by in putting [] nil_waits
turn_undecided d h w (ask a) n = w.undecided n

-- ---- turn after turn

-- the bytes taken, by what the host sees
taken_from : ℕ → List ℕ → List HostCall → List Given → List ℕ
taken_from n before [] given = before
taken_from n before (c ∷ calls) [] = before
taken_from n before (c ∷ calls) (o ∷ given) = taken_from n (taken_after n c o.answer before) calls given

taken_sees : (n : ℕ) (before : List ℕ) (calls : List HostCall) (os : List Outcome) → taken_since n before calls os ≡ taken_from n before calls (map host_sees os)
unfolding taken_since taken_from
taken_sees n before [] os = refl
taken_sees n before (c ∷ calls) [] = refl
taken_sees n before (c ∷ calls) (o ∷ os) = taken_sees n (taken_after n c o.answer before) calls os

module _ (d : Device) (turns : List Turn) where
  then_device : (t : Turn) → (rules rule d (wholes_in (t ∷ turns))).0 ≡ (rules rule (device_by d t) (wholes_in turns)).0
  unfolding rules wholes_in device_by
  then_device (tells g) = refl
  then_device (hands k w) = refl

  then_told : (t : Turn) → told_in (t ∷ turns) (rules rule d (wholes_in (t ∷ turns))).1 ≡ told_of d t ∷ told_in turns (rules rule (device_by d t) (wholes_in turns)).1
  unfolding rules wholes_in told_in device_by told_of
  then_told (tells g) = refl
  then_told (hands k w) = refl

  then_handed : (n : ℕ) (ms : List (List ℕ)) (t : Turn)
      → handed_since n ms (wholes_in (t ∷ turns)) (rules rule d (wholes_in (t ∷ turns))).1
      ≡ handed_since n (handed_turn n d t ms) (wholes_in turns) (rules rule (device_by d t) (wholes_in turns)).1
  unfolding rules wholes_in device_by handed_turn handed_since
  then_handed n ms (tells g) = refl
  then_handed n ms (hands k w) = refl

-- THE RUN, from any device with bytes that wait
run_stands : (n : ℕ) (calls : List HostCall) (d : Device) (h : Held) (bytes : List ℕ) (ms : List (List ℕ)) → Waits d h → Stands d h n bytes ms
    → Stands (by_rules d h calls).0 (bytes_waiting d h calls) n (taken_from n bytes calls (host_told d h calls)) (handed_since n ms (wholes_of d h calls) (by_rules d h calls).1)
unfolding turns_of taken_from
run_stands n [] d h bytes ms w s = unfold rules wholes_in handed_since in s
run_stands n (c ∷ calls) d h bytes ms w s =
    let t = turn_of d h c in
    let e = device_by d t.0 in
    let g = only (open? e) t.1 in
    let turns = (turns_of e g calls).0 in
    rw (then_device d turns t.0, then_told d turns t.0, then_handed d turns n ms t.0)
    (run_stands n calls e g (taken_after n c (told_of d t.0).answer bytes) (handed_turn n d t.0 ms)
    (only_waits e t.1 (turn_undecided d h w c)) (turn_stands d h w n bytes ms s c))

-- ---- the whole calls, turn after turn

-- by what the host sees
wholes_seen : Held → List HostCall → List Given → List Asked
wholes_seen before [] given = []
wholes_seen before (c ∷ calls) [] = []
wholes_seen before (c ∷ calls) (o ∷ given) =
    added_by before c o.answer ++ wholes_seen (λ (n : ℕ). taken_after n c o.answer (before n)) calls given

wholes_sees : (before : Held) (calls : List HostCall) (os : List Outcome) → wholes_told before calls os ≡ wholes_seen before calls (map host_sees os)
unfolding wholes_told wholes_seen
wholes_sees before [] os = refl
wholes_sees before (c ∷ calls) [] = refl
wholes_sees before (c ∷ calls) (o ∷ os) =
    ap (λ (ws : List Asked). added_by before c o.answer ++ ws) (wholes_sees (λ (n : ℕ). taken_after n c o.answer (before n)) calls os)

-- each connection stands so
abbrev AllStand : Device → Held → Held → Type 0
AllStand d h before = (n : ℕ) → Stands d h n (before n) (split_of (before n)).messages

module _ (d : Device) (h : Held) (w : Waits d h) (before : Held) (s : AllStand d h before) where
  -- a delivery adds its message to those of its connection, or none
  delivery_adds : (k : ℕ) (piece out m now : List ℕ) (q : ℕ) (b : Bool)
      → handed_turn k d (turn_by q b h k m piece out).0 (split_of (before k)).messages ≡ (split_of now).messages
      → wholes_in ((turn_by q b h k m piece out).0 ∷ [])
      ≡ map (λ (x : List ℕ). handed k x out) (drop (length (split_of (before k)).messages) (split_of now).messages)
  unfolding turn_by wholes_in handed_turn handed_after
  delivery_adds k piece out m now (suc q) b e = rw (← e, drop-length (split_of (before k)).messages)
  delivery_adds k piece out m now zero false e = rw (← e, drop-length (split_of (before k)).messages)
  delivery_adds k piece out m now zero true e =
      let z : (split_of now).messages ≡ (split_of (before k)).messages ++ (m ∷ []) = sym e ∙ rw (eq-eqb k k refl) in
      rw (z, drop-append_seam (split_of (before k)).messages (m ∷ []))

  turn_adds : (c : HostCall) → wholes_in ((turn_of d h c).0 ∷ []) ≡ added_by before c (told_of d (turn_of d h c).0).answer
  unfolding turn_of added_by
  turn_adds (deliver k piece out) =
      let m = up_to (h k) piece in
      delivery_adds k piece out m _ (admit d k out) (settled (decide m)) (turn_stands d h w k (before k) (split_of (before k)).messages (s k) (deliver k piece out)).same
  turn_adds (ask a) = unfold wholes_in in refl

  turn_all : (c : HostCall)
      → let t = turn_of d h c in
      let e = device_by d t.0 in
      AllStand e (only (open? e) t.1) (λ (n : ℕ). taken_after n c (told_of d t.0).answer (before n))
  turn_all c n =
      let x = turn_stands d h w n (before n) (split_of (before n)).messages (s n) c in
      record { same = refl; sound = x.sound; left = x.left }

then_wholes : (turns : List Turn) (t : Turn) → wholes_in (t ∷ turns) ≡ wholes_in (t ∷ []) ++ wholes_in turns
unfolding wholes_in
then_wholes turns (tells g) = refl
then_wholes turns (hands k w) = refl

run_wholes : (calls : List HostCall) (d : Device) (h before : Held) → Waits d h → AllStand d h before
    → wholes_of d h calls ≡ wholes_seen before calls (host_told d h calls)
unfolding turns_of wholes_seen
run_wholes [] d h before w s = unfold wholes_in in refl
run_wholes (c ∷ calls) d h before w s =
    let t = turn_of d h c in
    let e = device_by d t.0 in
    let g = only (open? e) t.1 in
    let turns = (turns_of e g calls).0 in
    let after : Held = λ (n : ℕ). taken_after n c (told_of d t.0).answer (before n) in
    let ih = run_wholes calls e g after (only_waits e t.1 (turn_undecided d h w c)) (turn_all d h w before s c) in
    then_wholes turns t.0
    ∙ rw (then_told d turns t.0, turn_adds d h w before s c)
    (ap (λ (ws : List Asked). added_by before c (told_of d t.0).answer ++ ws) ih)

-- ---- the real run

-- what the area holds of an open connection
held_waiting : (r : Record) (area : List ℕ) (n : ℕ) (e : Device) (h : Held) → Kept r area → open? r.device n ≡ true → r ≡ record_with e h
    → area ≡ area_with h → ((k : ℕ) → settled (decide (h k)) ≡ false) → h n ≡ held_in r area n
unfolding held_in
held_waiting r area n e h kept live q a u =
    let low = live_low r.device.connections n 8 live kept.eight in
    let x : get_or r.held n 0 ≡ length (h n) = ap (λ (z : Record). get_or z.held n 0) q ∙ get_d_counted h 8 n low in
    rw (lt-ltb n 8 low, x, a) (sym (undecided_flat h 8 n small low))
  where
    small : Small h
    small k = omega (arith, deciding.short (h k) (unsettled (decide (h k)) (u k)))

-- refusals 1 and 2 do not apply at the end
run_kept : (calls : List HostCall) (r : Record) (area : List ℕ) → Kept r area → AllBytes calls
    → Kept (run_calls r area calls).0.0 (run_calls r area calls).0.1
unfolding run_calls AllBytes
run_kept [] r area k b = k
run_kept (c ∷ calls) r area k b = run_kept calls _ _ (calls_keep.calling r area c b.0 k) b.1

said_of_bytes : (d : Device) (h : Held) (calls : List HostCall) (run : (Record × List ℕ) × List Outcome) → Waits d h → AsRules d h calls run
    → Kept run.0.0 run.0.1 → SaidOfBytes d h calls run
said_of_bytes d h calls run w a kept =
    record {
      each = each;
      wholes = run_wholes calls d h h w (λ n. first n) ∙ ap (wholes_seen h calls) (sym a.sees) ∙ sym (wholes_sees h calls run.1);
    }
  where
    first : AllStand d h h
    first n = let x = stands_first d h n (w.undecided n) in record { same = refl; sound = x.sound; left = x.left }

    each : (n : ℕ) → SplitAlike d h calls run n
    each n =
        let s = run_stands n calls d h (h n) [] w (stands_first d h n (w.undecided n)) in
        let q : taken_since n (h n) calls run.1 ≡ taken_from n (h n) calls (host_told d h calls) =
        taken_sees n (h n) calls run.1 ∙ ap (taken_from n (h n) calls) a.sees in
        let o : run.0.0.device ≡ (by_rules d h calls).0 = ap (λ (r : Record). r.device) a.state in
        record {
          messages = s.same ∙ ap (λ (x : List ℕ). (split_of x).messages) (sym q);
          sound = λ l. rw q (s.sound (ap (λ (e : Device). open? e n) (sym o) ∙ l));
          waiting = λ l.
              ap (λ (x : List ℕ). (split_of x).left) q ∙ s.left (ap (λ (e : Device). open? e n) (sym o) ∙ l)
              ∙ held_waiting run.0.0 run.0.1 n (by_rules d h calls).0 (bytes_waiting d h calls) kept l a.state a.area a.undecided;
        }

pub messages_of_bytes : MessagesOfBytes
messages_of_bytes =
    record {
      fresh = λ reading calls b.
          said_of_bytes (fresh_of reading) none_held calls (run_calls (fresh_state reading) (zeros area_bytes) calls)
          (record { undecided = λ n. nil_waits; none = λ n z. refl }) (demand_three.fresh reading calls b)
          (run_kept calls (fresh_state reading) (zeros area_bytes) (calls_keep.fresh reading) b);
      later = λ r area calls k b.
          let good = kept_good r area k in
          said_of_bytes r.device (held_in r area) calls (run_calls r area calls) (record { undecided = good.waiting; none = good.empty })
          (demand_three.later r area calls k b) (run_kept calls r area k b);
    }
