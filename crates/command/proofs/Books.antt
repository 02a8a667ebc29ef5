-- The outcomes of adds, removes and 3.14, in a whole device. Assumes nothing.
use Rattle.std.proofs.Common.{ℕ, suc, ◌+◌, ◌<◌, ◌≤◌, ◌≡◌, refl, sym, ap, ◌∙◌, Bool, true, false, cond, not, List, [], ◌∷◌, length, get_or, set, ltb, arith, Some, None, lt-ltb, le-ltb, ltb-true, ltb-false}
use borrow.Author.Tests.{not-true}
use lib.ListN.{get_or-eq_default}
use lib.Seq.{set-get_or}
use Rattle.std.specs.List.{position, position_or_len}
use Rattle.laws.specs.Lists.{index}
use Rattle.laws.proofs.Conds.{either, and_left, and_right}
use Rattle.laws.proofs.Tables.{clash, get_d_any}
use Rattle.octets.specs.Zeros.{zeros}
use Rattle.frame.specs.Limits.{greatest_context}
use Rattle.mechanism.specs.Arguments.{Arming, arming_of, mechanism_in}
use Rattle.mechanism.specs.declared.Mechanism.{Mechanism}
use Rattle.subscription.specs.Setters.{with_context, without_context}
use Rattle.subscription.specs.State.{free, is_twin, is_unused, twin_at, lowest_unused}
use Rattle.subscription.specs.Arguments.{context_held, subscription_from, is_strange}
use Rattle.subscription.specs.declared.Subscription.{Subscription}
use Rattle.numbers.specs.Status.{status_number}
use Rattle.numbers.specs.declared.Status.{Status}
use Rattle.numbers.proofs.Tables.{failed_by}
use Rattle.objects.specs.Methods.{add_method, remove_method, reset_key_method}
use Rattle.objects.specs.Tests.{is_malformed, context_given, is_add_bad, first_status}
use Rattle.objects.specs.Answers.{Carried, failed_of, answer_with}
use Rattle.objects.proofs.Shapes.{add_held}
use Rattle.device.specs.Setters.{with_subscriptions, with_mechanism}
use Rattle.device.specs.Run.{unchanged, run_of}
use Rattle.device.specs.declared.Device.{Device}
use Rattle.device.proofs.Commands.{add_strange, add_bad, add_twin, add_full, add_done, remove_strange, remove_none, remove_done, arm_bad, arm_done}
use Rattle.device.proofs.Shapes.{add_size, add_formed, remove_formed, arm_formed, run_stopped, run_add, run_remove, run_arm}
use Rattle.command.specs.Booking.{Slot, armed, slot_at, slot_for, slot_found, stored_in, Stores, Arms}

-- ---- the slot
-- what a search finds meets its test
index_meets : {A : Type 0} (p : A → Bool) (l : List A) (d : A) → index p l < length l → p (get_or l (index p l) d) ≡ true
index_meets p [] d h = absurd (omega arith)
index_meets p (x ∷ l) d h = go (p x) refl (λ k. index_meets p l d k) h
  where
    go : (t : Bool) → p x ≡ t → (index p l < length l → p (get_or l (index p l) d) ≡ true) → cond t 0 (suc (index p l)) < suc (length l) → p (get_or (x ∷ l) (cond t 0 (suc (index p l))) d) ≡ true
    go true e more k = e
    go false e more k = more (omega arith)

-- an entry put back where it was
at_same : (entries : List Subscription) (place : ℕ) → stored_in entries (slot_at entries place) ≡ entries
at_same entries place =
    either (λ (l : List Subscription). l ≡ entries) (ltb place 32) (set entries place (get_or entries place free)) entries (set-get_or entries place free) refl

twin_used : (s t : Subscription) → is_twin s t ≡ true → t.used ≡ true
unfolding is_twin
twin_used s t h = and_right s.used _ (and_left _ _ (and_left _ _ (and_left _ _ (and_left _ _ (and_left _ _ h)))))

-- the lowest unused entry, or the free one past the last
room_unused : (entries : List Subscription) → (get_or entries (lowest_unused entries) free).used ≡ false
unfolding is_unused
room_unused entries = go (ltb (lowest_unused entries) (length entries)) refl
  where
    go : (t : Bool) → ltb (lowest_unused entries) (length entries) ≡ t → (get_or entries (lowest_unused entries) free).used ≡ false
    go true e = not-true _ (index_meets is_unused entries free (ltb-true (lowest_unused entries) (length entries) e))
    go false e = ap (λ (s : Subscription). s.used) (get_or-eq_default entries free (ltb-false (lowest_unused entries) (length entries) e))

-- what a slot's entry tells of the search
pub record Twin (entries : List Subscription) (s : Subscription) (place : ℕ) : Type 0 where
  pub here : place ≡ twin_at s entries
  pub low : twin_at s entries < 32

pub record Room (entries : List Subscription) (s : Subscription) (place : ℕ) : Type 0 where
  pub none : 32 ≤ twin_at s entries
  pub here : place ≡ lowest_unused entries

module _ (entries : List Subscription) (l : length entries ≡ 32) (s : Subscription) (slot : Slot) (q : slot ≡ slot_for entries s) where
  slot_twin : ltb (twin_at s entries) 32 ≡ true → slot ≡ slot_at entries (twin_at s entries)
  unfolding slot_for
  slot_twin e = q ∙ rw e

  slot_room : ltb (twin_at s entries) 32 ≡ false → slot ≡ slot_at entries (lowest_unused entries)
  unfolding slot_for
  slot_room e = q ∙ rw e

  used_known : (t : Bool) → ltb (twin_at s entries) 32 ≡ t → slot.entry.used ≡ t
  used_known true e =
      let low : twin_at s entries < length entries = rw l (ltb-true (twin_at s entries) 32 e) in
      ap (λ (x : Slot). x.entry.used) (slot_twin e)
      ∙ twin_used s (get_or entries (twin_at s entries) free) (index_meets (is_twin s) entries free low)
  used_known false e = ap (λ (x : Slot). x.entry.used) (slot_room e) ∙ room_unused entries

  slot_used : slot.entry.used ≡ true → Twin entries s slot.place
  slot_used u = go (ltb (twin_at s entries) 32) refl
    where
      go : (t : Bool) → ltb (twin_at s entries) 32 ≡ t → Twin entries s slot.place
      go true e = record { here = ap (λ (x : Slot). x.place) (slot_twin e); low = ltb-true (twin_at s entries) 32 e }
      go false e = clash _ slot.entry.used u (used_known false e)

  slot_unused : slot.entry.used ≡ false → Room entries s slot.place
  slot_unused u = go (ltb (twin_at s entries) 32) refl
    where
      go : (t : Bool) → ltb (twin_at s entries) 32 ≡ t → Room entries s slot.place
      go true e = clash _ slot.entry.used (used_known true e) u
      go false e = record { none = ltb-false (twin_at s entries) 32 e; here = ap (λ (x : Slot). x.place) (slot_room e) }

-- ---- the slot that is found
index_is : {A : Type 0} (p : A → Bool) (xs : List A) → position_or_len p xs ≡ index p xs
index_is p [] = refl
index_is p (x ∷ xs) = elim (p x) as (λ b. cond (not b) (1 + position_or_len p xs) 0 ≡ cond b 0 (suc (index p xs))) [ true ↦ refl | false ↦ rw (index_is p xs) (omega arith) ]

index_up : {A : Type 0} (p : A → Bool) (xs : List A) → index p xs ≤ length xs
index_up p [] = omega arith
index_up p (x ∷ xs) = elim (p x) as (λ b. cond b 0 (suc (index p xs)) ≤ suc (length xs)) [ true ↦ omega arith | false ↦ omega (arith, index_up p xs) ]

-- what a search hands up
module _ {A : Type 0} (p : A → Bool) (xs : List A) (n : ℕ) (l : length xs ≡ n) where
  place_is : position p xs ≡ cond (ltb (index p xs) n) (Some (index p xs)) None
  place_is = rw (index_is p xs, l) refl

  pub place_some : (i : ℕ) → position p xs ≡ Some i → (i ≡ index p xs) × (i < n)
  place_some i e = go (ltb (index p xs) n) refl (sym place_is ∙ e)
    where
      go : (b : Bool) → ltb (index p xs) n ≡ b → cond b (Some (index p xs)) None ≡ Some i → (i ≡ index p xs) × (i < n)
      go true q s = let w : i ≡ index p xs = cc in (w, rw w (ltb-true (index p xs) n q))
      go false q s = cc

  pub place_none : position p xs ≡ None → n ≤ index p xs
  place_none e = go (ltb (index p xs) n) refl (sym place_is ∙ e)
    where
      go : (b : Bool) → ltb (index p xs) n ≡ b → cond b (Some (index p xs)) None ≡ None → n ≤ index p xs
      go true q s = cc
      go false q s = ltb-false (index p xs) n q

-- the twin, or the room where there is none
module _ (entries : List Subscription) (l : length entries ≡ 32) (s : Subscription) where
  pub found_twin : (i : ℕ) → position (is_twin s) entries ≡ Some i → slot_at entries i ≡ slot_for entries s
  unfolding slot_for
  found_twin i e = let w = place_some (is_twin s) entries 32 l i e in rw (← w.0, lt-ltb i 32 w.1)

  pub found_room : (i : ℕ) → position (is_twin s) entries ≡ None → position is_unused entries ≡ Some i → slot_at entries i ≡ slot_for entries s
  unfolding slot_for
  found_room i e f =
      let w = place_some is_unused entries 32 l i f in
      rw (le-ltb (twin_at s entries) 32 (place_none (is_twin s) entries 32 l e), ← w.0)

  pub found_none : position (is_twin s) entries ≡ None → position is_unused entries ≡ None → slot_found entries None ≡ slot_for entries s
  unfolding slot_for
  found_none e f =
      let w = place_none is_unused entries 32 l f in
      let u : lowest_unused entries ≡ 32 = omega (arith, index_up is_unused entries) in
      let past : length entries ≤ 32 = omega arith in
      rw (le-ltb (twin_at s entries) 32 (place_none (is_twin s) entries 32 l e), u)
      (ap (λ (x : Subscription). record { place = 32; entry = x }) (sym (get_or-eq_default entries free past)))

-- ---- what is left in the entries
module _ (entries : List Subscription) (n m count : ℕ) (part : List ℕ) where
  -- a command that leaves them as they were
  kept : (a : Carried) → ((d : Device) → unchanged (with_subscriptions d entries) a ≡ run_of (with_subscriptions d entries) n 4 m count part) → Stores entries entries n m count part a
  kept a k =
      let e = at_same entries 0 in
      record {
        slot = slot_at entries 0;
        stored = sym e;
        books = record { whole = λ d. ap (λ (es : List Subscription). unchanged (with_subscriptions d es) a) e ∙ k d };
      }

  -- and one that stores an entry
  put : (place : ℕ) → place < 32 → (next : Subscription) → ((d : Device) → unchanged (with_subscriptions d (set entries place next)) (answer_with []) ≡ run_of (with_subscriptions d entries) n 4 m count part)
      → Stores entries (set entries place next) n m count part (answer_with [])
  put place h next k =
      let t = lt-ltb place 32 h in
      record { slot = record { place = place; entry = next }; stored = rw t; books = record { whole = λ d. rw t (k d) } }

-- ---- an add
-- what was not refused has a context that can be held
pub held_fits : (part : List ℕ) → is_malformed add_method 5 part ≡ false → (v : Bool) → v ≡ is_add_bad part → v ≡ false → (context_given part ≤ greatest_context) × (21 + context_given part ≤ length part)
held_fits part f v ev e = (add_held part (sym ev ∙ e), omega (arith, add_size part f))

module _ (entries : List Subscription) (l : length entries ≡ 32) (n : ℕ) (part : List ℕ) (f : is_malformed add_method 5 part ≡ false) (b : Bool) (q : b ≡ is_strange part) where
  pub subscribe_strange : b ≡ true → Stores entries entries n add_method 5 part (failed_of 6)
  subscribe_strange t = kept entries n add_method 5 part (failed_of 6) (λ d. add_strange (with_subscriptions d entries) n part f b q t (failed_of 6) refl)

  module _ (t : b ≡ false) (v : Bool) (ev : v ≡ is_add_bad part) where
    pub subscribe_bad : v ≡ true → Stores entries entries n add_method 5 part (failed_of 7)
    subscribe_bad m = kept entries n add_method 5 part (failed_of 7) (λ d. add_bad (with_subscriptions d entries) n part f b q t v ev m (failed_of 7) refl)

    module _ (m : v ≡ false) (wanted : Subscription) (w : wanted ≡ without_context (subscription_from n part)) where
      pub subscribe_full : slot_found entries None ≡ slot_for entries wanted → Stores entries entries n add_method 5 part (failed_of 10)
      subscribe_full s =
          let room = slot_unused entries l wanted (slot_found entries None) s refl in
          kept entries n add_method 5 part (failed_of 10)
          (λ d. add_full (with_subscriptions d entries) n part f b q t v ev m 0 (zeros greatest_context) wanted w (twin_at wanted entries) refl l room.none 32 room.here (omega arith) (failed_of 10) refl)

      module _ (place : ℕ) (h : place < 32) (s : slot_at entries place ≡ slot_for entries wanted) (x : Subscription) where
        own : (g : Bool) → (get_or entries place x).used ≡ g → (slot_at entries place).entry.used ≡ g
        own g e = let k : place < length entries = omega arith in ap (λ (y : Subscription). y.used) (get_d_any entries place free x k) ∙ e

        pub subscribe_twin : (get_or entries place x).used ≡ true → Stores entries entries n add_method 5 part (failed_of 9)
        subscribe_twin u =
            let twin = slot_used entries l wanted (slot_at entries place) s (own true u) in
            kept entries n add_method 5 part (failed_of 9)
            (λ d. add_twin (with_subscriptions d entries) n part f b q t v ev m 0 (zeros greatest_context) wanted w (twin_at wanted entries) refl l twin.low (failed_of 9) refl)

        pub subscribe_done : (get_or entries place x).used ≡ false → (next : Subscription) → next ≡ with_context wanted (context_given part) (context_held part) → Stores entries (set entries place next) n add_method 5 part (answer_with [])
        subscribe_done u next en =
            let room = slot_unused entries l wanted (slot_at entries place) s (own false u) in
            put entries n add_method 5 part place h next
            (λ d. add_done (with_subscriptions d entries) n part f b q t v ev m 0 (zeros greatest_context) wanted w (twin_at wanted entries) refl l room.none place room.here h next en (answer_with []) refl)

-- ---- a remove
module _ (entries : List Subscription) (l : length entries ≡ 32) (n : ℕ) (part : List ℕ) (f : is_malformed remove_method 2 part ≡ false) (b : Bool) (q : b ≡ is_strange part) where
  pub unsubscribe_strange : b ≡ true → Stores entries entries n remove_method 2 part (failed_of 6)
  unsubscribe_strange t = kept entries n remove_method 2 part (failed_of 6) (λ d. remove_strange (with_subscriptions d entries) n part f b q t (failed_of 6) refl)

  module _ (t : b ≡ false) (wanted : Subscription) (w : wanted ≡ without_context (subscription_from n part)) where
    pub unsubscribe_none : position (is_twin wanted) entries ≡ None → Stores entries entries n remove_method 2 part (failed_of 9)
    unsubscribe_none e =
        kept entries n remove_method 2 part (failed_of 9)
        (λ d. remove_none (with_subscriptions d entries) n part f b q t 0 (zeros greatest_context) wanted w (twin_at wanted entries) refl l (place_none (is_twin wanted) entries 32 l e) (failed_of 9) refl)

    pub unsubscribe_done : (place : ℕ) → position (is_twin wanted) entries ≡ Some place → Stores entries (set entries place free) n remove_method 2 part (answer_with [])
    unsubscribe_done place e =
        let k = place_some (is_twin wanted) entries 32 l place e in
        put entries n remove_method 2 part place k.1 free
        (λ d. remove_done (with_subscriptions d entries) n part f b q t 0 (zeros greatest_context) wanted w place k.0 l k.1 (answer_with []) refl)

-- ---- one command, by its method
module _ (t m count : ℕ) (part : List ℕ) (z : first_status t m count part ≡ 0) where
  pub added_formed : m ≡ add_method → is_malformed add_method 5 part ≡ false
  added_formed e = add_formed t m count part _ refl z e

  pub removed_formed : m ≡ remove_method → is_malformed remove_method 2 part ≡ false
  removed_formed e = remove_formed t m count part _ refl z e

  pub armed_formed : m ≡ reset_key_method → is_malformed reset_key_method 2 part ≡ false
  armed_formed e = arm_formed t m count part _ refl z e

  module _ (d : Device) (n : ℕ) where
    pub ran_add : m ≡ add_method → (after : List Subscription) (a : Carried) → Stores d.subscriptions after n add_method 5 part a → unchanged (with_subscriptions d after) a ≡ run_of d n t m count part
    ran_add e after a s =
        run_add d n t m count part m refl _ refl z e (unchanged (with_subscriptions d after) a)
        (ap (λ (es : List Subscription). unchanged (with_subscriptions d es) a) s.stored ∙ s.books.whole d)

    pub ran_remove : m ≡ remove_method → (after : List Subscription) (a : Carried) → Stores d.subscriptions after n remove_method 2 part a → unchanged (with_subscriptions d after) a ≡ run_of d n t m count part
    ran_remove e after a s =
        run_remove d n t m count part m refl _ refl z e (unchanged (with_subscriptions d after) a)
        (ap (λ (es : List Subscription). unchanged (with_subscriptions d es) a) s.stored ∙ s.books.whole d)

    pub ran_arm : m ≡ reset_key_method → (mechanism : Mechanism) (a : Carried) → Arms d.mechanism 1 2 part (armed mechanism a) → unchanged (with_mechanism d mechanism) a ≡ run_of d n t m count part
    ran_arm e mechanism a s = run_arm d n t m count part m refl _ refl z e (unchanged (with_mechanism d mechanism) a) (s.whole d)

-- ---- 3.14
module _ (mechanism : Mechanism) (part : List ℕ) (f : is_malformed reset_key_method 2 part ≡ false) where
  pub arm_untaken : None ≡ mechanism_in (arming_of part) → Arms mechanism 1 2 part (armed mechanism (failed_of 7))
  arm_untaken e = go (arming_of part) refl (arming_of part).taken refl e
    where
      go : (o : Arming) → o ≡ arming_of part → (b : Bool) → o.taken ≡ b → None ≡ cond b (Some o.mechanism) None → Arms mechanism 1 2 part (armed mechanism (failed_of 7))
      go o q true u e = cc
      go o q false u e = record { whole = λ d n. arm_bad (with_mechanism d mechanism) part f o q n (rw u) (failed_of 7) refl }

  pub arm_taken : (next : Mechanism) → Some next ≡ mechanism_in (arming_of part) → Arms mechanism 1 2 part (armed next (answer_with []))
  arm_taken next e = go (arming_of part) refl (arming_of part).taken refl e
    where
      go : (o : Arming) → o ≡ arming_of part → (b : Bool) → o.taken ≡ b → Some next ≡ cond b (Some o.mechanism) None → Arms mechanism 1 2 part (armed next (answer_with []))
      go o q true u e =
          let w : next ≡ o.mechanism = cc in
          record { whole = λ d n. ap (λ (x : Mechanism). unchanged (with_mechanism d x) (answer_with [])) w ∙ arm_done (with_mechanism d mechanism) part f o q n (rw u) (answer_with []) refl }
      go o q false u e = cc

-- of any object, with any count
module _ (mechanism : Mechanism) (t count : ℕ) (part : List ℕ) where
  pub arm_stopped : (s : Status) → status_number s ≡ first_status t reset_key_method count part → Arms mechanism t count part (armed mechanism (failed_of (status_number s)))
  arm_stopped s e =
      record { whole = λ d n. run_stopped (with_mechanism d mechanism) n t reset_key_method count part reset_key_method refl (status_number s) e (failed_by s) (failed_of (status_number s)) refl }

  pub arm_asked : first_status t reset_key_method count part ≡ 0 → (next : Mechanism) (a : Carried) → Arms mechanism 1 2 part (armed next a) → Arms mechanism t count part (armed next a)
  arm_asked z next a s =
      record { whole = λ d n. run_arm (with_mechanism d mechanism) n t reset_key_method count part reset_key_method refl _ refl z refl (unchanged (with_mechanism d next) a) (s.whole d) }
