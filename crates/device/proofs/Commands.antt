-- Each outcome of a command, from what led to it. Assumes nothing.
use Rattle.std.proofs.Common.{◌≡◌, ℕ, ◌+◌, ◌<◌, ◌≤◌, Bool, true, false, cond, not, eqb, ltb, List, [], ◌∷◌, map, length, get_or, set, sym, refl, ap, ◌∙◌, arith, le-ltb, lt-ltb, eq-eqb, ne_eqb, eqb-true, le-leb}
use Rattle.std.proofs.Math.Bool.{or-false}
use Rattle.std.proofs.lemmas.Bool.{eqb-false, not-true, not-false}
use Rattle.laws.specs.Lists.{any}
use Rattle.laws.proofs.Tables.{any_index, clash}
use Rattle.mechanism.specs.Arguments.{is_untaken, armed_by, arming_of}
use Rattle.mechanism.specs.Arguments.{Arming}
use Rattle.subscription.specs.Setters.{with_context}
use Rattle.subscription.specs.State.{is_twin, is_unused, twin_at, lowest_unused, free, marked_of}
use Rattle.subscription.specs.Arguments.{context_held, subscription_from, is_strange, is_emitter_bad}
use Rattle.subscription.specs.declared.Subscription.{Subscription}
use Rattle.objects.specs.Methods.{is_mute, class_method, lockable_method, lock_method, unlock_method, get_method, set_method, add_method, remove_method, reset_key_method, place_of, is_manager, is_object, is_telling, is_locking, is_muting, is_subscribing, has_method}
use Rattle.objects.specs.Tests.{is_forbidden, count_of, length_of, is_length_bad, is_pair_bad, is_malformed, is_mute_value, context_given, is_add_bad, is_value_bad, first_status}
use Rattle.objects.specs.Answers.{class_of, identification_of, reply_of, failed_of, answer_with}
use Rattle.objects.specs.Answers.{Carried as Answer}
use Rattle.holders.specs.Holders.{owner_of, is_other}
use Rattle.device.specs.Setters.{with_subscriptions, with_mutes, with_holders, with_mechanism}
use Rattle.device.specs.Run.{holder_at, mute_at, is_held_by_other, is_subscribed, is_out_of_turn, is_full, later_status, first_failing, status_of, muted_of, done_of, answer_of, unchanged, ran_by, run_of}
use Rattle.device.specs.declared.Device.{Device}
use Rattle.device.specs.Run.{Ran}

-- ---- a status that stops nothing
pub neither_fails : (first later : ℕ) → first_failing first later ≡ 0 → (first ≡ 0) × (later ≡ 0)
neither_fails first later e = go (eqb first 0) refl e
  where
    go : (t : Bool) → eqb first 0 ≡ t → cond t later first ≡ 0 → (first ≡ 0) × (later ≡ 0)
    go true z f = (eqb-true first 0 z, f)
    go false z f = absurd (eqb-false first 0 z f)

-- ---- from the status to the outcome
pub ran_failed : (d : Device) (n t m count : ℕ) (part : List ℕ) (s : ℕ) → status_of d n t m count part ≡ s → eqb s 0 ≡ false → (a : Answer) → a ≡ failed_of s → unchanged d a ≡ run_of d n t m count part
unfolding run_of ran_by
ran_failed d n t m count part s e z a q = rw (e, z, q)

pub ran_done : (d : Device) (n t m count : ℕ) (part : List ℕ) → status_of d n t m count part ≡ 0 → ◌≡◌ {A = Ran} (record { device = done_of d n t m part; answer = answer_of d t m }) (run_of d n t m count part)
unfolding run_of ran_by
ran_done d n t m count part e = rw e

-- ---- a mute
mute_is : (at : ℕ) → at < 8 → is_mute (4097 + at) ≡ true
unfolding is_mute
mute_is at h = rw (le-leb 4097 (4097 + at) (omega arith), le-leb (4097 + at) 4104 (omega arith))

manager_not : (at : ℕ) → is_manager (4097 + at) ≡ false
unfolding is_manager
manager_not at = rw (ne_eqb (4097 + at) 1 (λ e. omega arith), ne_eqb (4097 + at) 4 (λ e. omega arith))

pub place_of_lem : (at : ℕ) → place_of (4097 + at) ≡ at
unfolding place_of
place_of_lem at = omega arith

module _ (d : Device) (n at : ℕ) (h : at < 8) where
  lock_status_lem : status_of d n (4097 + at) lock_method 0 [] ≡ cond (is_other (get_or d.holders at 0) n) 3 0
  unfolding status_of first_status later_status is_object has_method is_telling is_locking is_forbidden is_malformed count_of length_of is_length_bad is_pair_bad is_held_by_other holder_at is_emitter_bad is_subscribing is_value_bad is_out_of_turn is_full
  lock_status_lem = rw (manager_not at, mute_is at h, place_of_lem at)

  unlock_status : status_of d n (4097 + at) unlock_method 0 [] ≡ cond (is_other (get_or d.holders at 0) n) 3 (cond (eqb (get_or d.holders at 0) 0) 9 0)
  unfolding status_of first_status later_status is_object has_method is_telling is_locking is_forbidden is_malformed count_of length_of is_length_bad is_pair_bad is_held_by_other holder_at is_emitter_bad is_subscribing is_value_bad is_out_of_turn is_full
  unlock_status = simp (manager_not at, mute_is at h, place_of_lem at, or-false)

  pub get_status : status_of d n (4097 + at) get_method 0 [] ≡ 0
  unfolding status_of first_status later_status is_object has_method is_telling is_locking is_muting is_forbidden is_malformed count_of length_of is_length_bad is_pair_bad is_held_by_other is_emitter_bad is_subscribing is_value_bad is_out_of_turn is_full
  get_status = rw (manager_not at, mute_is at h)

  set_status : (v : ℕ) → status_of d n (4097 + at) set_method 1 (v ∷ []) ≡ cond (is_other (get_or d.holders at 0) n) 3 (cond (not (is_mute_value v)) 7 0)
  unfolding status_of first_status later_status is_object has_method is_telling is_locking is_muting is_forbidden is_malformed count_of length_of is_length_bad is_pair_bad is_held_by_other holder_at is_emitter_bad is_subscribing is_value_bad is_out_of_turn is_full
  set_status v = simp (manager_not at, mute_is at h, place_of_lem at, or-false)

  module _ (b : Bool) (q : b ≡ is_other (get_or d.holders at 0) n) where
    pub lock_other : b ≡ true → (a : Answer) → a ≡ failed_of 3 → unchanged d a ≡ run_of d n (4097 + at) lock_method 0 []
    lock_other t a e = ran_failed d n (4097 + at) lock_method 0 [] 3 (lock_status_lem ∙ rw (← q, t)) refl a e

    pub lock_free : b ≡ false → (run_of d n (4097 + at) lock_method 0 []).answer.status ≡ 0
    unfolding answer_of answer_with
    lock_free t = ap (λ (r : Ran). r.answer.status) (sym (ran_done d n (4097 + at) lock_method 0 [] (lock_status_lem ∙ rw (← q, t))))

    pub lock_done : b ≡ false → (o : ℕ) → o ≡ owner_of n → (a : Answer) → a ≡ answer_with [] → ◌≡◌ {A = Ran} (record { device = with_holders d (set d.holders at o); answer = a }) (run_of d n (4097 + at) lock_method 0 [])
    unfolding done_of answer_of reply_of
    lock_done t o p a e = rw (p, e) (does ∙ ran_done d n (4097 + at) lock_method 0 [] (lock_status_lem ∙ rw (← q, t)))
      where
        does : ◌≡◌ {A = Ran} (record { device = with_holders d (set d.holders at (owner_of n)); answer = answer_with [] }) (record { device = done_of d n (4097 + at) lock_method []; answer = answer_of d (4097 + at) lock_method })
        does = rw (place_of_lem at)

    pub unlock_other : b ≡ true → (a : Answer) → a ≡ failed_of 3 → unchanged d a ≡ run_of d n (4097 + at) unlock_method 0 []
    unlock_other t a e = ran_failed d n (4097 + at) unlock_method 0 [] 3 (unlock_status ∙ rw (← q, t)) refl a e

    pub unlock_unheld : b ≡ false → get_or d.holders at 0 ≡ 0 → (a : Answer) → a ≡ failed_of 9 → unchanged d a ≡ run_of d n (4097 + at) unlock_method 0 []
    unlock_unheld t z a e =
        ran_failed d n (4097 + at) unlock_method 0 [] 9 (unlock_status ∙ rw (← q, t, eq-eqb (get_or d.holders at 0) 0 z)) refl a e

    pub unlock_done : b ≡ false → (get_or d.holders at 0 ≡ 0 → ⊥) → (a : Answer) → a ≡ answer_with [] → ◌≡◌ {A = Ran} (record { device = with_holders d (set d.holders at 0); answer = a }) (run_of d n (4097 + at) unlock_method 0 [])
    unfolding done_of answer_of reply_of
    unlock_done t z a e =
        rw e (does ∙ ran_done d n (4097 + at) unlock_method 0 [] (unlock_status ∙ rw (← q, t, ne_eqb (get_or d.holders at 0) 0 z)))
      where
        does : ◌≡◌ {A = Ran} (record { device = with_holders d (set d.holders at 0); answer = answer_with [] }) (record { device = done_of d n (4097 + at) unlock_method []; answer = answer_of d (4097 + at) unlock_method })
        does = rw (place_of_lem at)

    module _ (v : ℕ) where
      pub set_other : b ≡ true → (a : Answer) → a ≡ failed_of 3 → unchanged d a ≡ run_of d n (4097 + at) set_method 1 (v ∷ [])
      set_other t a e = ran_failed d n (4097 + at) set_method 1 (v ∷ []) 3 (set_status v ∙ rw (← q, t)) refl a e

      module _ (t : b ≡ false) (g : Bool) (p : g ≡ is_mute_value v) where
        pub set_bad : not g ≡ true → (a : Answer) → a ≡ failed_of 7 → unchanged d a ≡ run_of d n (4097 + at) set_method 1 (v ∷ [])
        set_bad f a e = ran_failed d n (4097 + at) set_method 1 (v ∷ []) 7 (set_status v ∙ rw (← q, t, ← p, f)) refl a e

        set_does : not g ≡ false → ◌≡◌ {A = Ran} (record { device = muted_of d (4097 + at) v; answer = answer_with [] }) (run_of d n (4097 + at) set_method 1 (v ∷ []))
        unfolding done_of answer_of reply_of
        set_does f = ran_done d n (4097 + at) set_method 1 (v ∷ []) (set_status v ∙ rw (← q, t, ← p, f))

        pub set_same : not g ≡ false → get_or d.mutes at 0 ≡ v → (a : Answer) → a ≡ answer_with [] → unchanged d a ≡ run_of d n (4097 + at) set_method 1 (v ∷ [])
        unfolding muted_of mute_at
        set_same f s a e = rw e (stays ∙ set_does f)
          where
            stays : unchanged d (answer_with []) ≡ record { device = muted_of d (4097 + at) v; answer = answer_with [] }
            stays = rw (place_of_lem at, eq-eqb (get_or d.mutes at 0) v s)

        pub set_changed : not g ≡ false → (get_or d.mutes at 0 ≡ v → ⊥) → (ss : List Subscription) → ss ≡ map (marked_of (4097 + at)) d.subscriptions → (a : Answer) → a ≡ answer_with [] → ◌≡◌ {A = Ran} (record { device = with_mutes (with_subscriptions d ss) (set d.mutes at v); answer = a }) (run_of d n (4097 + at) set_method 1 (v ∷ []))
        unfolding muted_of mute_at
        set_changed f s ss m a e = rw (e, m) (changes ∙ set_does f)
          where
            changes : ◌≡◌ {A = Ran} (record { device = with_mutes (with_subscriptions d (map (marked_of (4097 + at)) d.subscriptions)) (set d.mutes at v); answer = answer_with [] }) (record { device = muted_of d (4097 + at) v; answer = answer_with [] })
            changes = rw (place_of_lem at, ne_eqb (get_or d.mutes at 0) v s)

-- ---- what is told
pub told_class : (t m : ℕ) → m ≡ class_method → (a : Answer) → a ≡ answer_with (identification_of (class_of t)) → (d : Device) → a ≡ answer_of d t m
unfolding answer_of reply_of
told_class t m e a q d = rw (e, q)

module _ (t m : ℕ) (k : is_telling m ≡ true) (n : m ≡ class_method → ⊥) (b : Bool) (q : b ≡ is_mute t) where
  -- what is told by a method that is not 1.1 is 1.2
  told_else : m ≡ lockable_method
  unfolding is_telling
  told_else = eqb-true m lockable_method (rw (ne_eqb m class_method n) at k)

  pub told_lockable : b ≡ true → (a : Answer) → a ≡ answer_with (1 ∷ []) → (d : Device) → a ≡ answer_of d t m
  unfolding answer_of reply_of
  told_lockable s a e d = rw (told_else, e, ← q, s)

  pub told_not_lockable : b ≡ false → (a : Answer) → a ≡ answer_with (0 ∷ []) → (d : Device) → a ≡ answer_of d t m
  unfolding answer_of reply_of
  told_not_lockable s a e d = rw (told_else, e, ← q, s)

pub told_value : (d : Device) (at : ℕ) (a : Answer) → a ≡ answer_with (get_or d.mutes at 0 ∷ []) → unchanged d a ≡ unchanged d (answer_of d (4097 + at) get_method)
unfolding answer_of reply_of mute_at
told_value d at a e = rw (e, place_of_lem at)

-- ---- subscriptions
-- the context makes no difference to a twin
twin_same : (n : ℕ) (part : List ℕ) (x : ℕ) (y : List ℕ) (ss : List Subscription) → twin_at (with_context (subscription_from n part) x y) ss ≡ twin_at (subscription_from n part) ss
unfolding is_twin
twin_same n part x y ss = refl

-- with the context of its arguments, whatever it had, it is their subscription
own_context : (n : ℕ) (part : List ℕ) (x : ℕ) (y : List ℕ) → with_context (with_context (subscription_from n part) x y) (context_given part) (context_held part) ≡ subscription_from n part
unfolding subscription_from
own_context n part x y = refl

module _ (d : Device) (n : ℕ) (part : List ℕ) where
  add_status : is_malformed add_method 5 part ≡ false → status_of d n 4 add_method 5 part ≡ cond (is_strange part) 6 (cond (is_add_bad part) 7 (cond (is_subscribed d n part) 9 (cond (not (any is_unused d.subscriptions)) 10 0)))
  unfolding status_of first_status later_status is_object is_manager has_method is_telling is_locking is_muting is_forbidden is_held_by_other is_emitter_bad is_subscribing is_value_bad is_out_of_turn is_full
  add_status f = simp (f, or-false)

  remove_status : is_malformed remove_method 2 part ≡ false → status_of d n 4 remove_method 2 part ≡ cond (is_strange part) 6 (cond (not (is_subscribed d n part)) 9 0)
  unfolding status_of first_status later_status is_object is_manager has_method is_telling is_locking is_muting is_forbidden is_held_by_other is_emitter_bad is_subscribing is_value_bad is_out_of_turn is_full
  remove_status f = simp (f, or-false)

  -- a search's answer is whether the subscription is held
  module _ (x : ℕ) (y : List ℕ) (s : Subscription) (es : s ≡ with_context (subscription_from n part) x y) (i : ℕ) (ei : i ≡ twin_at s d.subscriptions) (l : length d.subscriptions ≡ 32) where
    place_is : i ≡ twin_at (subscription_from n part) d.subscriptions
    place_is = ei ∙ ap (λ (z : Subscription). twin_at z d.subscriptions) es ∙ twin_same n part x y d.subscriptions

    pub held_is : i < 32 → is_subscribed d n part ≡ true
    unfolding is_subscribed
    held_is h = rw (any_index (is_twin (subscription_from n part)) d.subscriptions, ← place_is, l) (lt-ltb i 32 h)

    pub held_not : 32 ≤ i → is_subscribed d n part ≡ false
    unfolding is_subscribed
    held_not h = rw (any_index (is_twin (subscription_from n part)) d.subscriptions, ← place_is, l) (le-ltb i 32 h)

  module _ (f : is_malformed add_method 5 part ≡ false) (b : Bool) (q : b ≡ is_strange part) where
    pub add_strange : b ≡ true → (a : Answer) → a ≡ failed_of 6 → unchanged d a ≡ run_of d n 4 add_method 5 part
    add_strange t a e = ran_failed d n 4 add_method 5 part 6 (add_status f ∙ rw (← q, t)) refl a e

    module _ (t : b ≡ false) (v : Bool) (ev : v ≡ is_add_bad part) where
      pub add_bad : v ≡ true → (a : Answer) → a ≡ failed_of 7 → unchanged d a ≡ run_of d n 4 add_method 5 part
      add_bad m a e = ran_failed d n 4 add_method 5 part 7 (add_status f ∙ rw (← q, t, ← ev, m)) refl a e

      module _ (m : v ≡ false) where
        add_late : (g : Bool) → is_subscribed d n part ≡ g → status_of d n 4 add_method 5 part ≡ cond g 9 (cond (not (any is_unused d.subscriptions)) 10 0)
        add_late g e = add_status f ∙ rw (← q, t, ← ev, m, e)

        module _ (x : ℕ) (y : List ℕ) (s : Subscription) (es : s ≡ with_context (subscription_from n part) x y) (i : ℕ) (ei : i ≡ twin_at s d.subscriptions) (l : length d.subscriptions ≡ 32) where
          pub add_twin : i < 32 → (a : Answer) → a ≡ failed_of 9 → unchanged d a ≡ run_of d n 4 add_method 5 part
          add_twin h a e = ran_failed d n 4 add_method 5 part 9 (add_late true (held_is x y s es i ei l h)) refl a e

          module _ (h : 32 ≤ i) (r : ℕ) (er : r ≡ lowest_unused d.subscriptions) where
            room_is : (g : Bool) → ltb r 32 ≡ g → status_of d n 4 add_method 5 part ≡ cond (not g) 10 0
            room_is g k =
                add_late false (held_not x y s es i ei l h)
                ∙ rw (any_index is_unused d.subscriptions, ← er, l, k)

            pub add_full : 32 ≤ r → (a : Answer) → a ≡ failed_of 10 → unchanged d a ≡ run_of d n 4 add_method 5 part
            add_full k a e = ran_failed d n 4 add_method 5 part 10 (room_is false (le-ltb r 32 k)) refl a e

            pub add_done : r < 32 → (w : Subscription) → w ≡ with_context s (context_given part) (context_held part) → (a : Answer) → a ≡ answer_with [] → ◌≡◌ {A = Ran} (record { device = with_subscriptions d (set d.subscriptions r w); answer = a }) (run_of d n 4 add_method 5 part)
            unfolding done_of answer_of reply_of
            add_done k w ew a e =
                let own : w ≡ subscription_from n part = ew ∙ ap (λ (z : Subscription). with_context z (context_given part) (context_held part)) es ∙ own_context n part x y in
                rw (e, own, er) (ran_done d n 4 add_method 5 part (room_is true (lt-ltb r 32 k)))

  module _ (f : is_malformed remove_method 2 part ≡ false) (b : Bool) (q : b ≡ is_strange part) where
    pub remove_strange : b ≡ true → (a : Answer) → a ≡ failed_of 6 → unchanged d a ≡ run_of d n 4 remove_method 2 part
    remove_strange t a e = ran_failed d n 4 remove_method 2 part 6 (remove_status f ∙ rw (← q, t)) refl a e

    module _ (t : b ≡ false) (x : ℕ) (y : List ℕ) (s : Subscription) (es : s ≡ with_context (subscription_from n part) x y) (i : ℕ) (ei : i ≡ twin_at s d.subscriptions) (l : length d.subscriptions ≡ 32) where
      pub remove_none : 32 ≤ i → (a : Answer) → a ≡ failed_of 9 → unchanged d a ≡ run_of d n 4 remove_method 2 part
      remove_none h a e = ran_failed d n 4 remove_method 2 part 9 (remove_status f ∙ rw (← q, t, held_not x y s es i ei l h)) refl a e

      pub remove_done : i < 32 → (a : Answer) → a ≡ answer_with [] → ◌≡◌ {A = Ran} (record { device = with_subscriptions d (set d.subscriptions i free); answer = a }) (run_of d n 4 remove_method 2 part)
      unfolding done_of answer_of reply_of
      remove_done h a e =
          rw (e, place_is x y s es i ei l) (ran_done d n 4 remove_method 2 part (remove_status f ∙ rw (← q, t, held_is x y s es i ei l h)))

-- ---- the mechanism
-- R71, R73. The status of 3.14 hangs on no device
pub arm_status : (d : Device) (n count : ℕ) (part : List ℕ) → status_of d n 1 reset_key_method count part ≡ cond (is_malformed reset_key_method count part) 4 (cond (is_untaken part) 7 0)
unfolding status_of first_status later_status is_object is_manager has_method is_telling is_locking is_muting is_forbidden is_held_by_other is_emitter_bad is_subscribing is_value_bad is_out_of_turn is_full
arm_status d n count part = go (is_malformed reset_key_method count part)
  where
    go : (b : Bool) → first_failing (cond b 4 0) (cond (is_untaken part) 7 0) ≡ cond b 4 (cond (is_untaken part) 7 0)
    go true = refl
    go false = refl

module _ (d : Device) (part : List ℕ) (f : is_malformed reset_key_method 2 part ≡ false) (o : Arming) (q : o ≡ arming_of part) (n : ℕ) where
  -- whether it is armed, told by what was made of the arguments
  untaken_told : (t : Bool) → is_untaken part ≡ t → o.taken ≡ not t
  unfolding arming_of
  untaken_told true e = ap (λ (x : Arming). x.taken) q ∙ rw e
  untaken_told false e = ap (λ (x : Arming). x.taken) q ∙ rw e

  pub arm_bad : not o.taken ≡ true → (a : Answer) → a ≡ failed_of 7 → unchanged d a ≡ run_of d n 1 reset_key_method 2 part
  arm_bad t a e = go (is_untaken part) refl
    where
      go : (b : Bool) → is_untaken part ≡ b → unchanged d a ≡ run_of d n 1 reset_key_method 2 part
      go true u = ran_failed d n 1 reset_key_method 2 part 7 (arm_status d n 2 part ∙ rw (f, u)) refl a e
      go false u = clash _ o.taken (untaken_told false u) (not-true o.taken t)

  pub arm_done : not o.taken ≡ false → (a : Answer) → a ≡ answer_with [] → ◌≡◌ {A = Ran} (record { device = with_mechanism d o.mechanism; answer = a }) (run_of d n 1 reset_key_method 2 part)
  unfolding done_of answer_of reply_of arming_of
  arm_done t a e = go (is_untaken part) refl
    where
      go : (b : Bool) → is_untaken part ≡ b → ◌≡◌ {A = Ran} (record { device = with_mechanism d o.mechanism; answer = a }) (run_of d n 1 reset_key_method 2 part)
      go true u = clash _ o.taken (not-false o.taken t) (untaken_told true u)
      go false u =
          let m : o.mechanism ≡ armed_by part = ap (λ (x : Arming). x.mechanism) q ∙ rw u in
          rw (e, m) (ran_done d n 1 reset_key_method 2 part (arm_status d n 2 part ∙ rw (f, u)))
