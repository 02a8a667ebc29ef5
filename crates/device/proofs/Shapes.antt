-- Which command it is, and what its arguments are. Assumes nothing.
use Rattle.std.proofs.Common.{◌≡◌, ℕ, ◌+◌, ◌<◌, Bool, true, false, ◌&&◌, ◌||◌, eqb, ◌⊎◌, List, [], ◌∷◌, length, get_or, sym, refl, ap, ◌∙◌, inl, inr, arith, ne_eqb, eqb-true}
use Rattle.std.proofs.Math.Bool.{and-true, or-false}
use Rattle.laws.proofs.Parts.{nil_of}
use Rattle.laws.proofs.Tables.{or_cases}
use Rattle.mechanism.specs.Arguments.{is_misfit}
use Rattle.subscription.specs.Arguments.{is_emitter_bad}
use Rattle.objects.specs.Methods.{is_mute, class_method, lockable_method, lock_method, unlock_method, get_method, set_method, add_method, remove_method, reset_key_method, place_of, is_manager, is_object, is_telling, is_locking, is_muting, is_subscribing, has_method}
use Rattle.objects.specs.Tests.{is_forbidden, count_of, context_given, length_of, is_length_bad, is_pair_bad, is_malformed, is_value_bad, first_status}
use Rattle.objects.specs.Scaffold.{Allowed}
use Rattle.objects.specs.Answers.{failed_of}
use Rattle.objects.specs.Answers.{Carried as Answer}
use Rattle.objects.proofs.Shapes.{mute_at_lem, formed_are, first_allowed}
use Rattle.device.specs.Run.{is_held_by_other, is_out_of_turn, is_full, later_status, status_of, done_of, answer_of, unchanged, run_of}
use Rattle.device.specs.declared.Device.{Device}
use Rattle.device.specs.Run.{Ran}
use Rattle.device.proofs.Commands.{neither_fails, ran_failed, ran_done, get_status}

-- ---- lengths
pub add_size : (part : List ℕ) → is_malformed add_method 5 part ≡ false → length part ≡ 21 + context_given part
unfolding length_of
add_size part f = (formed_are add_method 5 part f).size refl

pub remove_size : (part : List ℕ) → is_malformed remove_method 2 part ≡ false → length part ≡ 16
unfolding length_of
remove_size part f = (formed_are remove_method 2 part f).size refl

pub arm_fits : (part : List ℕ) → is_malformed reset_key_method 2 part ≡ false → is_misfit part ≡ false
arm_fits part f = (formed_are reset_key_method 2 part f).fit refl

one_of : (part : List ℕ) → length part ≡ 1 → part ≡ get_or part 0 0 ∷ []
one_of [] e = absurd (omega arith)
one_of (x ∷ l) e = ap (λ (k : List ℕ). x ∷ k) (nil_of l (omega arith))

-- ---- the same command, by its method's name
module _ (d : Device) (n t m : ℕ) (part : List ℕ) (r : Ran) (f : is_malformed m (count_of m) part ≡ false) where
  -- a method that takes nothing
  as_none : (k : ℕ) → eqb k reset_key_method ≡ false → count_of k ≡ 0 → length_of k part ≡ 0 → m ≡ k → r ≡ run_of d n t k 0 [] → r ≡ run_of d n t m (count_of m) part
  as_none k w c0 l0 e q =
      let z : length part ≡ 0 = (formed_are m (count_of m) part f).size (ap (λ (j : ℕ). eqb j reset_key_method) e ∙ w) ∙ ap (λ (j : ℕ). length_of j part) e ∙ l0 in
      rw (nil_of part z, e, c0) q

  as_lock : m ≡ lock_method → r ≡ run_of d n t lock_method 0 [] → r ≡ run_of d n t m (count_of m) part
  unfolding count_of length_of
  as_lock e q = as_none lock_method refl refl refl e q

  as_unlock : m ≡ unlock_method → r ≡ run_of d n t unlock_method 0 [] → r ≡ run_of d n t m (count_of m) part
  unfolding count_of length_of
  as_unlock e q = as_none unlock_method refl refl refl e q

  -- a command that only tells, with status 0
  as_told : (k : ℕ) → eqb k reset_key_method ≡ false → count_of k ≡ 0 → length_of k part ≡ 0 → done_of d n t k [] ≡ d → status_of d n t k 0 [] ≡ 0 → m ≡ k → r ≡ unchanged d (answer_of d t k) → r ≡ run_of d n t m (count_of m) part
  as_told k w c0 l0 g s e q =
      as_none k w c0 l0 e (q ∙ ap (λ (x : Device). unchanged x (answer_of d t k)) (sym g) ∙ ran_done d n t k 0 [] s)

  as_class : is_object t ≡ true → m ≡ class_method → r ≡ unchanged d (answer_of d t class_method) → r ≡ run_of d n t m (count_of m) part
  unfolding count_of length_of done_of status_of first_status later_status has_method is_telling is_locking is_forbidden is_malformed is_length_bad is_pair_bad is_held_by_other is_emitter_bad is_subscribing is_value_bad is_out_of_turn is_full
  as_class o e q = as_told class_method refl refl refl refl (rw o) e q

  as_lockable : is_object t ≡ true → m ≡ lockable_method → r ≡ unchanged d (answer_of d t lockable_method) → r ≡ run_of d n t m (count_of m) part
  unfolding count_of length_of done_of status_of first_status later_status has_method is_telling is_locking is_forbidden is_malformed is_length_bad is_pair_bad is_held_by_other is_emitter_bad is_subscribing is_value_bad is_out_of_turn is_full
  as_lockable o e q = as_told lockable_method refl refl refl refl (rw o) e q

  as_add : m ≡ add_method → r ≡ run_of d n t add_method 5 part → r ≡ run_of d n t m (count_of m) part
  unfolding count_of
  as_add e q = rw e q

  as_arm : m ≡ reset_key_method → r ≡ run_of d n t reset_key_method 2 part → r ≡ run_of d n t m (count_of m) part
  unfolding count_of
  as_arm e q = rw e q

  as_remove : m ≡ remove_method → r ≡ run_of d n t remove_method 2 part → r ≡ run_of d n t m (count_of m) part
  unfolding count_of
  as_remove e q = rw e q

as_get : (d : Device) (n at m : ℕ) (part : List ℕ) (r : Ran) → at < 8 → is_malformed m (count_of m) part ≡ false → m ≡ get_method → r ≡ unchanged d (answer_of d (4097 + at) get_method) → r ≡ run_of d n (4097 + at) m (count_of m) part
unfolding count_of length_of done_of
as_get d n at m part r h f e q = as_told d n (4097 + at) m part r f get_method refl refl refl refl (get_status d n at h) e q

-- ---- what is left when other methods are not
pub target_is : (t at : ℕ) → is_mute t ≡ true → at ≡ place_of t → 4097 + at ≡ t
unfolding place_of
target_is t at h e = omega (arith, mute_at_lem t h)

pub is_told_lem : (m : ℕ) (b : Bool) → b ≡ is_telling m → b ≡ true → is_telling m ≡ true
is_told_lem m b q t = sym q ∙ t

subscribing_not : (m : ℕ) → (m ≡ add_method → ⊥) → (m ≡ remove_method → ⊥) → is_subscribing m ≡ false
unfolding is_subscribing
subscribing_not m a b = rw (ne_eqb m add_method a, ne_eqb m remove_method b)

-- add and remove are the subscription manager's
add_at : (t : ℕ) → has_method t add_method ≡ true → t ≡ 4
unfolding has_method is_telling is_locking is_muting is_subscribing
add_at t h = eqb-true t 4 (simp or-false at h)

remove_at : (t : ℕ) → has_method t remove_method ≡ true → t ≡ 4
unfolding has_method is_telling is_locking is_muting is_subscribing
remove_at t h = eqb-true t 4 (simp or-false at h)

-- 3.14 is the device manager's
pub arm_at : (t : ℕ) → has_method t reset_key_method ≡ true → t ≡ 1
unfolding has_method is_telling is_locking is_muting is_subscribing
arm_at t h = eqb-true t 1 h

-- a method that is locked out of a manager, or a mute's only
mute_of : (locking muting manager mute : Bool) → (locking || (muting && mute)) ≡ true → (locking && manager) ≡ false → (manager || mute) ≡ true → mute ≡ true
mute_of locking muting manager true a b c = refl
mute_of true muting true false a b c = sym b
mute_of true muting false false a b c = c
mute_of false true manager false a b c = a
mute_of false false manager false a b c = a

-- ---- a command that none of 5, 11, 8, 4 stops
module _ (t k count : ℕ) (part : List ℕ) (s : ℕ) (es : s ≡ first_status t k count part) (z : s ≡ 0) where
  passed : Allowed t k part
  passed = (first_allowed t k count part (sym es ∙ z)).0

  pub add_formed : k ≡ add_method → is_malformed add_method 5 part ≡ false
  unfolding count_of
  add_formed e = rw e at passed.formed

  pub remove_formed : k ≡ remove_method → is_malformed remove_method 2 part ≡ false
  unfolding count_of
  remove_formed e = rw e at passed.formed

  pub arm_formed : k ≡ reset_key_method → is_malformed reset_key_method 2 part ≡ false
  unfolding count_of
  arm_formed e = rw e at passed.formed

  module _ (b : Bool) (eb : b ≡ is_telling k) (c : b ≡ false) (a : k ≡ add_method → ⊥) (r : k ≡ remove_method → ⊥) (y : k ≡ reset_key_method → ⊥) where
    pub mute_left : is_mute t ≡ true
    unfolding has_method is_forbidden is_object
    mute_left =
        let method : (is_locking k || (is_muting k && is_mute t)) ≡ true = simp (sym eb ∙ c, subscribing_not k a r, ne_eqb k reset_key_method y, or-false) at passed.method in
        mute_of (is_locking k) (is_muting k) (is_manager t) (is_mute t) method passed.allowed passed.object

    module _ (f : k ≡ lock_method → ⊥) (u : k ≡ unlock_method → ⊥) (g : k ≡ get_method → ⊥) where
      set_left : k ≡ set_method
      unfolding has_method is_forbidden is_locking is_muting
      set_left =
          eqb-true k set_method
          (simp (
            sym eb ∙ c,
            subscribing_not k a r,
            ne_eqb k reset_key_method y,
            mute_left,
            ne_eqb k lock_method f,
            ne_eqb k unlock_method u,
            ne_eqb k get_method g,
            and-true,
            or-false,
          )
          at passed.method)

      pub set_size : length part ≡ 1
      unfolding length_of
      set_size = rw set_left at ((formed_are k (count_of k) part passed.formed).size (ne_eqb k reset_key_method y))

-- a command with status 0 is stopped by none of the first
pub status_allowed : (d : Device) (n t m count : ℕ) (part : List ℕ) → status_of d n t m count part ≡ 0 → Allowed t m part
unfolding status_of
status_allowed d n t m count part q =
    (first_allowed t m count part (neither_fails (first_status t m count part) (later_status d n t m part) q).0).0

-- ---- one command: m is its method, of which k is the number
module _ (d : Device) (n t m count : ℕ) (part : List ℕ) (k : ℕ) (ek : k ≡ m) (s : ℕ) (es : s ≡ first_status t k count part) where
  pub run_stopped : (s ≡ 0 → ⊥) → (a : Answer) → a ≡ failed_of s → unchanged d a ≡ run_of d n t m count part
  unfolding status_of
  run_stopped z a e =
      let w : status_of d n t k count part ≡ s = rw (← es, ne_eqb s 0 z) in
      ran_failed d n t k count part s w (ne_eqb s 0 z) a e ∙ ap (λ (j : ℕ). run_of d n t j count part) ek

  module _ (z : s ≡ 0) where
    allowed : Allowed t k part
    allowed = passed t k count part s es z

    as_run : (o : Ran) → o ≡ run_of d n t k (count_of k) part → o ≡ run_of d n t m count part
    as_run o e =
        let c = (first_allowed t k count part (sym es ∙ z)).1 in
        e ∙ ap (λ (j : ℕ). run_of d n t k j part) (sym c) ∙ ap (λ (j : ℕ). run_of d n t j count part) ek

    pub run_tell : (b : Bool) → b ≡ is_telling k → b ≡ true → (a : Answer) → ((e : Device) → a ≡ answer_of e t k) → unchanged d a ≡ run_of d n t m count part
    unfolding is_telling
    run_tell b eb e a q = go (or_cases (eqb k class_method) (eqb k lockable_method) (sym eb ∙ e))
      where
        o : Ran
        o = unchanged d a

        named : (j : ℕ) → k ≡ j → o ≡ unchanged d (answer_of d t j)
        named j f = ap (unchanged d) (q d ∙ ap (answer_of d t) f)

        go : (eqb k class_method ≡ true) ⊎ (eqb k lockable_method ≡ true) → unchanged d a ≡ run_of d n t m count part
        go (inl f) = let g = eqb-true k class_method f in as_run o (as_class d n t k part o allowed.formed allowed.object g (named class_method g))
        go (inr f) = let g = eqb-true k lockable_method f in as_run o (as_lockable d n t k part o allowed.formed allowed.object g (named lockable_method g))

    pub run_add : k ≡ add_method → (o : Ran) → o ≡ run_of d n 4 add_method 5 part → o ≡ run_of d n t m count part
    run_add e o q =
        let u : t ≡ 4 = add_at t (ap (has_method t) (sym e) ∙ allowed.method) in
        as_run o (as_add d n t k part o allowed.formed e (q ∙ ap (λ (j : ℕ). run_of d n j add_method 5 part) (sym u)))

    pub run_remove : k ≡ remove_method → (o : Ran) → o ≡ run_of d n 4 remove_method 2 part → o ≡ run_of d n t m count part
    run_remove e o q =
        let u : t ≡ 4 = remove_at t (ap (has_method t) (sym e) ∙ allowed.method) in
        as_run o (as_remove d n t k part o allowed.formed e (q ∙ ap (λ (j : ℕ). run_of d n j remove_method 2 part) (sym u)))

    pub run_arm : k ≡ reset_key_method → (o : Ran) → ((j : ℕ) → o ≡ run_of d j 1 reset_key_method 2 part) → o ≡ run_of d n t m count part
    run_arm e o q =
        let u : t ≡ 1 = arm_at t (ap (has_method t) (sym e) ∙ allowed.method) in
        as_run o (as_arm d n t k part o allowed.formed e (q n ∙ ap (λ (j : ℕ). run_of d n j reset_key_method 2 part) (sym u)))

    module _ (b : Bool) (eb : b ≡ is_telling k) (c : b ≡ false) (a : k ≡ add_method → ⊥) (r : k ≡ remove_method → ⊥) (y : k ≡ reset_key_method → ⊥) (at : ℕ) (p : (at ≡ place_of t) × (at < 8)) where
      as_mute : (o : Ran) → o ≡ run_of d n (4097 + at) k (count_of k) part → o ≡ run_of d n t m count part
      as_mute o q =
          let here = target_is t at (mute_left t k count part s es z b eb c a r y) p.0 in
          as_run o (q ∙ ap (λ (j : ℕ). run_of d n j k (count_of k) part) here)

      pub run_lock : k ≡ lock_method → (o : Ran) → o ≡ run_of d n (4097 + at) lock_method 0 [] → o ≡ run_of d n t m count part
      run_lock e o q = as_mute o (as_lock d n (4097 + at) k part o allowed.formed e q)

      pub run_unlock : k ≡ unlock_method → (o : Ran) → o ≡ run_of d n (4097 + at) unlock_method 0 [] → o ≡ run_of d n t m count part
      run_unlock e o q = as_mute o (as_unlock d n (4097 + at) k part o allowed.formed e q)

      pub run_get : k ≡ get_method → (o : Ran) → o ≡ unchanged d (answer_of d (4097 + at) get_method) → o ≡ run_of d n t m count part
      run_get e o q = as_mute o (as_get d n at k part o p.1 allowed.formed e q)

      pub run_set : (k ≡ lock_method → ⊥) → (k ≡ unlock_method → ⊥) → (k ≡ get_method → ⊥) → (o : Ran) → o ≡ run_of d n (4097 + at) set_method 1 (get_or part 0 0 ∷ []) → o ≡ run_of d n t m count part
      unfolding count_of
      run_set f u g o q =
          let e = set_left t k count part s es z b eb c a r y f u g in
          let w = one_of part (set_size t k count part s es z b eb c a r y f u g) in
          as_mute o (rw e (q ∙ ap (λ (y : List ℕ). run_of d n (4097 + at) set_method 1 y) (sym w)))
