-- Each outcome of a command of the channels, from what led to it. Assumes nothing.
use Rattle.std.proofs.Common.{ℕ, ◌+◌, ◌<◌, ◌≡◌, refl, sym, ap, ◌∙◌, Bool, true, false, not, cond, List, [], ◌∷◌, length, get_or, set, arith, Result, Ok, Err}
use mir.Val.{bool_byte}
use Rattle.std.specs.Result.{IsErrAnd}
use Rattle.numbers.specs.Status.{status_number}
use Rattle.numbers.specs.declared.Status.{Status}
use Rattle.numbers.proofs.Tables.{failed_by}
use Rattle.objects.specs.declared.Method.{Method}
use Rattle.objects.specs.declared.Reply.{Reply}
use Rattle.objects.specs.Methods.{method_of, is_mute, is_telling, class_method, lockable_method, lock_method, unlock_method, get_method, set_method, add_method, remove_method, reset_key_method, place_of}
use Rattle.objects.specs.Tests.{is_mute_value, first_status}
use Rattle.objects.specs.Answers.{class_of, identification_of, reply_of, answer_in, failed_of, answer_with}
use Rattle.holders.specs.Holders.{owner_of, is_other}
use Rattle.device.specs.Run.{done_of, answer_of, unchanged, run_of}
use Rattle.device.specs.declared.Device.{Device}
use Rattle.device.proofs.Commands.{ran_done, get_status, lock_other, lock_done, unlock_other, unlock_unheld, unlock_done, set_other, set_bad, set_same, set_changed, told_class, told_value}
use Rattle.device.proofs.Shapes.{run_stopped, run_tell, mute_left, set_size, target_is, run_lock, run_unlock, run_get, run_set}
use Rattle.command.specs.Acting.{Acted, channels, acted, with_channels, acted_in, Acts}

-- ---- a mute
module _ (mutes holders : List ℕ) (n at : ℕ) (h : at < 8) (b : Bool) (q : b ≡ is_other (get_or holders at 0) n) where
  abbrev of : Device → Device
  of d = with_channels d (channels mutes holders)

  pub lock_refused : b ≡ true → Acts (channels mutes holders) n (4097 + at) lock_method 0 [] (acted (channels mutes holders) (failed_of 3) false)
  lock_refused t = record { whole = λ d. lock_other (of d) n at h b q t (failed_of 3) refl }

  pub locked : b ≡ false → (o : ℕ) → o ≡ owner_of n → Acts (channels mutes holders) n (4097 + at) lock_method 0 [] (acted (channels mutes (set holders at o)) (answer_with []) false)
  locked t o p = record { whole = λ d. lock_done (of d) n at h b q t o p (answer_with []) refl }

  pub unlock_refused : b ≡ true → Acts (channels mutes holders) n (4097 + at) unlock_method 0 [] (acted (channels mutes holders) (failed_of 3) false)
  unlock_refused t = record { whole = λ d. unlock_other (of d) n at h b q t (failed_of 3) refl }

  pub unlock_early : b ≡ false → get_or holders at 0 ≡ 0 → Acts (channels mutes holders) n (4097 + at) unlock_method 0 [] (acted (channels mutes holders) (failed_of 9) false)
  unlock_early t z = record { whole = λ d. unlock_unheld (of d) n at h b q t z (failed_of 9) refl }

  pub unlocked : b ≡ false → (get_or holders at 0 ≡ 0 → ⊥) → Acts (channels mutes holders) n (4097 + at) unlock_method 0 [] (acted (channels mutes (set holders at 0)) (answer_with []) false)
  unlocked t z = record { whole = λ d. unlock_done (of d) n at h b q t z (answer_with []) refl }

  module _ (v : ℕ) where
    pub set_refused : b ≡ true → Acts (channels mutes holders) n (4097 + at) set_method 1 (v ∷ []) (acted (channels mutes holders) (failed_of 3) false)
    set_refused t = record { whole = λ d. set_other (of d) n at h b q v t (failed_of 3) refl }

    module _ (t : b ≡ false) (k : Bool) (p : k ≡ is_mute_value v) where
      pub set_strange : not k ≡ true → Acts (channels mutes holders) n (4097 + at) set_method 1 (v ∷ []) (acted (channels mutes holders) (failed_of 7) false)
      set_strange f = record { whole = λ d. set_bad (of d) n at h b q v t k p f (failed_of 7) refl }

      pub set_stays : not k ≡ false → get_or mutes at 0 ≡ v → Acts (channels mutes holders) n (4097 + at) set_method 1 (v ∷ []) (acted (channels mutes holders) (answer_with []) false)
      set_stays f s = record { whole = λ d. set_same (of d) n at h b q v t k p f s (answer_with []) refl }

      pub set_done : not k ≡ false → (get_or mutes at 0 ≡ v → ⊥) → Acts (channels mutes holders) n (4097 + at) set_method 1 (v ∷ []) (acted (channels (set mutes at v) holders) (answer_with []) true)
      set_done f s = record { whole = λ d. set_changed (of d) n at h b q v t k p f s _ refl (answer_with []) refl }

-- a get answers, and changes nothing
got_is : (d : Device) (n at : ℕ) → at < 8 → unchanged d (answer_of d (4097 + at) get_method) ≡ run_of d n (4097 + at) get_method 0 []
unfolding done_of
got_is d n at h = ran_done d n (4097 + at) get_method 0 [] (get_status d n at h)

-- and is answered by the mute's value
pub got : (mutes holders : List ℕ) (n at : ℕ) → at < 8 → Acts (channels mutes holders) n (4097 + at) get_method 0 [] (acted (channels mutes holders) (answer_with (get_or mutes at 0 ∷ [])) false)
got mutes holders n at h =
    let of : Device → Device = λ d. with_channels d (channels mutes holders) in
    record { whole = λ d. told_value (of d) at _ refl ∙ got_is (of d) n at h }

-- ---- a method that mutes alone have
pub record Muting (m : ℕ) : Type 0 where
  pub telling : false ≡ is_telling m
  pub add : m ≡ add_method → ⊥
  pub remove : m ≡ remove_method → ⊥
  pub key : m ≡ reset_key_method → ⊥

pub lock_muting : (m : ℕ) → m ≡ lock_method → Muting m
unfolding is_telling
lock_muting m e = record { telling = rw e; add = λ (k : m ≡ add_method). omega arith; remove = λ (k : m ≡ remove_method). omega arith; key = λ (k : m ≡ reset_key_method). omega arith }

pub unlock_muting : (m : ℕ) → m ≡ unlock_method → Muting m
unfolding is_telling
unlock_muting m e = record { telling = rw e; add = λ (k : m ≡ add_method). omega arith; remove = λ (k : m ≡ remove_method). omega arith; key = λ (k : m ≡ reset_key_method). omega arith }

pub get_muting : (m : ℕ) → m ≡ get_method → Muting m
unfolding is_telling
get_muting m e = record { telling = rw e; add = λ (k : m ≡ add_method). omega arith; remove = λ (k : m ≡ remove_method). omega arith; key = λ (k : m ≡ reset_key_method). omega arith }

pub set_muting : (m : ℕ) → m ≡ set_method → Muting m
unfolding is_telling
set_muting m e = record { telling = rw e; add = λ (k : m ≡ add_method). omega arith; remove = λ (k : m ≡ remove_method). omega arith; key = λ (k : m ≡ reset_key_method). omega arith }

-- ---- one command, by its method
-- the number of the method that was found
pub asked : {m : ℕ} (x y : Method) → method_of x ≡ m → x ≡ y → m ≡ method_of y
asked x y e i = sym e ∙ ap method_of i

-- the answer of a status that a call handed up
pub err_answer : (r : Result Reply Status) (s : Status) → IsErrAnd r (λ e. e ≡ s) → answer_in r ≡ failed_of (status_number s)
err_answer (Ok x) s i = absurd i
err_answer (Err y) s i = rw i

pub ran_stopped : (t m count : ℕ) (part : List ℕ) (d : Device) (n : ℕ) (s : Status) → status_number s ≡ first_status t m count part
    → (r : Result Reply Status) → IsErrAnd r (λ e. e ≡ s) → unchanged d (answer_in r) ≡ run_of d n t m count part
ran_stopped t m count part d n s e r i = run_stopped d n t m count part m refl (status_number s) e (failed_by s) (answer_in r) (err_answer r s i)

module _ (t m count : ℕ) (part : List ℕ) (z : first_status t m count part ≡ 0) where
  pub mute_asked : Muting m → is_mute t ≡ true
  mute_asked w = mute_left t m count part _ refl z false w.telling refl w.add w.remove w.key

  pub value_given : m ≡ set_method → length part ≡ 1
  value_given e =
      let w = set_muting m e in
      set_size t m count part _ refl z false w.telling refl w.add w.remove w.key
      (λ (k : m ≡ lock_method). omega arith) (λ (k : m ≡ unlock_method). omega arith) (λ (k : m ≡ get_method). omega arith)

  module _ (d : Device) (n : ℕ) where
    pub ran_class : m ≡ class_method → unchanged d (answer_with (identification_of (class_of t))) ≡ run_of d n t m count part
    unfolding is_telling
    ran_class e =
        let k : true ≡ is_telling m = rw e in
        run_tell d n t m count part m refl _ refl z true k refl _ (told_class t m e _ refl)

    pub ran_lockable : (b : Bool) → b ≡ is_mute t → m ≡ lockable_method → unchanged d (answer_with (bool_byte b ∷ [])) ≡ run_of d n t m count part
    unfolding is_telling answer_of reply_of
    ran_lockable b q e =
        let k : true ≡ is_telling m = rw e in
        run_tell d n t m count part m refl _ refl z true k refl (answer_with (bool_byte b ∷ [])) (λ c. rw (e, ← q, byte b))
      where
        byte : (b : Bool) → bool_byte b ≡ cond b 1 0
        byte true = refl
        byte false = refl

    module _ (w : Muting m) (at : ℕ) (p : (at ≡ place_of t) × (at < 8)) where
      -- the mute at its place is the target
      at_target : (r : Acted) → acted_in d t r ≡ acted_in d (4097 + at) r
      at_target r = ap (λ (j : ℕ). acted_in d j r) (sym (target_is t at (mute_asked w) p.0))

      pub ran_lock : m ≡ lock_method → (r : Acted) → Acts (channels d.mutes d.holders) n (4097 + at) lock_method 0 [] r → acted_in d t r ≡ run_of d n t m count part
      ran_lock e r a = run_lock d n t m count part m refl _ refl z false w.telling refl w.add w.remove w.key at p e (acted_in d t r) (at_target r ∙ a.whole d)

      pub ran_unlock : m ≡ unlock_method → (r : Acted) → Acts (channels d.mutes d.holders) n (4097 + at) unlock_method 0 [] r → acted_in d t r ≡ run_of d n t m count part
      ran_unlock e r a = run_unlock d n t m count part m refl _ refl z false w.telling refl w.add w.remove w.key at p e (acted_in d t r) (at_target r ∙ a.whole d)

      pub ran_get : m ≡ get_method → (r : Acted) → Acts (channels d.mutes d.holders) n (4097 + at) get_method 0 [] r → acted_in d t r ≡ run_of d n t m count part
      ran_get e r a =
          run_get d n t m count part m refl _ refl z false w.telling refl w.add w.remove w.key at p e (acted_in d t r)
          (at_target r ∙ a.whole d ∙ sym (got_is d n at p.1))

      pub ran_set : m ≡ set_method → (r : Acted) → Acts (channels d.mutes d.holders) n (4097 + at) set_method 1 (get_or part 0 0 ∷ []) r → acted_in d t r ≡ run_of d n t m count part
      ran_set e r a =
          run_set d n t m count part m refl _ refl z false w.telling refl w.add w.remove w.key at p
          (λ (k : m ≡ lock_method). omega arith) (λ (k : m ≡ unlock_method). omega arith) (λ (k : m ≡ get_method). omega arith)
          (acted_in d t r) (at_target r ∙ a.whole d)
