-- The messages of some bytes, by what the bytes decide. Assumes nothing.
use Prim.Native.Nat.{ℕ, zero, suc, ◌<◌, ◌≤◌}
use mathlib.Core.Path.{◌≡◌, refl, sym, ap, ◌∙◌}
use mathlib.Core.Bool.{true, false, true≢false}
use mathlib.Core.List.{List, [], ◌∷◌, ◌++◌, append_assoc, append-nil}
use native.Mathlib.Omega.{arith}
use native.Mathlib.Decide.{dec_le}
use native.Mathlib.Nat.{le_of_suc-le-suc}
use lib.ListN.{length, get_or, take, drop, length-drop, take-append-drop}
use lib.Seq.{length-take-le, take-take, take-append-le, drop-append-le, take-append_seam, drop-append_seam, take-length, drop-length}
use Rattle.laws.specs.Lists.{all, joined}
use Rattle.laws.proofs.Conds.{and_left, and_right}
use Rattle.laws.proofs.Tables.{and_both}
use Rattle.frame.specs.Decide.{decide, taken, settled}
use Rattle.frame.specs.declared.Decision.{Decision}
use Rattle.numbers.specs.declared.Fault.{Fault}
use Rattle.frame.specs.declared.Decision.TheVariants.{Undecided, Faulty, Sound}
use Rattle.frame.proofs.Ways.{deciding, unsettled}
use Rattle.frame.proofs.Bytes.{nil_waits}
use Rattle.split.specs.Split.{Split, parts, messages_then, split_by, split_within, split_of, decides_sound, sound_among, sound_messages}
use Rattle.split.specs.Exactly.{LastDecides, AllSound, SplitsAs, SplitsExactly}

-- ---- one turn of the splitter

empty_waits : (s : List ℕ) → length s ≤ 0 → decide s ≡ Undecided
empty_waits [] h = unsettled (decide []) nil_waits
empty_waits (x ∷ s) h = absurd (omega arith)

by_same : (d : Decision) (s : List ℕ) (x y : Split) → ((n : ℕ) → d ≡ Sound n → x ≡ y) → split_by d s x ≡ split_by d s y
unfolding split_by
by_same Undecided s x y h = refl
by_same (Faulty f n) s x y h = refl
by_same (Sound n) s x y h = ap (messages_then (take n s ∷ [])) (h n refl)

-- a decision takes some of the bytes
module _ (s : List ℕ) (d : Decision) (e : decide s ≡ d) (u : settled d ≡ true) where
  some_taken : 0 < taken d
  some_taken = rw e at (deciding.some s (ap settled e ∙ u))

  within_taken : taken d ≤ length s
  within_taken = rw e at (deciding.within s)

  shorter : (k : ℕ) → length s ≤ suc k → length (drop (taken d) s) ≤ k
  shorter k h = omega (arith, length-drop (taken d) s, some_taken, within_taken)

  -- the bytes up to the deciding one decide the same
  front_same : decide (take (taken d) s) ≡ d
  front_same = rw e at (deciding.enough s (ap settled e ∙ u))

  front_ends : LastDecides (take (taken d) s)
  front_ends =
      record {
        decided = ap settled front_same ∙ u;
        before = λ k l. before k (omega (arith, length-take-le (taken d) s within_taken));
      }
    where
      before : (k : ℕ) → k < taken d → decide (take k (take (taken d) s)) ≡ Undecided
      before k l = ap decide (take-take k (taken d) s (omega arith)) ∙ deciding.before s k (rw e l)

  -- and whatever follows
  front_lasts : (t : List ℕ) → decide (s ++ t) ≡ d
  front_lasts t = deciding.lasting s t (ap settled e ∙ u) ∙ e

-- any number of turns that is enough gives the same
enough : (j k : ℕ) (s : List ℕ) → length s ≤ j → length s ≤ k → split_within j s ≡ split_within k s
unfolding split_within split_by taken settled
enough zero zero s a b = refl
enough zero (suc k) s a b = sym (ap (λ (d : Decision). split_by d s (split_within k (drop (taken (decide s)) s))) (empty_waits s a))
enough (suc j) zero s a b = ap (λ (d : Decision). split_by d s (split_within j (drop (taken (decide s)) s))) (empty_waits s b)
enough (suc j) (suc k) s a b =
    by_same (decide s) s _ _
    (λ n e.
    let u : settled (decide s) ≡ true = ap settled e in
    enough j k (drop (taken (decide s)) s) (shorter s (decide s) refl u j a) (shorter s (decide s) refl u k b))

pub split_none : (s : List ℕ) → decide s ≡ Undecided → split_of s ≡ parts [] s
unfolding split_of split_within split_by
split_none [] e = refl
split_none (x ∷ s) e = rw e

pub split_fault : (s : List ℕ) (f : Fault) (k : ℕ) → decide s ≡ Faulty f k → split_of s ≡ parts (take k s ∷ []) (drop k s)
unfolding split_of split_within split_by settled
split_fault [] f k e = absurd (true≢false (sym (ap settled e) ∙ nil_waits))
split_fault (x ∷ s) f k e = rw e

pub split_sound : (s : List ℕ) (k : ℕ) → decide s ≡ Sound k → split_of s ≡ messages_then (take k s ∷ []) (split_of (drop k s))
unfolding split_of split_within split_by settled taken
split_sound [] k e = absurd (true≢false (sym (ap settled e) ∙ nil_waits))
split_sound (x ∷ s) k e =
    rw e
    (ap (messages_then (take k (x ∷ s) ∷ []))
    (enough (length s) (length (drop k (x ∷ s))) (drop k (x ∷ s)) (shorter (x ∷ s) (Sound k) e refl (length s) (omega arith)) (omega arith)))

-- ---- the three ways

pub data Front (s : List ℕ) : Type 0 where
  waits : decide s ≡ Undecided → Front s
  stops : (f : Fault) (k : ℕ) → decide s ≡ Faulty f k → Front s
  goes : (k : ℕ) → decide s ≡ Sound k → Front s

pub front : (s : List ℕ) → Front s
front s = go (decide s) refl
  where
    go : (d : Decision) → decide s ≡ d → Front s
    go Undecided e = waits e
    go (Faulty f k) e = stops f k e
    go (Sound k) e = goes k e

-- ---- the laws

none_splits : (s : List ℕ) → decide s ≡ Undecided → SplitsAs s (parts [] s)
none_splits s e = record { joins = refl; ends = λ i l. absurd (omega arith); sound = λ i l. absurd (omega arith); rest = λ a. e }

fault_splits : (s : List ℕ) (f : Fault) (k : ℕ) → decide s ≡ Faulty f k → SplitsAs s (parts (take k s ∷ []) (drop k s))
unfolding settled taken decides_sound
fault_splits s f k e =
    let x = front_same s (Faulty f k) e refl in
    record {
      joins = rw append-nil (take-append-drop k s);
      ends = λ i l. ends i l;
      sound = λ i l. absurd (omega arith);
      rest = λ a. absurd (true≢false (sym a ∙ rw x));
    }
  where
    ends : (i : ℕ) → i < 1 → LastDecides (get_or (take k s ∷ []) i [])
    ends zero l = front_ends s (Faulty f k) e refl
    ends (suc i) l = absurd (omega arith)

sound_splits : (s : List ℕ) (k : ℕ) → decide s ≡ Sound k → (p : Split) → SplitsAs (drop k s) p → SplitsAs s (messages_then (take k s ∷ []) p)
unfolding settled taken decides_sound
sound_splits s k e p w =
    let x = front_same s (Sound k) e refl in
    record {
      joins = append_assoc (take k s) (joined p.messages) p.left ∙ ap (λ (t : List ℕ). take k s ++ t) w.joins ∙ take-append-drop k s;
      ends = λ i l. ends i l;
      sound = λ i l. sound i l;
      rest = λ a. w.rest (and_right (decides_sound (decide (take k s))) _ a);
    }
  where
    ends : (i : ℕ) → i < suc (length p.messages) → LastDecides (get_or (take k s ∷ p.messages) i [])
    ends zero l = front_ends s (Sound k) e refl
    ends (suc i) l = w.ends i (le_of_suc-le-suc l)

    sound : (i : ℕ) → suc i < suc (length p.messages) → decides_sound (decide (get_or (take k s ∷ p.messages) i [])) ≡ true
    sound zero l = ap decides_sound (front_same s (Sound k) e refl)
    sound (suc i) l = w.sound i (le_of_suc-le-suc l)

split_within_lem : (n : ℕ) (s : List ℕ) → length s ≤ n → SplitsAs s (split_of s)
unfolding settled taken
split_within_lem zero s h = let e = empty_waits s h in rw (split_none s e) (none_splits s e)
split_within_lem (suc n) s h = go (front s) (λ k e. split_within_lem n (drop k s) (shorter s (Sound k) e refl n h))
  where
    go : Front s → ((k : ℕ) → decide s ≡ Sound k → SplitsAs (drop k s) (split_of (drop k s))) → SplitsAs s (split_of s)
    go (waits e) i = rw (split_none s e) (none_splits s e)
    go (stops f k e) i = rw (split_fault s f k e) (fault_splits s f k e)
    go (goes k e) i = rw (split_sound s k e) (sound_splits s k e (split_of (drop k s)) (i k e))

pub split_splits : (s : List ℕ) → SplitsAs s (split_of s)
split_splits s = split_within_lem (length s) s (omega arith)

-- ---- bytes that come behind

more_within : (n : ℕ) (s t : List ℕ) → length s ≤ n → AllSound (split_of s).messages
    → split_of (s ++ t) ≡ messages_then (split_of s).messages (split_of ((split_of s).left ++ t))
unfolding settled taken decides_sound
more_within zero s t h a = rw (split_none s (empty_waits s h))
more_within (suc n) s t h a = go (front s) (λ k e. more_within n (drop k s) t (shorter s (Sound k) e refl n h))
  where
    go : Front s
        → ((k : ℕ) → decide s ≡ Sound k → AllSound (split_of (drop k s)).messages
        → split_of (drop k s ++ t) ≡ messages_then (split_of (drop k s)).messages (split_of ((split_of (drop k s)).left ++ t)))
        → split_of (s ++ t) ≡ messages_then (split_of s).messages (split_of ((split_of s).left ++ t))
    go (waits e) i = rw (split_none s e)
    go (stops f k e) i =
        let x : AllSound (take k s ∷ []) = rw (split_fault s f k e) at a in
        absurd (true≢false (sym x ∙ rw (front_same s (Faulty f k) e refl)))
    go (goes k e) i =
        let w = within_taken s (Sound k) e refl in
        let x : AllSound (take k s ∷ (split_of (drop k s)).messages) = rw (split_sound s k e) at a in
        split_sound (s ++ t) k (front_lasts s (Sound k) e refl t)
        ∙ rw (take-append-le k s t w, drop-append-le k s t w, i k e (and_right (decides_sound (decide (take k s))) _ x), split_sound s k e)

stopped_within : (n : ℕ) (s t : List ℕ) → length s ≤ n → all (λ (m : List ℕ). decides_sound (decide m)) (split_of s).messages ≡ false
    → split_of (s ++ t) ≡ parts (split_of s).messages ((split_of s).left ++ t)
unfolding settled taken decides_sound
stopped_within zero s t h a = absurd (true≢false (rw (split_none s (empty_waits s h)) at a))
stopped_within (suc n) s t h a = go (front s) (λ k e. stopped_within n (drop k s) t (shorter s (Sound k) e refl n h))
  where
    go : Front s
        → ((k : ℕ) → decide s ≡ Sound k → all (λ (m : List ℕ). decides_sound (decide m)) (split_of (drop k s)).messages ≡ false
        → split_of (drop k s ++ t) ≡ parts (split_of (drop k s)).messages ((split_of (drop k s)).left ++ t))
        → split_of (s ++ t) ≡ parts (split_of s).messages ((split_of s).left ++ t)
    go (waits e) i = absurd (true≢false (rw (split_none s e) at a))
    go (stops f k e) i =
        let w = within_taken s (Faulty f k) e refl in
        split_fault (s ++ t) f k (front_lasts s (Faulty f k) e refl t)
        ∙ rw (take-append-le k s t w, drop-append-le k s t w, split_fault s f k e)
    go (goes k e) i =
        let w = within_taken s (Sound k) e refl in
        let x = rw (split_sound s k e, front_same s (Sound k) e refl) at a in
        split_sound (s ++ t) k (front_lasts s (Sound k) e refl t)
        ∙ rw (take-append-le k s t w, drop-append-le k s t w, i k e x, split_sound s k e)

pub split_more : (s t : List ℕ) → AllSound (split_of s).messages
    → split_of (s ++ t) ≡ messages_then (split_of s).messages (split_of ((split_of s).left ++ t))
split_more s t = more_within (length s) s t (omega arith)

-- a message that ends with its deciding byte is one message, and nothing is left
pub split_one : (m : List ℕ) → settled (decide m) ≡ true → taken (decide m) ≡ length m → split_of m ≡ parts (m ∷ []) []
unfolding settled taken
split_one m u x = go (front m)
  where
    go : Front m → split_of m ≡ parts (m ∷ []) []
    go (waits e) = absurd (true≢false (sym u ∙ ap settled e))
    go (stops f k e) =
        let q : k ≡ length m = ap taken (sym e) ∙ x in
        split_fault m f k e ∙ rw (q, take-length m, drop-length m)
    go (goes k e) =
        let q : k ≡ length m = ap taken (sym e) ∙ x in
        split_sound m k e ∙ rw (q, take-length m, drop-length m, split_none [] (empty_waits [] (omega arith)))

-- one more sound message
pub sound_more : (ms : List (List ℕ)) (m : List ℕ) → AllSound ms → decides_sound (decide m) ≡ true → AllSound (ms ++ (m ∷ []))
sound_more [] m a e = rw e
sound_more (x ∷ ms) m a e =
    and_both (decides_sound (decide x)) (all (λ (y : List ℕ). decides_sound (decide y)) (ms ++ (m ∷ [])))
    (and_left (decides_sound (decide x)) (all (λ (y : List ℕ). decides_sound (decide y)) ms) a)
    (sound_more ms m (and_right (decides_sound (decide x)) (all (λ (y : List ℕ). decides_sound (decide y)) ms) a) e)

-- ---- the only one

exact_ends : (m : List ℕ) → LastDecides m → taken (decide m) ≡ length m
unfolding settled
exact_ends m w = go (dec_le (length m) (taken (decide m)))
  where
    go : Dec (length m ≤ taken (decide m)) → taken (decide m) ≡ length m
    go (yes l) = omega (arith, deciding.within m)
    go (no f) =
        let l : taken (decide m) < length m = omega arith in
        absurd (true≢false (sym w.decided ∙ ap settled (sym (deciding.enough m w.decided) ∙ w.before (taken (decide m)) l)))

-- behind a sound message the rest is split so too
rest_splits : (m : List ℕ) (ms : List (List ℕ)) (left s : List ℕ) → SplitsAs s (parts (m ∷ ms) left) → decides_sound (decide m) ≡ true
    → SplitsAs (joined ms ++ left) (parts ms left)
rest_splits m ms left s w e =
    record {
      joins = refl;
      ends = λ i l. w.ends (suc i) (omega arith);
      sound = λ i l. w.sound (suc i) (omega arith);
      rest = λ a. w.rest (and_both (decides_sound (decide m)) (all (λ (m : List ℕ). decides_sound (decide m)) ms) e a);
    }

-- nothing is split behind a fault
last_fault : (m : List ℕ) (ms : List (List ℕ)) (left s : List ℕ) → SplitsAs s (parts (m ∷ ms) left) → decides_sound (decide m) ≡ false → ms ≡ []
last_fault m [] left s w e = refl
last_fault m (x ∷ ms) left s w e = absurd (true≢false (sym (w.sound 0 (omega arith)) ∙ e))

only_so : (ms : List (List ℕ)) (left s : List ℕ) → SplitsAs s (parts ms left) → parts ms left ≡ split_of s
unfolding settled taken decides_sound
only_so [] left s w = ap (parts []) w.joins ∙ sym (split_none s (rw w.joins at (w.rest refl)))
only_so (m ∷ ms) left s w = go (front m) (λ e. only_so ms left (joined ms ++ left) (rest_splits m ms left s w e))
  where
    behind : List ℕ
    behind = joined ms ++ left

    whole : s ≡ m ++ behind
    whole = sym w.joins ∙ append_assoc m (joined ms) left

    ends : LastDecides m
    ends = w.ends 0 (omega arith)

    lasts : (d : Decision) → decide m ≡ d → settled d ≡ true → decide s ≡ d
    lasts d e u = ap decide whole ∙ front_lasts m d e u behind

    exact : (d : Decision) → decide m ≡ d → taken d ≡ length m
    exact d e = ap taken (sym e) ∙ exact_ends m ends

    first : take (length m) s ≡ m
    first = ap (take (length m)) whole ∙ take-append_seam m behind

    others : drop (length m) s ≡ behind
    others = ap (drop (length m)) whole ∙ drop-append_seam m behind

    go : Front m → (decides_sound (decide m) ≡ true → parts ms left ≡ split_of behind) → parts (m ∷ ms) left ≡ split_of s
    go (waits e) i = absurd (true≢false (sym ends.decided ∙ ap settled e))
    go (stops f k e) i =
        let n = last_fault m ms left s w (ap decides_sound e) in
        let t : split_of s ≡ parts (m ∷ []) behind = split_fault s f k (lasts (Faulty f k) e refl) ∙ rw (exact (Faulty f k) e, first, others) in
        let b : behind ≡ left = ap (λ (x : List (List ℕ)). joined x ++ left) n in
        ap (λ (x : List (List ℕ)). parts (m ∷ x) left) n ∙ sym (t ∙ ap (parts (m ∷ [])) b)
    go (goes k e) i =
        let t : split_of s ≡ messages_then (m ∷ []) (split_of behind) = split_sound s k (lasts (Sound k) e refl) ∙ rw (exact (Sound k) e, first, others) in
        ap (messages_then (m ∷ [])) (i (ap decides_sound e)) ∙ sym t

-- ---- the sound ones

pub sound_none_lem : (s : List ℕ) → ((n : ℕ) → decide s ≡ Sound n → ⊥) → sound_messages s ≡ []
unfolding sound_messages sound_among decides_sound settled taken
sound_none_lem s u = go (front s)
  where
    go : Front s → sound_among (split_of s).messages ≡ []
    go (waits e) = rw (split_none s e)
    go (stops f k e) = rw (split_fault s f k e, front_same s (Faulty f k) e refl)
    go (goes k e) = absurd (u k e)

pub sound_then_lem : (s : List ℕ) (n : ℕ) → decide s ≡ Sound n → sound_messages s ≡ take n s ∷ sound_messages (drop n s)
unfolding sound_messages sound_among decides_sound settled taken
sound_then_lem s n e = rw (split_sound s n e, front_same s (Sound n) e refl)

pub splits_exactly : SplitsExactly
splits_exactly =
    record {
      splits = split_splits;
      only = λ s p w. only_so p.messages p.left s w;
      more = split_more;
      stopped = λ s t. stopped_within (length s) s t (omega arith);
      sound_none = sound_none_lem;
      sound_then = sound_then_lem;
    }
