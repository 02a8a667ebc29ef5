-- Which connections are open after each call: for Deliveries, Calls, DeviceLaws, HeldBytes and all theorems above them. Assumes nothing.
use Prim.Native.Nat.{ℕ, zero, suc, ◌≤◌, ◌<◌}
use mathlib.Core.Path.{◌≡◌, refl, sym, ap, ◌∙◌, fun_ext}
use mathlib.Core.Bool.{Bool, cond, true, false}
use mathlib.Core.List.{List, [], ◌∷◌}
use native.Mathlib.Omega.{arith}
use native.Mathlib.Decide.{dec_le}
use lib.Seq.{get_or-set_same, get_or-set_other, set_out, ext_get_or}
use lib.Dec.{eqb}
use lib.ListN.{length, get_or, set, replicate, get_or-map, length-map}
use borrow.Author.Tests.{eqb-true, eqb-false, le-leb}
use Rattle.frame.specs.Limits.{greatest_size}
use Rattle.frame.specs.Decide.{decide, settled}
use Rattle.frame.proofs.Ways.{deciding, unsettled}
use Rattle.area.specs.Area.{count_obeys, held_obeys}
use Rattle.laws.specs.Lists.{any}
use Rattle.laws.proofs.Conds.{either}
use Rattle.connection.specs.State.{connection_count, closed, opened, live_at, is_not_open, lowest_free, is_live}
use Rattle.connection.specs.declared.Connection.{Connection}
use Rattle.device.specs.State.{Opened, fresh_of, open_of, close_of, sent_at, told_at, lives_in}
use Rattle.device.specs.declared.Device.{Device}
use Rattle.serve.specs.Sound.{sound_of}
use Rattle.serve.proofs.Keeps.{sound_kept}
use Rattle.device.proofs.Closures.{closure_frees}
use Rattle.stream.specs.Calls.{Held, only}
use Rattle.stream.specs.Scaffold.{lives_of, Good}
use Rattle.stream.specs.Lent.{counts_of}
use Rattle.stream.proofs.Lent.{get_d_counted, length_lives_of, get_d_lives_of}
use Rattle.taking.specs.Dispatch.{subscription_at, notified_of}
use Rattle.endpoint.specs.State.{state_of, record_obeys}
use Rattle.promise.specs.Rulebook.{open?, shut, Fine}

abbrev pub GoodAt : Device → Held → Type 0
GoodAt d h = Good open? Fine d h

pub lives_get : (d : Device) (k : ℕ) → get_or (lives_in d) k false ≡ live_at d.connections k
unfolding lives_in live_at
lives_get d k = get_or-map is_live d.connections k closed

pub length_lives : (d : Device) → length (lives_in d) ≡ length d.connections
unfolding lives_in
length_lives d = length-map d.connections is_live

-- each count obeys, so all do
all_counts : (lives : List Bool) (held : List ℕ) → ((n : ℕ) → n < length lives → count_obeys (get_or lives n false) (get_or held n 0) ≡ true) → held_obeys lives held ≡ true
unfolding held_obeys
all_counts [] held f = refl
all_counts (b ∷ lives) [] f = refl
all_counts (b ∷ lives) (k ∷ held) f = rw (f 0 (omega arith)) (all_counts lives held (λ n l. f (suc n) (omega arith)))

-- undecided bytes are few, and a closed connection has none
count_good : (live : Bool) (x : List ℕ) → settled (decide x) ≡ false → (live ≡ false → x ≡ []) → count_obeys live (length x) ≡ true
unfolding count_obeys
count_good true x w e = le-leb (length x) greatest_size (deciding.short x (unsettled (decide x) w))
count_good false x w e = rw (e refl)

pub held_obeys_lem : (d : Device) (h : Held) → length d.connections ≡ 8 → ((n : ℕ) → settled (decide (h n)) ≡ false)
    → ((n : ℕ) → live_at d.connections n ≡ false → h n ≡ []) → held_obeys (lives_in d) (counts_of h 8) ≡ true
held_obeys_lem d h e w z =
    all_counts (lives_in d) (counts_of h 8)
    (λ n l.
    let m : n < 8 = omega (arith, length_lives d) in
    rw (lives_get d n, get_d_counted h 8 n m) (count_good (live_at d.connections n) (h n) (w n) (z n)))

pub record_obeys_lem : (d : Device) (h : Held) → GoodAt d h → record_obeys (state_of d (counts_of h 8)) ≡ true
unfolding record_obeys
record_obeys_lem d h good = rw good.fine.obeys (held_obeys_lem d h good.fine.eight good.waiting good.empty)

-- bytes of closed connections are none already
pub only_same : (t : ℕ → Bool) (h : Held) → ((n : ℕ) → t n ≡ false → h n ≡ []) → only t h ≡ h
unfolding only
only_same t h f = fun_ext λ n. go n (t n) refl
  where
    go : (n : ℕ) (b : Bool) → t n ≡ b → cond b (h n) [] ≡ h n
    go n true e = refl
    go n false e = sym (f n e)

pub live_closed : (d : Device) (n k : ℕ) → eqb k n ≡ false → live_at (close_of d n).connections k ≡ live_at d.connections k
unfolding live_at
live_closed d n k e = ap (λ (c : Connection). c.live) (closure_frees.same d n k e)

pub live_gone : (d : Device) (n : ℕ) → live_at (close_of d n).connections n ≡ false
live_gone d n = (closure_frees.closing d n).shut

-- a sound message opens and closes no connection
pub lives_sound : (d : Device) (n : ℕ) (m : List ℕ) → lives_in (sound_of d n m).device ≡ lives_in d
unfolding lives_in
lives_sound d n m = sound_kept.living d n m

-- where no connection opened or closed
pub live_alike : (d e : Device) (k : ℕ) → lives_in e ≡ lives_in d → live_at e.connections k ≡ live_at d.connections k
live_alike d e k q = sym (lives_get e k) ∙ ap (λ (l : List Bool). get_or l k false) q ∙ lives_get d k

pub live_sound : (d : Device) (n : ℕ) (m : List ℕ) (k : ℕ) → live_at (sound_of d n m).device.connections k ≡ live_at d.connections k
live_sound d n m k = live_alike d (sound_of d n m).device k (lives_sound d n m)

-- nor does sending or telling
pub lives_sent : (d : Device) (n : ℕ) → lives_in (sent_at d n) ≡ lives_in d
unfolding lives_in
lives_sent d n = sound_kept.sent_living d n

pub lives_told : (d : Device) (i : ℕ) → lives_in (told_at d i) ≡ lives_in d
unfolding lives_in
lives_told d i = sound_kept.told_living d i

pub lives_notified : (d : Device) (i : ℕ) → lives_in (notified_of d i) ≡ lives_in d
unfolding notified_of
lives_notified d i = lives_sent (told_at d i) (subscription_at d i).connection ∙ lives_told d i

-- who is open stays open when another is opened
pub live_still : (d : Device) (i k : ℕ) → live_at d.connections k ≡ true → live_at (set d.connections i opened) k ≡ true
unfolding live_at
live_still d i k l = go (eqb k i) refl
  where
    here : k ≡ i → Dec (length d.connections ≤ i) → (get_or (set d.connections i opened) k closed).live ≡ true
    here e (yes f) = rw (set_out d.connections i opened f) l
    here e (no f) = rw (e, get_or-set_same d.connections i opened closed (omega arith))

    go : (b : Bool) → eqb k i ≡ b → (get_or (set d.connections i opened) k closed).live ≡ true
    go false e = ap (λ (c : Connection). c.live) (get_or-set_other d.connections i k opened closed (eqb-false k i e)) ∙ l
    go true e = here (eqb-true k i e) (dec_le (length d.connections) i)

pub open_still : (d : Device) (k : ℕ) → live_at d.connections k ≡ true → live_at (open_of d).device.connections k ≡ true
unfolding open_of
open_still d k l =
    either (λ (o : Opened). live_at o.device.connections k ≡ true) (any is_not_open d.connections) _ _
    (live_still d (lowest_free d.connections) k l) l

-- a list of eight tests, by its elements
pub lives_eight : (e : Device) → length e.connections ≡ 8 → lives_of (open? e) 8 ≡ lives_in e
lives_eight e q = ext_get_or false (lives_of (open? e) 8) (lives_in e) (sizes (length_of_lem (open? e) 8)) (λ i l. at (open? e) 8 i (omega (arith, length_of_lem (open? e) 8)) ∙ sym (lives_get e i))
  where
    length_of_lem : (t : ℕ → Bool) (n : ℕ) → length (lives_of t n) ≡ n
    length_of_lem t n = length_lives_of t n

    sizes : length (lives_of (open? e) 8) ≡ 8 → length (lives_of (open? e) 8) ≡ length (lives_in e)
    sizes a = a ∙ sym (length_lives e ∙ q)

    at : (t : ℕ → Bool) (n i : ℕ) → i < n → get_or (lives_of t n) i false ≡ t i
    at t n i l = get_d_lives_of t n i l

-- a list of one value has it everywhere
pub get_d_alike : {A : Type 0} (x : A) (n i : ℕ) → get_or (replicate n x) i x ≡ x
get_d_alike x zero i = refl
get_d_alike x (suc n) zero = refl
get_d_alike x (suc n) (suc i) = get_d_alike x n i

-- of a fresh device no connection is open
pub fresh_shut : (reading k : ℕ) → live_at (fresh_of reading).connections k ≡ false
unfolding fresh_of live_at
fresh_shut reading k = ap (λ (c : Connection). c.live) (get_d_alike closed connection_count k)
