-- A sound message keeps the record rules and opens and closes no connection. No code is named. Assumes nothing.
use Prim.Native.Nat.{ℕ, zero, suc, ◌+◌, ◌<◌}
use mathlib.Core.Path.{◌≡◌, refl, sym, ap, ◌∙◌}
use mathlib.Core.Bool.{Bool, true, false, cond}
use mathlib.Core.List.{List, map}
use native.Mathlib.Omega.{arith}
use borrow.Author.Tests.{le-leb}
use lib.Dec.{eqb, ltb}
use lib.ListN.{length, drop, get_or, length-map, get_or-map}
use lib.Seq.{map-set_same}
use Rattle.laws.proofs.Conds.{either}
use Rattle.octets.specs.Numbers.{be16_at, be32_at, Octets}
use Rattle.octets.proofs.Digits.{be16_small, octets_drop}
use Rattle.heartbeat.specs.Beat.{form_of, beat_of as in_milliseconds}
use Rattle.heartbeat.specs.declared.Heartbeat.{Heartbeat}
use Rattle.heartbeat.specs.declared.Heartbeat.TheVariants.{InSeconds, InMilliseconds}
use Rattle.frame.specs.Limits.{header_end, notification, keep_alive, seconds_bytes}
use Rattle.frame.specs.Header.{pdu_type, message_count}
use Rattle.frame.specs.Entry.{entry_size}
use Rattle.frame.specs.Scaffold.{SoundAt}
use Rattle.fields.specs.Fields.{heartbeat_of}
use Rattle.connection.specs.State.{closed, live_at, is_live}
use Rattle.connection.specs.Obeys.{top_milliseconds}
use Rattle.connection.specs.Supervision.{heard_of, sent_of, set_beat, beating_of}
use Rattle.connection.specs.Kept.{fits_form}
use Rattle.connection.specs.Setters.{supervised}
use Rattle.connection.specs.declared.Connection.{Connection}
use Rattle.objects.specs.Answers.{failed_of}
use Rattle.device.specs.State.{at_connection, lives_in, heard_at, sent_at, told_at, beating_at}
use Rattle.device.specs.Obeys.{device_obeys}
use Rattle.device.specs.Run.{muted_of, done_of, answer_of, unchanged, ran_by, run_of}
use Rattle.device.specs.declared.Device.{Device}
use Rattle.device.specs.Run.{Ran}
use Rattle.device.proofs.Keeps.{rules_kept}
use Rattle.serve.specs.Serve.{ran_with, ran_first, last_of}
use Rattle.serve.specs.Sound.{Ruled, commands_of, kept_alive, sound_of}
use Rattle.serve.specs.Kept.{SoundKept}

-- ---- a command leaves the connections as they are
cond_connections : (b : Bool) (x y : Device) → (cond b x y).connections ≡ cond b x.connections y.connections
cond_connections true x y = refl
cond_connections false x y = refl

cond_alike : {A : Type 0} (b : Bool) (x : A) → cond b x x ≡ x
cond_alike true x = refl
cond_alike false x = refl

muted_connections : (d : Device) (target v : ℕ) → (muted_of d target v).connections ≡ d.connections
unfolding muted_of
muted_connections d target v = simp (cond_connections, cond_alike)

done_connections : (d : Device) (n target m : ℕ) (part : List ℕ) → (done_of d n target m part).connections ≡ d.connections
unfolding done_of
done_connections d n target m part = simp (cond_connections, cond_alike, muted_connections)

ran_connections : (d : Device) (n target m : ℕ) (part : List ℕ) (status : ℕ) → (ran_by d n target m part status).device.connections ≡ d.connections
unfolding ran_by
ran_connections d n target m part status =
    either (λ (r : Ran). r.device.connections ≡ d.connections) (eqb status 0) (record { device = done_of d n target m part; answer = answer_of d target m }) (unchanged d (failed_of status)) (done_connections d n target m part) refl

first_connections : (d : Device) (n kind : ℕ) (t : List ℕ) → (ran_first d n kind t).device.connections ≡ d.connections
unfolding ran_first ran_with run_of
first_connections d n kind t = ran_connections d n _ _ _ _

last_connections : (k : ℕ) (d : Device) (n kind : ℕ) (t : List ℕ) → (last_of k d n kind t).connections ≡ d.connections
unfolding last_of
last_connections zero d n kind t = refl
last_connections (suc k) d n kind t = last_connections k (ran_first d n kind t).device n kind (drop (entry_size kind t) t) ∙ first_connections d n kind t

-- ---- a connection that stays as open as it was
at_lives : (f : Connection → Connection) → ((c : Connection) → (f c).live ≡ c.live) → (d : Device) (n : ℕ) → lives_in (at_connection f d n) ≡ lives_in d
unfolding lives_in
at_lives f l d n =
    map-set_same is_live d.connections n (f (get_or d.connections n closed)) closed (l (get_or d.connections n closed))

heard_lives : (d : Device) (n : ℕ) → lives_in (heard_at d n) ≡ lives_in d
unfolding heard_at heard_of
heard_lives d n = at_lives heard_of (λ c. refl) d n

sent_lives : (d : Device) (n : ℕ) → lives_in (sent_at d n) ≡ lives_in d
unfolding sent_at sent_of
sent_lives d n = at_lives sent_of (λ c. refl) d n

told_connections : (d : Device) (at : ℕ) → (told_at d at).connections ≡ d.connections
unfolding told_at
told_connections d at = refl

beating_live : (h : Heartbeat) (c : Connection) → (beating_of h c).live ≡ c.live
unfolding beating_of set_beat sent_of heard_of
beating_live h c = either (λ (r : Connection). r.live ≡ c.live) (eqb (in_milliseconds h) 0) (supervised c 0 0) (supervised c (form_of h) (in_milliseconds h)) refl refl

beating_lives : (d : Device) (n : ℕ) (h : Heartbeat) → lives_in (beating_at d n h) ≡ lives_in d
unfolding beating_at
beating_lives d n h =
    either (λ (r : Device). lives_in r ≡ lives_in d) (live_at d.connections n) _ d (at_lives (beating_of h) (beating_live h) d n) refl

-- lists of connections that are open alike: the same numbers are open, and they are as long
pub live_alike : (cs ds : List Connection) (n : ℕ) → map is_live cs ≡ map is_live ds → live_at cs n ≡ live_at ds n
unfolding live_at
live_alike cs ds n e =
    sym (get_or-map is_live cs n closed) ∙ ap (λ (l : List Bool). get_or l n false) e ∙ get_or-map is_live ds n closed

lives_alike : (r d : Device) (n : ℕ) → lives_in r ≡ lives_in d → live_at r.connections n ≡ live_at d.connections n
unfolding lives_in
lives_alike r d n e = live_alike r.connections d.connections n e

lives_long : (r d : Device) → lives_in r ≡ lives_in d → length r.connections ≡ length d.connections
unfolding lives_in
lives_long r d e =
    sym (length-map r.connections is_live) ∙ ap length e ∙ length-map d.connections is_live

-- ---- commands
module _ (n kind : ℕ) where
  last_obeys : (k : ℕ) (d : Device) (t : List ℕ) → live_at d.connections n ≡ true → device_obeys d ≡ true → device_obeys (last_of k d n kind t) ≡ true
  unfolding last_of ran_first ran_with
  last_obeys zero d t l h = h
  last_obeys (suc k) d t l h =
      last_obeys k (ran_first d n kind t).device (drop (entry_size kind t) t)
      (rw (first_connections d n kind t) l)
      (rules_kept.running d n _ _ _ _ l h)

  commands_obey : (d : Device) (count : ℕ) (t : List ℕ) → live_at d.connections n ≡ true → device_obeys d ≡ true → device_obeys (commands_of d n kind count t).device ≡ true
  unfolding commands_of
  commands_obey d count t l h =
      either (λ (r : Ruled). device_obeys r.device ≡ true) (eqb kind 0) _ _
      (last_obeys count d t l h)
      (rules_kept.sending _ n (last_obeys count d t l h))

  commands_lives : (d : Device) (count : ℕ) (t : List ℕ) → lives_in (commands_of d n kind count t).device ≡ lives_in d
  unfolding commands_of lives_in
  commands_lives d count t =
      let e = ap (map is_live) (last_connections count d n kind t) in
      either (λ (r : Ruled). lives_in r.device ≡ lives_in d) (eqb kind 0) _ _ e (sent_lives _ n ∙ e)

-- ---- a keep-alive
be32_small : (s : List ℕ) (at : ℕ) → Octets s → be32_at s at < 4294967296
unfolding be32_at
be32_small s at o = omega (arith, o at, o (at + 1), o (at + 2), o (at + 3))

heartbeat_fits : (t : List ℕ) → Octets t → fits_form (heartbeat_of t) ≡ true
unfolding heartbeat_of fits_form
heartbeat_fits t o =
    either (λ (h : Heartbeat). fits_form h ≡ true) (eqb (length t) seconds_bytes) (InSeconds (record { 0 = be16_at t 0 })) (InMilliseconds (record { 0 = be32_at t 0 }))
    (le-leb (be16_at t 0) 65535 (omega (arith, be16_small t 0 o)))
    (le-leb (be32_at t 0) top_milliseconds (omega (arith, be32_small t 0 o)))

-- ---- a sound message
obeying : (d : Device) (n : ℕ) (m : List ℕ) → Octets m → SoundAt m (length m) → live_at d.connections n ≡ true → device_obeys d ≡ true → device_obeys (sound_of d n m).device ≡ true
unfolding sound_of kept_alive
obeying d n m o s l h =
    let t = drop header_end m in
    let heard = rules_kept.hearing d n h in
    let still : live_at (heard_at d n).connections n ≡ true = lives_alike (heard_at d n) d n (heard_lives d n) ∙ l in
    either Kept (eqb (pdu_type m) keep_alive) _ _
    (rules_kept.beating d n (heartbeat_of t) (heartbeat_fits t (octets_drop header_end m o)) h)
    (either Kept (ltb (pdu_type m) notification) _ _ (commands_obey n (pdu_type m) (heard_at d n) (message_count m) t still heard) heard)
  where
    Kept : Ruled → Type 0
    Kept r = device_obeys r.device ≡ true

living : (d : Device) (n : ℕ) (m : List ℕ) → lives_in (sound_of d n m).device ≡ lives_in d
unfolding sound_of kept_alive
living d n m =
    let t = drop header_end m in
    either Kept (eqb (pdu_type m) keep_alive) _ _
    (beating_lives d n (heartbeat_of t))
    (either Kept (ltb (pdu_type m) notification) _ _ (commands_lives n (pdu_type m) (heard_at d n) (message_count m) t ∙ heard_lives d n) (heard_lives d n))
  where
    Kept : Ruled → Type 0
    Kept r = lives_in r.device ≡ lives_in d

told_lives : (d : Device) (at : ℕ) → lives_in (told_at d at) ≡ lives_in d
unfolding lives_in
told_lives d at = ap (map is_live) (told_connections d at)

pub sound_kept : SoundKept
sound_kept =
    record {
      obeying = obeying;
      living = living;
      long = λ d n m. lives_long (sound_of d n m).device d (living d n m);
      sent_living = sent_lives;
      sent_long = λ d n. lives_long (sent_at d n) d (sent_lives d n);
      told_living = told_lives;
      told_long = λ d at. ap length (told_connections d at);
    }
