-- One offer to a device with bytes held, by what the connection, the output and the bytes come to. Assumes nothing.
use Prim.Native.Nat.{ℕ, suc, ◌+◌, ◌-◌}
use mathlib.Core.Path.{◌≡◌, refl, sym, ap, ◌∙◌}
use mathlib.Core.Bool.{true, false, true≢false}
use mathlib.Core.List.{List, [], ◌∷◌, ◌++◌, append-nil}
use native.Mathlib.Nat.{add-zero}
use lib.ListN.{length, take, drop, take-append-drop}
use Rattle.octets.specs.Numbers.{Octets}
use Rattle.frame.specs.Decide.{decide, taken, settled}
use Rattle.frame.specs.declared.Decision.{Decision}
use Rattle.frame.specs.declared.Decision.TheVariants.{Undecided, Faulty, Sound}
use Rattle.frame.proofs.Ways.{deciding}
use Rattle.connection.specs.State.{live_at}
use Rattle.device.specs.declared.Device.{Device}
use Rattle.stream.specs.Calls.{deliver, handed, Held, put, only}
use Rattle.stream.specs.Scaffold.{whole, delivered, step}
use Rattle.endpoint.specs.Outcome.{Outcome, outcome}
use Rattle.endpoint.specs.Deliver.{deliver_call}
use Rattle.feed.specs.Feed.{Feeding, feeding, is_message, bytes_taken, reply_length, message_told, offer}
use Rattle.promise.specs.Rulebook.{Given, rule, open?, admit, message_by}
use Rattle.promise.specs.Calls.{call_of, record_with, area_with, with_taken}
use Rattle.promise.specs.Scaffold.{outcome_of}
use Rattle.promise.proofs.OpenConnections.{GoodAt, live_gone}
use Rattle.promise.proofs.Calls.{told}
use Rattle.promise.proofs.Kept.{next}

-- a feeding whose last answer is forgotten
abbrev pub forget : Feeding → Feeding
forget f = feeding [] f.state f.area f.output f.taken f.put f.messages

-- that of a device with bytes held
abbrev pub line : Device → Held → List ℕ → ℕ → ℕ → List (List ℕ) → Feeding
line d h out t u ms = feeding [] (record_with d h) (area_with h) out t u ms

-- what the rules give for the whole message m of connection n
abbrev pub ruling : Device → ℕ → List ℕ → List ℕ → Device × Given
ruling d n m out = rule d (handed n m out)

-- the bytes then held
abbrev pub held_by : Device → Held → Held
held_by e h = only (open? e) h

module _ (d : Device) (h : Held) (good : GoodAt d h) (n : ℕ) (p : List ℕ) (out : List ℕ) where
  call_refused : (q : ℕ) → admit d n out ≡ suc q → deliver_call (record_with d h) (area_with h) n p out ≡ outcome (suc q ∷ []) (record_with d h) (area_with h) out
  unfolding call_of step delivered outcome_of
  call_refused q a = told d h good (deliver n p out) ∙ rw a

  module _ (a : admit d n out ≡ 0) where
    call_waits : settled (decide (h n ++ p)) ≡ false
        → deliver_call (record_with d h) (area_with h) n p out
        ≡ outcome (0 ∷ 1 ∷ length p ∷ []) (record_with d (put h n (h n ++ p))) (area_with (put h n (h n ++ p))) out
    unfolding call_of step delivered outcome_of
    call_waits w = told d h good (deliver n p out) ∙ rw (a, w)

    pub good_waits : Octets p → settled (decide (h n ++ p)) ≡ false → GoodAt d (put h n (h n ++ p))
    unfolding step delivered
    good_waits b w = rw (a, w) at (next d h good (deliver n p out) b)

    module _ (e : settled (decide (h n ++ p)) ≡ true) where
      call_decides : let k = taken (decide (h n ++ p)) in
          let s = ruling d n (take k (h n ++ p)) out in
          deliver_call (record_with d h) (area_with h) n p out
          ≡ outcome (with_taken (k - length (h n)) s.1.answer) (record_with s.0 (held_by s.0 (put h n []))) (area_with (held_by s.0 (put h n []))) s.1.output
      unfolding call_of step delivered outcome_of whole
      call_decides = told d h good (deliver n p out) ∙ rw (a, e)

      pub good_decides : Octets p
          → let s = ruling d n (take (taken (decide (h n ++ p))) (h n ++ p)) out in
          GoodAt s.0 (held_by s.0 (put h n []))
      unfolding step delivered whole
      good_decides b = rw (a, e) at (next d h good (deliver n p out) b)

-- o is what a delivery gave
offer_is : (n : ℕ) (d : Device) (h : Held) (out : List ℕ) (t u : ℕ) (ms : List (List ℕ)) (p : List ℕ) (o : Outcome)
    → deliver_call (record_with d h) (area_with h) n p (drop u out) ≡ o
    → offer n (line d h out t u ms) p
    ≡ feeding o.answer o.state o.area (take u out ++ o.output) (t + bytes_taken o.answer) (u + reply_length o.answer) (ms ++ message_told o.answer)
unfolding offer
offer_is n d h out t u ms p o e = rw e

module _ (n : ℕ) (d : Device) (h : Held) (good : GoodAt d h) (out : List ℕ) (t u : ℕ) (ms : List (List ℕ)) (p : List ℕ) where
  pub offer_refused : (q : ℕ) → admit d n (drop u out) ≡ suc q → offer n (line d h out t u ms) p ≡ feeding (suc q ∷ []) (record_with d h) (area_with h) out t u ms
  unfolding reply_length is_message message_told
  offer_refused q a =
      offer_is n d h out t u ms p _ (call_refused d h good n p (drop u out) q a)
      ∙ rw (take-append-drop u out, add-zero, add-zero, append-nil)

  module _ (a : admit d n (drop u out) ≡ 0) where
    pub offer_waits : settled (decide (h n ++ p)) ≡ false
        → offer n (line d h out t u ms) p
        ≡ feeding (0 ∷ 1 ∷ length p ∷ []) (record_with d (put h n (h n ++ p))) (area_with (put h n (h n ++ p))) out (t + length p) u ms
    unfolding reply_length is_message message_told
    offer_waits w =
        offer_is n d h out t u ms p _ (call_waits d h good n p (drop u out) a w)
        ∙ rw (take-append-drop u out, add-zero, append-nil)

    pub offer_decides : settled (decide (h n ++ p)) ≡ true
        → let k = taken (decide (h n ++ p)) in
        let s = ruling d n (take k (h n ++ p)) (drop u out) in
        let o = with_taken (k - length (h n)) s.1.answer in
        offer n (line d h out t u ms) p
        ≡ feeding o (record_with s.0 (held_by s.0 (put h n []))) (area_with (held_by s.0 (put h n []))) (take u out ++ s.1.output)
        (t + bytes_taken o) (u + reply_length o) (ms ++ message_told o)
    offer_decides e = offer_is n d h out t u ms p _ (call_decides d h good n p (drop u out) a e)

-- the answer to a whole message, whatever is told of the bytes taken
pub record Answered (k : ℕ) (a : List ℕ) (e : Device) (n : ℕ) : Type 0 where
  pub bytes : bytes_taken (with_taken k a) ≡ k
  pub reply : reply_length (with_taken k a) ≡ reply_length a
  pub told : message_told (with_taken k a) ≡ message_told a
  -- it tells of a sound message, or the connection is closed
  pub closes : is_message (with_taken k a) ≡ false → live_at e.connections n ≡ false

by : (k : ℕ) (d : Device) (n : ℕ) (m out : List ℕ) (x : Decision) → settled x ≡ true
    → let s = message_by x d n m out in
    Answered k s.1.answer s.0 n
unfolding message_by settled with_taken reply_length is_message message_told
by k d n m out Undecided e = absurd (true≢false (sym e))
by k d n m out (Faulty f t) e = record { bytes = refl; reply = refl; told = refl; closes = λ z. live_gone d n }
by k d n m out (Sound t) e = record { bytes = refl; reply = refl; told = refl; closes = λ z. absurd (true≢false z) }

pub answered : (k : ℕ) (d : Device) (n : ℕ) (m out : List ℕ) → settled (decide m) ≡ true
    → let s = ruling d n m out in
    Answered k s.1.answer s.0 n
unfolding rule
answered k d n m out e = by k d n m out (decide m) e

-- where the message m ends: the reply stands behind the others, and connections that are then closed hold nothing
abbrev pub ruled_line : Device → Held → ℕ → List ℕ → List ℕ → ℕ → ℕ → List (List ℕ) → Feeding
ruled_line d h n m out t u ms =
    let s = ruling d n m (drop u out) in
    line s.0 (held_by s.0 h) (take u out ++ s.1.output) t (u + reply_length s.1.answer) (ms ++ message_told s.1.answer)

module _ (n : ℕ) (d : Device) (h : Held) (good : GoodAt d h) (out : List ℕ) (t u : ℕ) (ms : List (List ℕ)) (p : List ℕ)
    (a : admit d n (drop u out) ≡ 0) (e : settled (decide (h n ++ p)) ≡ true)
  where
    pub message_answered : let k = taken (decide (h n ++ p)) in
        let s = ruling d n (take k (h n ++ p)) (drop u out) in
        Answered (k - length (h n)) s.1.answer s.0 n
    message_answered =
        let k = taken (decide (h n ++ p)) in
        answered (k - length (h n)) d n (take k (h n ++ p)) (drop u out) (ap settled (deciding.enough (h n ++ p) e) ∙ e)

    pub offer_ruled : let k = taken (decide (h n ++ p)) in
        forget (offer n (line d h out t u ms) p) ≡ ruled_line d (put h n []) n (take k (h n ++ p)) out (t + (k - length (h n))) u ms
    offer_ruled =
        let w = message_answered in
        ap forget (offer_decides n d h good out t u ms p a e) ∙ rw (w.bytes, w.reply, w.told)
