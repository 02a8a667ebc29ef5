-- AllIsTaken: where there is room, nothing is refused while the connection is open. Assumes nothing.
use Prim.Native.Nat.{ℕ, ◌+◌, ◌-◌, ◌*◌, ◌≤◌}
use mathlib.Core.Path.{◌≡◌, refl, sym, ap, ◌∙◌}
use mathlib.Core.Bool.{Bool, true, false, cond, true≢false}
use mathlib.Core.List.{List, [], ◌∷◌, ◌++◌}
use native.Mathlib.Omega.{arith}
use lib.ListN.{length, take, drop, get_or, length-append, length-drop}
use lib.Seq.{length-take-le}
use borrow.Author.Tests.{le-ltb}
use Rattle.laws.specs.Lists.{joined}
use Rattle.octets.specs.Numbers.{Octets}
use Rattle.octets.proofs.Digits.{octets_take, octets_drop}
use Rattle.frame.specs.Decide.{decide, taken, settled}
use Rattle.frame.proofs.Ways.{deciding}
use Rattle.connection.specs.State.{live_at}
use Rattle.device.specs.declared.Device.{Device}
use Rattle.stream.specs.Calls.{Held, put, only}
use Rattle.stream.proofs.Lent.{put_same, get_d_counted}
use Rattle.endpoint.specs.Deliver.{held_at}
use Rattle.endpoint.specs.declared.Record.{Record}
use Rattle.endpoint.proofs.States.{live_low}
use Rattle.replies.specs.Bytes.{least_output}
use Rattle.feed.specs.Feed.{Feeding, unfed, reply_length, message_told, offer}
use Rattle.promise.specs.Rulebook.{open?, admit}
use Rattle.promise.specs.Kept.{held_in}
use Rattle.promise.proofs.OpenConnections.{GoodAt}
use Rattle.promise.proofs.HeldBytes.{kept_good, kept_counts}
use Rattle.cutting.specs.Cutting.{feed_all}
use Rattle.cutting.specs.Taken.{RoomFor, AllIsTaken}
use Rattle.cutting.proofs.LastByte.{needed_some, needed_within}
use Rattle.cutting.proofs.Offers.{forget, line, ruling, held_by, good_waits, good_decides, offer_waits, ruled_line, offer_ruled}
use Rattle.cutting.proofs.Replies.{answering}
use Rattle.cutting.proofs.Walks.{walk, walk_refused, all_walk, unfed_line, kept_lined}

-- an open connection that is lent enough is not refused
admitted : (d : Device) (n : ℕ) (o : List ℕ) → live_at d.connections n ≡ true → least_output ≤ length o → admit d n o ≡ 0
unfolding admit
admitted d n o l w = rw (l, le-ltb (length o) least_output w)

shut_refused : (d : Device) (n : ℕ) (o : List ℕ) → live_at d.connections n ≡ false → admit d n o ≡ 3
unfolding admit
shut_refused d n o l = rw l

-- a message that is handed over is held no longer
handed_over : (e : Device) (h : Held) (n : ℕ) → held_by e (put h n []) n ≡ []
unfolding only
handed_over e h n = go (open? e n)
  where
    go : (b : Bool) → cond b (put h n [] n) [] ≡ []
    go true = put_same h n []
    go false = refl

-- all of the bytes p are taken, or the connection is closed at the end
abbrev Took : ℕ → Feeding → List ℕ → ℕ → Type 0
Took n f p total = live_at (walk n f p).state.device.connections n ≡ true → (walk n f p).taken ≡ total

module _ (n : ℕ) where
  abbrev Takes : List ℕ → Type 0
  Takes p = (d : Device) (h : Held) (out : List ℕ) (t u : ℕ) (ms : List (List ℕ)) → GoodAt d h → Octets p → live_at d.connections n ≡ true
      → least_output + u + 2 * (length (h n) + length p) ≤ length out → Took n (line d h out t u ms) p (t + length p)

  -- a byte more
  module _ (b : ℕ) (q : List ℕ) (more : Takes q) (d : Device) (h : Held) (out : List ℕ) (t u : ℕ) (ms : List (List ℕ)) (good : GoodAt d h)
      (o : Octets (b ∷ q)) (live : live_at d.connections n ≡ true)
      (room : least_output + u + 2 * (length (h n) + length (b ∷ q)) ≤ length out)
    where
      wide : least_output ≤ length (drop u out)
      wide = omega (arith, length-drop u out)

      a : admit d n (drop u out) ≡ 0
      a = admitted d n (drop u out) live wide

      one : Octets (b ∷ [])
      one = octets_take 1 (b ∷ q) o

      waits : settled (decide (h n ++ (b ∷ []))) ≡ false → Took n (forget (offer n (line d h out t u ms) (b ∷ []))) q (t + length (b ∷ q))
      waits w =
          let x = h n ++ (b ∷ []) in
          let l : length (put h n x n) ≡ length (h n) + 1 = ap length (put_same h n x) ∙ length-append (h n) (b ∷ []) in
          let s : t + length (b ∷ []) + length q ≡ t + length (b ∷ q) = omega arith in
          rw (offer_waits n d h good out t u ms (b ∷ []) a w, ← s)
          (more d (put h n x) out (t + length (b ∷ [])) u ms (good_waits d h good n (b ∷ []) (drop u out) a one w) (octets_drop 1 (b ∷ q) o) live (omega arith))

      decides : settled (decide (h n ++ (b ∷ []))) ≡ true → Took n (forget (offer n (line d h out t u ms) (b ∷ []))) q (t + length (b ∷ q))
      decides e =
          let x = h n ++ (b ∷ []) in
          let k = taken (decide x) in
          let m = take k x in
          let s = ruling d n m (drop u out) in
          let g = held_by s.0 (put h n []) in
          let lm : length m ≡ k = length-take-le k x (deciding.within x) in
          let dm : decide m ≡ decide x = deciding.enough x e in
          let w = answering d n m (drop u out) wide (ap taken dm ∙ sym lm) (ap settled dm ∙ e) in
          let one_more : k - length (h n) ≡ 1 = omega (arith, needed_some (h n) (b ∷ []) (good.waiting n) e, needed_within (h n) (b ∷ []) (good.waiting n) e) in
          let lo : length (take u out ++ s.1.output) ≡ length out =
          length-append (take u out) s.1.output ∙ omega (arith, w.wide, length-drop u out, length-take-le u out (omega arith)) in
          let lh : length (g n) ≡ 0 = ap length (handed_over s.0 h n) in
          let sum : t + (k - length (h n)) + length q ≡ t + length (b ∷ q) = omega arith in
          let good2 = good_decides d h good n (b ∷ []) (drop u out) a e one in
          rw (offer_ruled n d h good out t u ms (b ∷ []) a e, ← sum) (way (live_at s.0.connections n) refl good2 (omega (arith, w.twice, lm, lo, lh)))
        where
          way : (z : Bool)
              → let k = taken (decide (h n ++ (b ∷ []))) in
              let s = ruling d n (take k (h n ++ (b ∷ []))) (drop u out) in
              live_at s.0.connections n ≡ z → GoodAt s.0 (held_by s.0 (put h n []))
              → least_output + (u + reply_length s.1.answer) + 2 * (length (held_by s.0 (put h n []) n) + length q) ≤ length (take u out ++ s.1.output)
              → Took n (ruled_line d (put h n []) n (take k (h n ++ (b ∷ []))) out (t + (k - length (h n))) u ms) q (t + (k - length (h n)) + length q)
          way true l g r =
              let k = taken (decide (h n ++ (b ∷ []))) in
              let s = ruling d n (take k (h n ++ (b ∷ []))) (drop u out) in
              more s.0 (held_by s.0 (put h n [])) (take u out ++ s.1.output) (t + (k - length (h n))) (u + reply_length s.1.answer) (ms ++ message_told s.1.answer) g (octets_drop 1 (b ∷ q) o) l r
          way false l g r = λ alive.
              let k = taken (decide (h n ++ (b ∷ []))) in
              let s = ruling d n (take k (h n ++ (b ∷ []))) (drop u out) in
              let f = walk_refused n q s.0 (held_by s.0 (put h n [])) (take u out ++ s.1.output) (t + (k - length (h n))) (u + reply_length s.1.answer) (ms ++ message_told s.1.answer) g 2 (shut_refused s.0 n _ l) in
              absurd (true≢false (sym alive ∙ ap (λ (y : Feeding). live_at y.state.device.connections n) f ∙ l))

      step : Took n (line d h out t u ms) (b ∷ q) (t + length (b ∷ q))
      step = go (settled (decide (h n ++ (b ∷ [])))) refl
        where
          go : (z : Bool) → settled (decide (h n ++ (b ∷ []))) ≡ z → Took n (line d h out t u ms) (b ∷ q) (t + length (b ∷ q))
          go false w = waits w
          go true e = decides e

  takes : (p : List ℕ) → Takes p
  takes [] d h out t u ms good o live room = λ alive. omega arith
  takes (b ∷ q) d h out t u ms good o live room = step b q (takes q) d h out t u ms good o live room

all_taken : (r : Record) (area : List ℕ) (n : ℕ) (out : List ℕ) (pieces : List (List ℕ)) → RoomFor r area n (joined pieces) out
    → let f = feed_all n (unfed r area out) pieces in
    live_at f.state.device.connections n ≡ true → f.taken ≡ length (joined pieces)
all_taken r area n out pieces w alive =
    let f = unfed r area out in
    let l = kept_lined n r area out w.kept in
    let h = held_in r area in
    let e = all_walk n pieces f l w.octets in
    let low = live_low r.device.connections n 8 w.live w.kept.eight in
    let held : held_at r n ≡ length (h n) = ap (λ (x : List ℕ). get_or x n 0) (sym (kept_counts r area w.kept)) ∙ get_d_counted h 8 n low in
    let c : least_output + 0 + 2 * (length (h n) + length (joined pieces)) ≤ length out = omega (arith, w.room) in
    let z = takes n (joined pieces) r.device h out 0 0 [] (kept_good r area w.kept) w.octets w.live c in
    ap (λ (y : Feeding). y.taken) e
    ∙ (rw (← (unfed_line r area out w.kept)) at z) (sym (ap (λ (y : Feeding). live_at y.state.device.connections n) e) ∙ alive)
    ∙ omega arith

pub taking_all : AllIsTaken
taking_all = record { pieces = all_taken }
