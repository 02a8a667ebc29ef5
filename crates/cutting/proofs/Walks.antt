-- CuttingDoesNotMatter: bytes fed in pieces come to what they come to one at a time. Assumes nothing.
use Prim.Native.Nat.{ℕ, zero, suc, ◌+◌, ◌-◌, ◌≤◌}
use mathlib.Core.Path.{◌≡◌, refl, sym, ap, ◌∙◌}
use mathlib.Core.Bool.{Bool, true, false, cond}
use mathlib.Core.List.{List, [], ◌∷◌, ◌++◌, append-nil, append_assoc}
use native.Mathlib.Nat.{add-zero}
use native.Mathlib.Omega.{arith}
use lib.Dec.{ltb}
use lib.ListN.{length, take, drop, length-append, length-drop, take-append-drop}
use lib.Seq.{length-take-le}
use borrow.Author.Tests.{ne_eqb, ltb-false}
use Rattle.laws.specs.Lists.{joined}
use Rattle.octets.specs.Numbers.{Octets}
use Rattle.octets.proofs.Digits.{octets_take, octets_drop}
use Rattle.frame.specs.Decide.{decide, taken, settled}
use Rattle.frame.proofs.Ways.{deciding}
use Rattle.frame.proofs.Bytes.{part_waits}
use Rattle.connection.specs.State.{live_at}
use Rattle.device.specs.declared.Device.{Device}
use Rattle.stream.specs.Calls.{Held, put}
use Rattle.stream.specs.Lent.{counts_of}
use Rattle.stream.proofs.Bytes.{octets_nil}
use Rattle.stream.proofs.Lent.{put_same, put_self, put_put}
use Rattle.replies.specs.Bytes.{least_output}
use Rattle.endpoint.specs.declared.Record.{Record}
use Rattle.feed.specs.Feed.{Feeding, feeding, unfed, is_message, bytes_taken, reply_length, message_told, offer, feed_more, feed_piece, feed_of}
use Rattle.promise.specs.Rulebook.{admit}
use Rattle.promise.specs.Calls.{record_with, area_with}
use Rattle.promise.specs.Kept.{held_in, Kept}
use Rattle.promise.proofs.OpenConnections.{GoodAt}
use Rattle.promise.proofs.HeldBytes.{kept_good, kept_counts, kept_area}
use Rattle.promise.proofs.Kept.{whole_state}
use Rattle.cutting.specs.Cutting.{feed_next, feed_all, SameEnd, CuttingDoesNotMatter}
use Rattle.cutting.proofs.LastByte.{needed_some, needed_within, before, last, length_before, split, before_undecided, last_decides, whole_message, last_needed}
use Rattle.cutting.proofs.Replies.{answering}
use Rattle.cutting.proofs.Shifts.{next_is}
use Rattle.cutting.proofs.Offers.{forget, line, ruling, held_by, good_waits, good_decides, offer_refused, offer_waits, offer_decides, ruled_line, message_answered, offer_ruled}

octets_left : (a b : List ℕ) → Octets (a ++ b) → Octets a
octets_left [] b o i = octets_nil i
octets_left (x ∷ a) b o zero = o zero
octets_left (x ∷ a) b o (suc i) = octets_left a b (λ j. o (suc j)) i

octets_right : (a b : List ℕ) → Octets (a ++ b) → Octets b
octets_right [] b o = o
octets_right (x ∷ a) b o = octets_right a b (λ j. o (suc j))

-- ---- the walk: each byte is offered alone

module _ (n : ℕ) where
  abbrev pub walk : Feeding → List ℕ → Feeding
  walk f [] = f
  walk f (b ∷ q) = walk (forget (offer n f (b ∷ []))) q

  walk_append : (p q : List ℕ) (f : Feeding) → walk f (p ++ q) ≡ walk (walk f p) q
  walk_append [] q f = refl
  walk_append (b ∷ p) q f = walk_append p q (forget (offer n f (b ∷ [])))

  pub walk_refused : (p : List ℕ) (d : Device) (h : Held) (out : List ℕ) (t u : ℕ) (ms : List (List ℕ)) → GoodAt d h
      → (q : ℕ) → admit d n (drop u out) ≡ suc q → walk (line d h out t u ms) p ≡ line d h out t u ms
  walk_refused [] d h out t u ms good q a = refl
  walk_refused (b ∷ p) d h out t u ms good q a =
      ap (λ (f : Feeding). walk (forget f) p) (offer_refused n d h good out t u ms (b ∷ []) q a) ∙ walk_refused p d h out t u ms good q a

  walk_waits : (p : List ℕ) (d : Device) (h : Held) (out : List ℕ) (t u : ℕ) (ms : List (List ℕ)) → GoodAt d h → Octets p
      → admit d n (drop u out) ≡ 0 → settled (decide (h n ++ p)) ≡ false
      → walk (line d h out t u ms) p ≡ line d (put h n (h n ++ p)) out (t + length p) u ms
  walk_waits [] d h out t u ms good o a w = rw (append-nil, put_self h n, add-zero)
  walk_waits (b ∷ q) d h out t u ms good o a w =
      let x = h n ++ (b ∷ []) in
      let s : x ++ q ≡ h n ++ (b ∷ q) = append_assoc (h n) (b ∷ []) q in
      let v : settled (decide (x ++ q)) ≡ false = rw s w in
      let wb = part_waits x q v in
      let g = put h n x in
      let e : put h n x n ≡ x = put_same h n x in
      let y : put g n (g n ++ q) ≡ put h n (h n ++ (b ∷ q)) = ap (λ (z : List ℕ). put g n (z ++ q)) e ∙ put_put h n x (x ++ q) ∙ ap (put h n) s in
      let l : t + length (b ∷ []) + length q ≡ t + length (b ∷ q) = omega arith in
      ap (λ (f : Feeding). walk (forget f) q) (offer_waits n d h good out t u ms (b ∷ []) a wb)
      ∙ walk_waits q d g out (t + length (b ∷ [])) u ms (good_waits d h good n (b ∷ []) (drop u out) a (octets_take 1 (b ∷ q) o) wb) (octets_drop 1 (b ∷ q) o) a (rw e v)
      ∙ ap (λ (k : Held). line d k out (t + length (b ∷ []) + length q) u ms) y ∙ ap (λ (k : ℕ). line d (put h n (h n ++ (b ∷ q))) out k u ms) l

  module _ (d : Device) (h : Held) (out : List ℕ) (t u : ℕ) (ms : List (List ℕ)) (good : GoodAt d h) (p : List ℕ) (o : Octets p)
      (a : admit d n (drop u out) ≡ 0) (e : settled (decide (h n ++ p)) ≡ true)
    where
      -- the bytes up to the deciding one, one at a time, come to their message
      walk_decides : let k = taken (decide (h n ++ p)) in
          walk (line d h out t u ms) (take (k - length (h n)) p) ≡ ruled_line d (put h n []) n (take k (h n ++ p)) out (t + (k - length (h n))) u ms
      walk_decides =
          let x = h n in
          let w = good.waiting n in
          let k = taken (decide (x ++ p)) in
          let front = before x p w e in
          let b = last x p w e in
          let y = x ++ front in
          let g = put h n y in
          let o1 = octets_take (k - length x - 1) p o in
          let wb = before_undecided x p w e in
          let good2 = good_waits d h good n front (drop u out) a o1 wb in
          let same : put h n y n ≡ y = put_same h n y in
          let e2 : settled (decide (g n ++ (b ∷ []))) ≡ true = ap (λ (z : List ℕ). settled (decide (z ++ (b ∷ [])))) same ∙ ap settled (last_decides x p w e) ∙ e in
          let k2 = taken (decide (g n ++ (b ∷ []))) - length (g n) in
          let m2 = take (taken (decide (g n ++ (b ∷ [])))) (g n ++ (b ∷ [])) in
          let count : k2 ≡ 1 = ap (λ (z : List ℕ). taken (decide (z ++ (b ∷ []))) - length z) same ∙ last_needed x p w e in
          let message : m2 ≡ take k (x ++ p) = ap (λ (z : List ℕ). take (taken (decide (z ++ (b ∷ [])))) (z ++ (b ∷ []))) same ∙ whole_message x p w e in
          let total : t + length front + k2 ≡ t + (k - length x) = omega (arith, length_before x p w e, needed_some x p w e) in
          ap (walk (line d h out t u ms)) (split x p w e)
          ∙ walk_append front (b ∷ []) (line d h out t u ms)
          ∙ ap (λ (f : Feeding). walk f (b ∷ [])) (walk_waits front d h out t u ms good o1 a wb)
          ∙ offer_ruled n d g good2 out (t + length front) u ms (b ∷ []) a e2
          ∙ ap (λ (z : Held). ruled_line d z n m2 out (t + length front + k2) u ms) (put_put h n y [])
          ∙ ap (λ (z : List ℕ). ruled_line d (put h n []) n z out (t + length front + k2) u ms) message
          ∙ ap (λ (z : ℕ). ruled_line d (put h n []) n (take k (x ++ p)) out z u ms) total

      -- and the others behind them
      walk_behind : let k = taken (decide (h n ++ p)) in
          walk (line d h out t u ms) p
          ≡ walk (ruled_line d (put h n []) n (take k (h n ++ p)) out (t + (k - length (h n))) u ms) (drop (k - length (h n)) p)
      walk_behind =
          let j = taken (decide (h n ++ p)) - length (h n) in
          ap (walk (line d h out t u ms)) (sym (take-append-drop j p))
          ∙ walk_append (take j p) (drop j p) (line d h out t u ms)
          ∙ ap (λ (f : Feeding). walk f (drop j p)) walk_decides

  -- ---- one offer and the rest is the walk

  -- a piece, by at most so many offers more
  abbrev feed_from : ℕ → Feeding → List ℕ → Feeding
  feed_from most f p = feed_more most n (drop (bytes_taken (offer n f p).answer) p) (offer n f p)

  from_forgot : (most : ℕ) (f : Feeding) (p : List ℕ) → feed_from most f p ≡ feed_from most (forget f) p
  unfolding offer
  from_forgot most f p = refl

  not_again : (most : ℕ) (left : List ℕ) (g : Feeding) → is_message g.answer ≡ false → feed_more most n left g ≡ g
  unfolding feed_more
  not_again zero left g e = refl
  not_again (suc m) left g e = rw e

  none_left : (most : ℕ) (g : Feeding) → is_message g.answer ≡ true → feed_more most n [] g ≡ g
  unfolding feed_more
  none_left zero g e = refl
  none_left (suc m) g e = rw e

  again : (m c : ℕ) (left : List ℕ) (g : Feeding) → is_message g.answer ≡ true → feed_more (suc m) n (c ∷ left) g ≡ feed_from m g (c ∷ left)
  unfolding feed_more
  again m c left g e = rw (e, ne_eqb (length (c ∷ left)) 0 (λ z. omega arith))

  -- a good device with bytes held
  pub record Lined (f : Feeding) : Type 0 where
    pub device : Device
    pub held : Held
    pub room : List ℕ
    pub count : ℕ
    pub behind : ℕ
    pub told : List (List ℕ)
    pub good : GoodAt device held
    pub fits : behind ≤ length room
    pub is : f ≡ line device held room count behind told

  abbrev Walks : ℕ → Type 0
  Walks most = (p : List ℕ) (d : Device) (h : Held) (out : List ℕ) (t u : ℕ) (ms : List (List ℕ)) → GoodAt d h → Octets p → length p ≤ most
      → forget (feed_from most (line d h out t u ms) p) ≡ walk (line d h out t u ms) p

  -- the same, of one offer less
  abbrev Below : ℕ → Type 0
  Below zero = Unit {0}
  Below (suc m) = Walks m

  shut_refuses : (e : Device) (o : List ℕ) → live_at e.connections n ≡ false → admit e n o ≡ 3
  unfolding admit
  shut_refuses e o l = rw l

  module _ (d : Device) (h : Held) (out : List ℕ) (t u : ℕ) (ms : List (List ℕ)) (good : GoodAt d h) (p : List ℕ) (o : Octets p)
      (a : admit d n (drop u out) ≡ 0) (e : settled (decide (h n ++ p)) ≡ true)
    where
      -- behind a message the rest is fed, g being the offer that decided it
      tail : (most : ℕ) → Below most → length p ≤ most → (left : List ℕ) → left ≡ drop (taken (decide (h n ++ p)) - length (h n)) p
          → (b : Bool) → is_message (offer n (line d h out t u ms) p).answer ≡ b
          → let k = taken (decide (h n ++ p)) in
          forget (feed_more most n left (offer n (line d h out t u ms) p))
          ≡ walk (ruled_line d (put h n []) n (take k (h n ++ p)) out (t + (k - length (h n))) u ms) left
      tail most below l left le false i =
          let k = taken (decide (h n ++ p)) in
          let s = ruling d n (take k (h n ++ p)) (drop u out) in
          let c = (message_answered n d h good out t u ms p a e).closes (sym (ap (λ (f : Feeding). is_message f.answer) (offer_decides n d h good out t u ms p a e)) ∙ i) in
          ap forget (not_again most left (offer n (line d h out t u ms) p) i)
          ∙ offer_ruled n d h good out t u ms p a e
          ∙ sym (walk_refused left s.0 (held_by s.0 (put h n [])) _ _ _ _ (good_decides d h good n p (drop u out) a e o) 2 (shut_refuses s.0 _ c))
      tail most below l [] le true i =
          ap forget (none_left most (offer n (line d h out t u ms) p) i) ∙ offer_ruled n d h good out t u ms p a e
      tail zero below l (c ∷ left) le true i =
          absurd (omega (arith, needed_some (h n) p (good.waiting n) e, needed_within (h n) p (good.waiting n) e))
      tail (suc m) below l (c ∷ left) le true i =
          let k = taken (decide (h n ++ p)) in
          let j = k - length (h n) in
          let s = ruling d n (take k (h n ++ p)) (drop u out) in
          let short : length (c ∷ left) ≤ m = omega (arith, ap length le, length-drop j p, needed_some (h n) p (good.waiting n) e) in
          let bytes : Octets (c ∷ left) = rw le (octets_drop j p o) in
          ap forget (again m c left (offer n (line d h out t u ms) p) i ∙ from_forgot m (offer n (line d h out t u ms) p) (c ∷ left))
          ∙ ap (λ (f : Feeding). forget (feed_from m f (c ∷ left))) (offer_ruled n d h good out t u ms p a e)
          ∙ below (c ∷ left) s.0 (held_by s.0 (put h n [])) _ _ _ _ (good_decides d h good n p (drop u out) a e o) bytes short

      fed_behind_lem : (most : ℕ) → Below most → length p ≤ most → forget (feed_from most (line d h out t u ms) p) ≡ walk (line d h out t u ms) p
      fed_behind_lem most below l =
          let g = offer n (line d h out t u ms) p in
          let j = taken (decide (h n ++ p)) - length (h n) in
          let taking : bytes_taken g.answer ≡ j =
          ap (λ (f : Feeding). bytes_taken f.answer) (offer_decides n d h good out t u ms p a e) ∙ (message_answered n d h good out t u ms p a e).bytes in
          ap (λ (x : ℕ). forget (feed_more most n (drop x p) g)) taking
          ∙ tail most below l (drop j p) refl (is_message g.answer) refl
          ∙ sym (walk_behind d h out t u ms good p o a e)

  refusal_told : (q : ℕ) → is_message (suc q ∷ []) ≡ false
  unfolding is_message
  refusal_told q = refl

  more_told : (k : ℕ) → is_message (0 ∷ 1 ∷ k ∷ []) ≡ false
  unfolding is_message
  more_told k = refl

  walks_step : (most : ℕ) → Below most → Walks most
  walks_step most below p d h out t u ms good o l = go (admit d n (drop u out)) refl (settled (decide (h n ++ p))) refl
    where
      go : (q : ℕ) → admit d n (drop u out) ≡ q → (b : Bool) → settled (decide (h n ++ p)) ≡ b
          → forget (feed_from most (line d h out t u ms) p) ≡ walk (line d h out t u ms) p
      go (suc q) a b e =
          ap (λ (g : Feeding). forget (feed_more most n (drop (bytes_taken g.answer) p) g)) (offer_refused n d h good out t u ms p q a)
          ∙ ap forget (not_again most _ (feeding (suc q ∷ []) (record_with d h) (area_with h) out t u ms) (refusal_told q))
          ∙ sym (walk_refused p d h out t u ms good q a)
      go zero a false e =
          let g = put h n (h n ++ p) in
          ap (λ (f : Feeding). forget (feed_more most n (drop (bytes_taken f.answer) p) f)) (offer_waits n d h good out t u ms p a e)
          ∙ ap forget (not_again most _ (feeding (0 ∷ 1 ∷ length p ∷ []) (record_with d g) (area_with g) out (t + length p) u ms) (more_told (length p)))
          ∙ sym (walk_waits p d h out t u ms good o a e)
      go zero a true e = fed_behind_lem d h out t u ms good p o a e most below l

  walks : (most : ℕ) → Walks most
  walks zero = walks_step zero tt
  walks (suc m) = walks_step (suc m) (walks m)

  -- ---- pieces one after another

  -- where nothing is refused, the output is long enough
  admits_wide : (d : Device) (o : List ℕ) → admit d n o ≡ 0 → least_output ≤ length o
  unfolding admit
  admits_wide d o a = go (live_at d.connections n) (ltb (length o) least_output) refl a
    where
      go : (l b : Bool) → ltb (length o) least_output ≡ b → cond {A = ℕ} l (cond b 4 0) 3 ≡ 0 → least_output ≤ length o
      go true true e z = absurd (omega arith)
      go true false e z = ltb-false (length o) least_output e
      go false b e z = absurd (omega arith)

  offer_lined : (p : List ℕ) (d : Device) (h : Held) (out : List ℕ) (t u : ℕ) (ms : List (List ℕ)) → GoodAt d h → u ≤ length out → Octets p
      → Lined (forget (offer n (line d h out t u ms) p))
  offer_lined p d h out t u ms good f o = go (admit d n (drop u out)) refl (settled (decide (h n ++ p))) refl
    where
      go : (q : ℕ) → admit d n (drop u out) ≡ q → (b : Bool) → settled (decide (h n ++ p)) ≡ b → Lined (forget (offer n (line d h out t u ms) p))
      go (suc q) a b e =
          record { device = d; held = h; room = out; count = t; behind = u; told = ms; good = good; fits = f; is = ap forget (offer_refused n d h good out t u ms p q a) }
      go zero a false e =
          record {
            device = d;
            held = put h n (h n ++ p);
            room = out;
            count = t + length p;
            behind = u;
            told = ms;
            good = good_waits d h good n p (drop u out) a o e;
            fits = f;
            is = ap forget (offer_waits n d h good out t u ms p a e);
          }
      go zero a true e =
          let k = taken (decide (h n ++ p)) in
          let m = take k (h n ++ p) in
          let s = ruling d n m (drop u out) in
          let same = deciding.enough (h n ++ p) e in
          let lm : length m ≡ k = length-take-le k (h n ++ p) (deciding.within (h n ++ p)) in
          let w = answering d n m (drop u out) (admits_wide d (drop u out) a) (ap taken same ∙ sym lm) (ap settled same ∙ e) in
          record {
            device = s.0;
            held = held_by s.0 (put h n []);
            room = take u out ++ s.1.output;
            count = t + (k - length (h n));
            behind = u + reply_length s.1.answer;
            told = ms ++ message_told s.1.answer;
            good = good_decides d h good n p (drop u out) a e o;
            fits = omega (arith, w.fits, w.wide, length-append (take u out) s.1.output, length-take-le u out f, length-drop u out);
            is = offer_ruled n d h good out t u ms p a e;
          }

  walk_lined : (p : List ℕ) (f : Feeding) → Lined f → Octets p → Lined (walk f p)
  walk_lined [] f w o = w
  walk_lined (b ∷ q) f w o =
      walk_lined q (forget (offer n f (b ∷ [])))
      (rw w.is (offer_lined (b ∷ []) w.device w.held w.room w.count w.behind w.told w.good w.fits (octets_take 1 (b ∷ q) o)))
      (octets_drop 1 (b ∷ q) o)

  piece_walk : (p : List ℕ) (f : Feeding) → Lined f → Octets p → forget (feed_piece n f p) ≡ walk f p
  unfolding feed_piece
  piece_walk p f w o = rw w.is (walks (length p) p w.device w.held w.room w.count w.behind w.told w.good o (omega arith))

  all_forgot : (pieces : List (List ℕ)) (f : Feeding) → forget (feed_all n f pieces) ≡ forget (feed_all n (forget f) pieces)
  unfolding feed_all feed_next
  all_forgot [] f = refl
  all_forgot (p ∷ pieces) f = refl

  fed_fits : (f : Feeding) → Lined f → f.put ≤ length f.output
  fed_fits f w = rw w.is w.fits

  pub all_walk : (pieces : List (List ℕ)) (f : Feeding) → Lined f → Octets (joined pieces) → forget (feed_all n f pieces) ≡ walk f (joined pieces)
  unfolding feed_all
  all_walk [] f w o = rw w.is
  all_walk (p ∷ pieces) f w o =
      let a = octets_left p (joined pieces) o in
      ap (λ (g : Feeding). forget (feed_all n g pieces)) (next_is n f (fed_fits f w) p)
      ∙ all_forgot pieces (feed_piece n f p)
      ∙ ap (λ (g : Feeding). forget (feed_all n g pieces)) (piece_walk p f w a)
      ∙ all_walk pieces (walk f p) (walk_lined p f w a) (octets_right p (joined pieces) o)
      ∙ sym (walk_append p (joined pieces) f)

-- ---- a record and an area that refusals 1 and 2 let pass

pub unfed_line : (r : Record) (area out : List ℕ) → Kept r area → unfed r area out ≡ line r.device (held_in r area) out 0 0 []
unfed_line r area out w =
    let h = held_in r area in
    sym
    (ap (λ (x : Record). feeding [] x (area_with h) out 0 0 []) (whole_state r (counts_of h 8) (kept_counts r area w))
    ∙ ap (λ (x : List ℕ). feeding [] r x out 0 0 []) (kept_area r area w))

pub kept_lined : (n : ℕ) (r : Record) (area out : List ℕ) → Kept r area → Lined n (unfed r area out)
kept_lined n r area out w =
    record {
      device = r.device;
      held = held_in r area;
      room = out;
      count = 0;
      behind = 0;
      told = [];
      good = kept_good r area w;
      fits = omega arith;
      is = unfed_line r area out w;
    }

same_end : (f g : Feeding) → forget f ≡ forget g → SameEnd f g
same_end f g e =
    record {
      state = ap (λ (x : Feeding). x.state) e;
      area = ap (λ (x : Feeding). x.area) e;
      output = ap (λ (x : Feeding). x.output) e;
      taken = ap (λ (x : Feeding). x.taken) e;
      put = ap (λ (x : Feeding). x.put) e;
      messages = ap (λ (x : Feeding). x.messages) e;
    }

recut : (r : Record) (area : List ℕ) (n : ℕ) (out : List ℕ) (pieces others : List (List ℕ)) → Kept r area → Octets (joined pieces)
    → joined pieces ≡ joined others → SameEnd (feed_all n (unfed r area out) pieces) (feed_all n (unfed r area out) others)
recut r area n out pieces others w o e =
    let f = unfed r area out in
    let l = kept_lined n r area out w in
    same_end (feed_all n f pieces) (feed_all n f others)
    (all_walk n pieces f l o ∙ ap (walk n f) e ∙ sym (all_walk n others f l (rw (← e) o)))

uncut : (r : Record) (area : List ℕ) (n : ℕ) (out : List ℕ) (pieces : List (List ℕ)) → Kept r area → Octets (joined pieces)
    → SameEnd (feed_all n (unfed r area out) pieces) (feed_of r area n (joined pieces) out)
unfolding feed_of
uncut r area n out pieces w o =
    let f = unfed r area out in
    let l = kept_lined n r area out w in
    same_end (feed_all n f pieces) (feed_piece n f (joined pieces)) (all_walk n pieces f l o ∙ sym (piece_walk n (joined pieces) f l o))

pub cutting : CuttingDoesNotMatter
cutting = record { recut = recut; uncut = uncut }
