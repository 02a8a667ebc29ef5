-- A step of the machine over pieces keeps undecided bytes waiting. Assumes nothing.
use Prim.Native.Nat.{ℕ, zero, suc}
use mathlib.Core.Path.{◌≡◌, refl, sym, ap, ◌∙◌}
use mathlib.Core.Bool.{Bool, true, false, cond, true≢false}
use mathlib.Core.List.{List, [], ◌++◌}
use lib.ListN.{take}
use lib.Dec.{eqb}
use borrow.Author.Tests.{eqb-true}
use Rattle.octets.specs.Numbers.{Octets}
use Rattle.octets.proofs.Digits.{octets_take}
use Rattle.frame.specs.Decide.{decide, taken, settled}
use Rattle.frame.proofs.Bytes.{nil_waits}
use Rattle.stream.specs.Calls.{Call, deliver, ask, Whole, handed, asked, Held, put, only, Bytes}
use Rattle.stream.specs.Scaffold.{Answer, whole, delivered, step, Apt, Good, Laws}
use Rattle.stream.proofs.Bytes.{decides, octets_nil, octets_append}

-- what holds of x, and of what the other connections hold, holds after the put
pub put_elim : (h : Held) (c : ℕ) (x : List ℕ) (n : ℕ) (P : List ℕ → Type 0) → (n ≡ c → P x) → P (h n) → P (put h c x n)
unfolding put
put_elim h c x n P a b = go (eqb n c) refl
  where
    go : (t : Bool) → eqb n c ≡ t → P (cond t x (h n))
    go true e = a (eqb-true n c e)
    go false e = b

module _ {R Out Ask Room : Type 0} (rule : R → Whole Ask Room → R × Out) (open? : R → ℕ → Bool) (admit : R → ℕ → Room → ℕ)
    (shut : Whole Ask Room → Out → ℕ → Bool) (Fine : R → Type 0) (laws : Laws rule open? admit shut Fine)
  where
    -- a whole call keeps the state good
    whole_good : (r : R) (h : Held) (w : Whole Ask Room) → Good open? Fine r h → Apt admit r w
        → Good open? Fine (rule r w).0 (only (open? (rule r w).0) h)
    unfolding only
    whole_good r h w good a = record { fine = laws.keeps r w good.fine a; waiting = λ n. wait n (open? (rule r w).0 n); empty = λ n e. rw e; octets = λ n. byte n (open? (rule r w).0 n) }
      where
        byte : (n : ℕ) (t : Bool) → Octets (cond t (h n) [])
        byte n true = good.octets n
        byte n false = octets_nil

        wait : (n : ℕ) (t : Bool) → settled (decide (cond t (h n) [])) ≡ false
        wait n true = good.waiting n
        wait n false = nil_waits

    -- a connection whose bytes are handed over holds none
    emptied : (r : R) (h : Held) (c : ℕ) → Good open? Fine r h → Good open? Fine r (put h c [])
    emptied r h c good =
        record {
          fine = good.fine;
          waiting = λ n. put_elim h c [] n (λ x. settled (decide x) ≡ false) (λ q. nil_waits) (good.waiting n);
          empty = λ n z. put_elim h c [] n (λ x. x ≡ []) (λ q. refl) (good.empty n z);
          octets = λ n. put_elim h c [] n (λ x. Octets x) (λ q. octets_nil) (good.octets n);
        }

    abbrev Keeps : (R × Held) × Answer Out → Type 0
    Keeps s = Good open? Fine s.0.0 s.0.1

    delivery_good : (r : R) (h : Held) (c : ℕ) (p : List ℕ) (x : Room) → Octets p → Good open? Fine r h
        → (q : ℕ) (b : Bool) → admit r c x ≡ q → settled (decide (h c ++ p)) ≡ b → Keeps (delivered rule open? admit q b r h c p x)
    unfolding delivered whole
    delivery_good r h c p x op good (suc q) b o e = good
    delivery_good r h c p x op good zero false o e =
        record {
          fine = good.fine;
          waiting = λ n. put_elim h c (h c ++ p) n (λ y. settled (decide y) ≡ false) (λ q. e) (good.waiting n);
          empty = λ n z. put_elim h c (h c ++ p) n (λ y. y ≡ []) (λ q. absurd (true≢false (sym (laws.admits r c x good.fine o) ∙ ap (open? r) (sym q) ∙ z))) (good.empty n z);
          octets = λ n. put_elim h c (h c ++ p) n (λ y. Octets y) (λ q. octets_append (h c) p (good.octets c) op) (good.octets n);
        }
    delivery_good r h c p x op good zero true o e =
        let xs = h c ++ p in
        let k = taken (decide xs) in
        whole_good r (put h c []) (handed c (take k xs) x) (emptied r h c good)
        (o, decides xs e, octets_take k xs (octets_append (h c) p (good.octets c) op))

    pub step_good : (r : R) (h : Held) (c : Call Ask Room) → Bytes c → Good open? Fine r h → Keeps (step rule open? admit r h c)
    unfolding step whole
    step_good r h (deliver c p x) b good = delivery_good r h c p x b good (admit r c x) (settled (decide (h c ++ p))) refl refl
    step_good r h (ask a) b good = whole_good r h (asked a) good tt
