-- Lines put one behind another. Assumes nothing.
use Prim.Native.Nat.{ℕ, ◌+◌, ◌≤◌}
use mathlib.Core.Path.{◌≡◌, refl, sym, ap, ◌∙◌}
use mathlib.Core.List.{List, [], ◌∷◌, ◌++◌}
use native.Mathlib.Nat.{add-zero, add_assoc}
use lib.ListN.{length, set, length-append}
use lib.Seq.{length-sets}
use borrow.Rule.Slice.PartMut.{put_mid}
use Rattle.laws.proofs.Stores.{sets_append, sets_mid}
use Rattle.lines.specs.Scaffold.{Puts}

-- all of s, copied over as many bytes
pub puts_all : (s out : List ℕ) (at n : ℕ) {copied : List ℕ} → length s ≡ n → at + n ≤ length out → copied ≡ s
    → Puts s out at (put_mid at n out copied) (at + length s)
puts_all s out at n e h c = record { text = rw c (sets_mid s out at n e h); next = refl }

pub puts_none : (out : List ℕ) (at : ℕ) → Puts [] out at out at
puts_none out at = record { text = refl; next = sym (add-zero at) }

pub puts_one : (out : List ℕ) (at v : ℕ) → Puts (v ∷ []) out at (set out at v) (at + 1)
puts_one out at v = record { text = refl; next = refl }

module _ {a b before middle after : List ℕ} {at p r : ℕ} where
  pub puts_then : Puts a before at middle p → Puts b middle p after r → Puts (a ++ b) before at after r
  puts_then x y =
      record {
        text = y.text ∙ rw (x.text, x.next) (sym (sets_append a b before at));
        next = y.next ∙ rw (x.next, length-append) (add_assoc at (length a) (length b));
      }

pub puts_length : {a before after : List ℕ} {at r : ℕ} → Puts a before at after r → length after ≡ length before
puts_length {a} {before} {after} {at} {r} x = ap length x.text ∙ length-sets before at a
