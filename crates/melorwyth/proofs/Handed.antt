-- Each function's promise allows one result. Assumes nothing.
use Prim.Native.Nat.{ℕ}
use mathlib.Core.Path.{◌≡◌, sym, ◌∙◌}
use mathlib.Core.List.{List}
use Rattle.melorwyth.specs.Promises.{HandedTell}

-- what is equal to one struct, and to one run of bytes
both : {A : Type 0} (o : A) (b : List ℕ) (r s : A) (x y : List ℕ) → (r ≡ o) × (x ≡ b) → (s ≡ o) × (y ≡ b) → (r ≡ s) × (x ≡ y)
both o b r s x y p q = (p.0 ∙ sym q.0, p.1 ∙ sym q.1)

pub handed_tell : HandedTell
handed_tell =
    record {
      version = λ r s p q. p ∙ sym q;
      fresh = λ reading r s p q. p ∙ sym q;
      cleared = λ area. both _ _;
      opened = λ state r s p q. p ∙ sym q;
      closed = λ state area n. both _ _;
      ticked = λ state area reading. both _ _;
      delivered = λ state area n piece output r s x y v w p q. (p.0 ∙ sym q.0, p.1 ∙ sym q.1, p.2 ∙ sym q.2);
      taken = λ state output. both _ _;
      reset = λ state area datagram. both _ _;
      read = λ bytes r s p q. p ∙ sym q;
      entry = λ bytes index r s p q. p ∙ sym q;
      part = λ bytes index r s p q. p ∙ sym q;
      context = λ bytes index r s p q. p ∙ sym q;
      started = λ buffer kind entry. both _ _;
      appended = λ buffer kind entry. both _ _;
      kept = λ buffer form value. both _ _;
    }
