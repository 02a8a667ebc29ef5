-- R68. Results that a call's promise allows are equal.
use Rattle.std.specs.Prelude.{ℕ, ◌≡◌, Bool, List, Result}
use Rattle.numbers.specs.declared.Refusal.{Refusal}
use Rattle.answers.specs.declared.Delivery.{Delivery}
use Rattle.answers.specs.declared.Taking.{Taking}
use Rattle.endpoint.specs.Promises.{ClearGives, FreshGives, ObeysGives, OpenGives, CloseGives, TickGives, DeliverGives, TakeGives}
use Rattle.endpoint.specs.declared.Record.{Record}
use Rattle.endpoint.specs.declared.Handed.{Handed}

-- R68. A promise of a result allows one.
abbrev pub AllowsOne : (A : Type 0) → (A → Type 0) → Type 0
AllowsOne A Gives = (r s : A) → Gives r → Gives s → r ≡ s

-- R68. A promise of a result and of bytes that were lent allows one result, and leaves the bytes in one way.
abbrev pub AllowsOneLent : (A : Type 0) → (A → List ℕ → Type 0) → Type 0
AllowsOneLent A Gives = (r s : A) (x y : List ℕ) → Gives r x → Gives s y → (r ≡ s) × (x ≡ y)

-- R68. So where two runs of bytes were lent.
abbrev pub AllowsOneLentTwo : (A : Type 0) → (A → List ℕ → List ℕ → Type 0) → Type 0
AllowsOneLentTwo A Gives = (r s : A) (x y v w : List ℕ) → Gives r x v → Gives s y w → (r ≡ s) × (x ≡ y) × (v ≡ w)

-- Theorem. Each call's promise, as its contract states it, allows one result.
pub record ResultsTell : Type 0 where
  pub cleared : (area : List ℕ) → AllowsOneLent (Result (Unit {0}) Refusal) (ClearGives area)
  pub fresh : (reading : ℕ) → AllowsOne Record (FreshGives reading)
  pub obeys : (state : Record) → AllowsOne Bool (ObeysGives state)
  pub opened : (state : Record) → AllowsOne (Handed ℕ) (OpenGives state)
  pub closed : (state : Record) (area : List ℕ) (n : ℕ) → AllowsOneLent (Handed (Unit {0})) (CloseGives state area n)
  pub ticked : (state : Record) (area : List ℕ) (reading : ℕ) → AllowsOneLent (Handed ℕ) (TickGives state area reading)
  pub delivered : (state : Record) (area : List ℕ) (n : ℕ) (piece output : List ℕ)
      → AllowsOneLentTwo (Handed Delivery) (DeliverGives state area n piece output)
  pub taken : (state : Record) (output : List ℕ) → AllowsOneLent (Handed Taking) (TakeGives state output)
