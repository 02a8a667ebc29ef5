-- R68. Feeding a piece has one result.
use Rattle.std.specs.Prelude.{ℕ, ◌≡◌, List}
use Rattle.endpoint.specs.declared.Record.{Record}
use Rattle.feed.specs.declared.Fed.{Fed}
use Rattle.feed.specs.Feed.{Feeds}

-- Theorem. Two results that the promise of feeding allows are equal.
pub record FeedingTells : Type 0 where
  pub one : (r : Record) (area : List ℕ) (n : ℕ) (piece out : List ℕ) (a b : Fed) (x y v w : List ℕ)
      → Feeds r area n piece out a x v → Feeds r area n piece out b y w → (a ≡ b) × (x ≡ y) × (v ≡ w)
