-- R28, R81. How a connection's bytes are cut makes no difference to what a host's loop comes to.
use Rattle.std.specs.Prelude.{ℕ, ◌+◌, ◌≡◌, List, [], ◌∷◌, ◌++◌, take, drop}
use Rattle.laws.specs.Lists.{joined}
use Rattle.octets.specs.Numbers.{Octets}
use Rattle.endpoint.specs.declared.Record.{Record}
use Rattle.feed.specs.Feed.{Feeding, feeding, unfed, feed_of}
use Rattle.promise.specs.Kept.{Kept}

-- R28. What was fed before and what a piece came to: its replies stand behind those before them, and the totals are summed.
abbrev pub fed_behind : Feeding → Feeding → Feeding
fed_behind f g =
    feeding g.answer g.state g.area (take f.put f.output ++ g.output) (f.taken + g.taken) (f.put + g.put)
    (f.messages ++ g.messages)

-- R28. One call of the host's loop, for a piece of connection n's bytes, lent the output behind the replies so far.
unfoldable pub feed_next : ℕ → Feeding → List ℕ → Feeding
feed_next n f piece = fed_behind f (feed_of f.state f.area n piece (drop f.put f.output))

-- R28, R81. Pieces, fed one after another.
unfoldable pub feed_all : ℕ → Feeding → List (List ℕ) → Feeding
feed_all n f [] = f
feed_all n f (piece ∷ pieces) = feed_all n (feed_next n f piece) pieces

-- R81. The same record, area, output, bytes taken, bytes put and messages; of the last answers, where the cuts are, nothing is said.
pub record SameEnd (f g : Feeding) : Type 0 where
  pub state : f.state ≡ g.state
  pub area : f.area ≡ g.area
  pub output : f.output ≡ g.output
  pub taken : f.taken ≡ g.taken
  pub put : f.put ≡ g.put
  pub messages : f.messages ≡ g.messages

-- Theorem. Any two cuttings of the same bytes, fed from the same record, area and output, come to the same.
pub record CuttingDoesNotMatter : Type 0 where
  pub recut : (r : Record) (area : List ℕ) (n : ℕ) (out : List ℕ) (pieces others : List (List ℕ)) → Kept r area
      → Octets (joined pieces) → joined pieces ≡ joined others
      → SameEnd (feed_all n (unfed r area out) pieces) (feed_all n (unfed r area out) others)
  -- so pieces come to what their bytes in one piece come to
  pub uncut : (r : Record) (area : List ℕ) (n : ℕ) (out : List ℕ) (pieces : List (List ℕ)) → Kept r area
      → Octets (joined pieces)
      → SameEnd (feed_all n (unfed r area out) pieces) (feed_of r area n (joined pieces) out)
