-- R81. The calls of the endpoint and of the rules, the rules over whole calls, and the undecided bytes of each connection.
use Rattle.std.specs.Prelude.{ℕ, Bool, cond, List, [], ◌∷◌, eqb}
use Rattle.octets.specs.Numbers.{Octets}

-- ---- calls. Ask are the calls that are no delivery, Room is what a delivery is lent besides its piece

-- R81. A call of the endpoint: a piece of some connection's bytes, or another call.
pub data Call (Ask Room : Type 0) : Type 0 where
  deliver : ℕ → List ℕ → Room → Call Ask Room
  ask : Ask → Call Ask Room

-- R81. A call of the rules: a whole message, or another call.
pub data Whole (Ask Room : Type 0) : Type 0 where
  handed : ℕ → List ℕ → Room → Whole Ask Room
  asked : Ask → Whole Ask Room

module _ {Ask Room : Type 0} where
  -- R81. The piece of a call is made of bytes.
  abbrev pub Bytes : Call Ask Room → Type 0
  Bytes (deliver c p x) = Octets p
  Bytes (ask a) = Unit {0}

  -- R81. Every piece is made of bytes.
  unfoldable pub AllBytes : List (Call Ask Room) → Type 0
  AllBytes [] = Unit {0}
  AllBytes (c ∷ cs) = Bytes c × AllBytes cs

-- ---- undecided bytes, by connection

-- R81. The undecided bytes of each connection.
abbrev pub Held : Type 0
Held = ℕ → List ℕ

-- R81. Connection c's bytes are x, all others as they were.
unfoldable pub put : Held → ℕ → List ℕ → Held
put h c x = λ n. cond (eqb n c) x (h n)

-- R81. The bytes of those connections that pass the test, and of no others.
unfoldable pub only : (ℕ → Bool) → Held → Held
only t h = λ n. cond (t n) (h n) []

-- R81. No undecided byte.
abbrev pub none_held : Held
none_held = λ n. []

module _ {R Out Ask Room : Type 0} (rule : R → Whole Ask Room → R × Out) where
  -- R81. The rules, run over whole calls.
  unfoldable pub rules : R → List (Whole Ask Room) → R × List Out
  rules r [] = (r, [])
  rules r (w ∷ ws) =
      let s = rule r w in
      let t = rules s.0 ws in
      (t.0, s.1 ∷ t.1)
