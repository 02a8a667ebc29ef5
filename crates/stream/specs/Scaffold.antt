-- For proofs: no rule is here.
use Rattle.std.specs.Prelude.{ℕ, zero, suc, ◌-◌, ◌≡◌, Bool, true, false, not, List, [], ◌∷◌, ◌++◌, length, take}
use Rattle.octets.specs.Numbers.{Octets}
use Rattle.frame.specs.Decide.{decide, taken, settled}
use Rattle.stream.specs.Calls.{Call, deliver, ask, Whole, handed, asked, Held, put, only}

-- The last byte of m decides it.
pub record Decides (m : List ℕ) : Type 0 where
  pub settles : settled (decide m) ≡ true
  pub exactly : taken (decide m) ≡ length m

module _ {R Ask Room : Type 0} (admit : R → ℕ → Room → ℕ) where
  -- A whole call as it is handed over: a message is admitted, made of bytes, and its last byte decides it.
  abbrev pub Apt : R → Whole Ask Room → Type 0
  Apt r (handed c m x) = (admit r c x ≡ 0) × Decides m × Octets m
  Apt r (asked a) = Unit {0}

-- The state over pieces: undecided bytes wait, a closed connection has none, and they are bytes.
pub record Good {R : Type 0} (open? : R → ℕ → Bool) (Fine : R → Type 0) (r : R) (h : Held) : Type 0 where
  pub fine : Fine r
  pub waiting : (n : ℕ) → settled (decide (h n)) ≡ false
  pub empty : (n : ℕ) → open? r n ≡ false → h n ≡ []
  pub octets : (n : ℕ) → Octets (h n)

-- the laws asked of a device: Fine is its invariant, and an answer tells which connections are closed by it
module _ {R Out Ask Room : Type 0} (rule : R → Whole Ask Room → R × Out) (open? : R → ℕ → Bool) (admit : R → ℕ → Room → ℕ)
    (shut : Whole Ask Room → Out → ℕ → Bool)
  where
    -- What is asked of a device: Fine is kept, and an answer tells which connections it closes.
    pub record Laws (Fine : R → Type 0) : Type 0 where
      pub keeps : (r : R) (w : Whole Ask Room) → Fine r → Apt admit r w → Fine (rule r w).0
      pub tells : (r : R) (w : Whole Ask Room) (n : ℕ) → Fine r → Apt admit r w → open? r n ≡ true
          → open? (rule r w).0 n ≡ not (shut w (rule r w).1 n)
      pub admits : (r : R) (c : ℕ) (x : Room) → Fine r → admit r c x ≡ 0 → open? r c ≡ true

-- Of each of the first n connections, whether it passes the test.
unfoldable pub lives_of : (ℕ → Bool) → ℕ → List Bool
lives_of t zero = []
lives_of t (suc n) = lives_of t n ++ (t n ∷ [])

-- ---- the machine over pieces: a device and the undecided bytes of each connection, call by call

-- An answer of the machine, where Out is what the rules answer.
pub data Answer (Out : Type 0) : Type 0 where
  -- every byte of the piece is taken, and none of them decides
  more : Answer Out
  -- a delivery refused by this number: nothing is taken
  denied : ℕ → Answer Out
  -- so many bytes taken, and what the rules answered
  gave : ℕ → Out → Answer Out

module _ {R Out Ask Room : Type 0} (rule : R → Whole Ask Room → R × Out) (open? : R → ℕ → Bool) (admit : R → ℕ → Room → ℕ)
  where
    -- A whole call: the rules' step, of which connections that are then closed keep no byte.
    unfoldable pub whole : R → Held → Whole Ask Room → ℕ → (R × Held) × Answer Out
    whole r h w n = let s = rule r w in ((s.0, only (open? s.0) h), gave n s.1)

    -- A delivery, by its refusal's number or 0, and by whether what is held and the piece decide.
    unfoldable pub delivered : ℕ → Bool → R → Held → ℕ → List ℕ → Room → (R × Held) × Answer Out
    delivered (suc q) b r h c p x = ((r, h), denied (suc q))
    delivered zero false r h c p x = ((r, put h c (h c ++ p)), more)
    delivered zero true r h c p x =
        let k = taken (decide (h c ++ p)) in
        whole r (put h c []) (handed c (take k (h c ++ p)) x) (k - length (h c))

    -- One call of the endpoint over pieces.
    unfoldable pub step : R → Held → Call Ask Room → (R × Held) × Answer Out
    step r h (deliver c p x) = delivered (admit r c x) (settled (decide (h c ++ p))) r h c p x
    step r h (ask a) = whole r h (asked a) 0
