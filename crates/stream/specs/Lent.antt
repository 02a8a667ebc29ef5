-- R4. How undecided bytes lie in the area and in the record's counts.
use Rattle.std.specs.Prelude.{ℕ, zero, suc, ◌-◌, List, [], ◌∷◌, ◌++◌, length}
use Rattle.octets.specs.Zeros.{zeros}
use Rattle.area.specs.Area.{part_bytes}
use Rattle.stream.specs.Calls.{Held}

-- R4. A connection's part: its undecided bytes, and zeros behind them.
unfoldable pub part_holding : List ℕ → List ℕ
part_holding x = x ++ zeros (part_bytes - length x)

-- R4. The parts of the first n connections, one behind another.
unfoldable pub flat : Held → ℕ → List ℕ
flat h zero = []
flat h (suc n) = flat h n ++ part_holding (h n)

-- R3. The counts of the first n connections.
unfoldable pub counts_of : Held → ℕ → List ℕ
counts_of h zero = []
counts_of h (suc n) = counts_of h n ++ (length (h n) ∷ [])
