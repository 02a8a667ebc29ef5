-- R11. Where an entry stands in a message's data, its parameters and its context.
use Rattle.std.specs.Prelude.{ℕ, zero, suc, List, take, drop}
use Rattle.frame.specs.Places.{context_place}
use Rattle.frame.specs.Entry.{context_count, parameter_offset, entry_size}

-- R13. The data from entry i on.
unfoldable pub entries_from : ℕ → ℕ → List ℕ → List ℕ
entries_from zero kind t = t
entries_from (suc i) kind t = entries_from i kind (drop (entry_size kind t) t)

-- R13. Entry i's own bytes, size included.
unfoldable pub entry_bytes : ℕ → ℕ → List ℕ → List ℕ
entry_bytes i kind t = take (entry_size kind (entries_from i kind t)) (entries_from i kind t)

-- R11. What stands from the parameter offset on, up to the entry's size.
unfoldable pub parameters_of : ℕ → List ℕ → List ℕ
parameters_of kind e = drop (parameter_offset kind e) e

-- R9. The context of an entry, without its count; only a notification has one.
unfoldable pub context_of : ℕ → List ℕ → List ℕ
context_of kind e = take (context_count kind e) (drop context_place e)
