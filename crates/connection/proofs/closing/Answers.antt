use Rattle.std.proofs.Common.{arith, rules}
use Rattle.laws.proofs.Loops.{masking_low}
use Rattle.connection.proofs.closing.Goals as goal

pub overflow_mul-m : goal.overflow_mul-m
overflow_mul-m c = omega (arith, masking_low _ _ c.loop-c.invariant.masks c.in-Some.ensures.steps c.told-connections)

pub overflow_add-m : goal.overflow_add-m
overflow_add-m c = search (masking_low _ _ c.loop-c.invariant.masks c.in-Some.ensures.steps c.told-connections, rules)
