-- `pddl_list::count` meets its contract.
use native.Mathlib.Omega.{arith}
use Rattle.pddl_list.proofs.Asking.{counting-below, counting-on, counting-end}
use Rattle.pddl_list.proofs.count.Goals as goal

pub overflow_add-n : goal.overflow_add-n
overflow_add-n c = record { fits = omega (arith, counting-below c.loop-a.invariant c.in-Some.ensures) }

pub loop-a-preserved : goal.loop-a-preserved
loop-a-preserved c = counting-on c.loop-a.invariant c.in-Some.ensures

pub returns : goal.returns
returns c = counting-end c.loop-a.invariant c.in_default.ensures
