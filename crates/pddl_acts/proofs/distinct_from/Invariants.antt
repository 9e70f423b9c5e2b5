use Prim.Native.Nat.{◌-◌}
use lib.ListN.{length}
use Rattle.semantics.specs.Pddl.{none_twice}
use Rattle.pddl_acts.specs.Inner.Names.{called_from}
use Rattle.pddl_theory.proofs.Turns.{Asked}
use Rattle.pddl_acts.proofs.distinct_from.Given as goal

abbrev pub invariant-loop-n : goal.invariant-loop-n
invariant-loop-n l = Asked none_twice (called_from l.text) l.at l.i

abbrev pub decreases-loop-n : goal.decreases-loop-n
decreases-loop-n l = length l.text - l.i
