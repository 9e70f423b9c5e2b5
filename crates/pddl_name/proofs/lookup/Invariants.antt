use Rattle.pddl_theory.specs.Inner.Place.{span}
use Rattle.pddl_name.proofs.Looking.{Looking}
use Rattle.pddl_name.proofs.lookup.Given as goal

abbrev pub invariant-loop-k : goal.invariant-loop-k
invariant-loop-k l = Looking l.text l.spans (span l.text l.s l.e) l.k
