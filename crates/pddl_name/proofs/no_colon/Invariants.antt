use Rattle.pddl_name.proofs.Parts.{Plain}
use Rattle.pddl_name.proofs.no_colon.Given as goal

abbrev pub invariant-loop-i : goal.invariant-loop-i
invariant-loop-i l = Plain l.text l.s l.e l.i
