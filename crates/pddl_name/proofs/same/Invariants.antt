use Rattle.pddl_name.proofs.Parts.{Agree}
use Rattle.pddl_name.proofs.same.Given as goal

abbrev pub invariant-loop-i : goal.invariant-loop-i
invariant-loop-i l = Agree l.text l.s l.e l.other l.t l.u l.i
