use Rattle.pddl_list.proofs.Twice.{Asking}
use Rattle.pddl_list.proofs.distinct_in.Given as goal

abbrev pub invariant-loop-k : goal.invariant-loop-k
invariant-loop-k l = Asking l.text l.spans l.k
