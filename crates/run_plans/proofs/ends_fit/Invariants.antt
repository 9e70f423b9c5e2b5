use Rattle.run_plans.proofs.Laws.{Rising}
use Rattle.run_plans.proofs.ends_fit.Given as goal

abbrev pub invariant-loop-j : goal.invariant-loop-j
invariant-loop-j l = Rising l.n l.ends l.j
