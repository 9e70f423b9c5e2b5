use Rattle.mask.specs.Number.{number}
use Rattle.run_plans.specs.Value.{of_plans}
use Rattle.run_outcome.proofs.Laws.{Replaying}
use Rattle.run_outcome.proofs.replay_all.Given as goal

abbrev pub invariant-loop-j : goal.invariant-loop-j
invariant-loop-j l = of_plans Replaying l.p l.picks l.run l.done (number l.missing) l.j-index
