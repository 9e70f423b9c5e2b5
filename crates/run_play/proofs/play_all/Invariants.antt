use Rattle.run_plans.specs.Value.{of_plans}
use Rattle.run_play.proofs.Laws.{Playing}
use Rattle.run_play.proofs.play_all.Given as goal

abbrev pub invariant-loop-k : goal.invariant-loop-k
invariant-loop-k l = of_plans Playing l.p l.picks l.initial.answers l.initial.current l.current l.answers l.k
