use Rattle.semantics.specs.Base.{up_to, any_of}
use Rattle.semantics.specs.Task.{members}
use Rattle.theory.proofs.Loops.{Rest}
use Rattle.run_plans.specs.Value.{of_plans}
use Rattle.run_pick.proofs.Laws.{is_past}
use Rattle.run_pick.proofs.past_end.Given as goal

abbrev pub invariant-loop-j : goal.invariant-loop-j
invariant-loop-j l = Rest (any_of (of_plans is_past l.p l.run)) (up_to (members l.p.task.words.now)) l.j
