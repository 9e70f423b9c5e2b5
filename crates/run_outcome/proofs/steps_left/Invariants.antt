use Rattle.semantics.specs.Base.{up_to, any_of}
use Rattle.semantics.specs.Task.{members}
use Rattle.theory.proofs.Loops.{Rest}
use Rattle.run_plans.specs.Value.{of_plans}
use Rattle.run_outcome.proofs.Laws.{has_steps}
use Rattle.run_outcome.proofs.steps_left.Given as goal

abbrev pub invariant-loop-j : goal.invariant-loop-j
invariant-loop-j l = Rest (any_of (of_plans has_steps l.p l.run)) (up_to (members l.p.task.words.now)) l.j
