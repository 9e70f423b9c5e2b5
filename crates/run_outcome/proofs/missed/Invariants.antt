use Rattle.semantics.specs.Base.{up_to}
use Rattle.semantics.specs.Task.{members}
use Rattle.semantics.specs.System.{system}
use Rattle.semantics.specs.Run.{missed_in}
use Rattle.theory.proofs.Loops.{Rest}
use Rattle.mask.specs.Number.{shared_number}
use Rattle.run_outcome.proofs.missed.Given as goal

abbrev pub invariant-loop-j : goal.invariant-loop-j
invariant-loop-j l = Rest (missed_in (system l.t.words.now) (shared_number l.g)) (up_to (members l.t.words.now)) l.j
