use Rattle.task.proofs.Laws.{Zeros}
use Rattle.task.proofs.zeros.Given as goal

abbrev pub invariant-loop-j : goal.invariant-loop-j
invariant-loop-j l = Zeros l.t l.r l.k l.j
