use Rattle.semantics.specs.Base.{first_refusal}
use Rattle.semantics.specs.Solo.{entry}
use Rattle.theory.proofs.Loops.{Rest}
use Rattle.solo_replay.proofs.plan_refusal.Given as goal

abbrev pub invariant-loop-action : goal.invariant-loop-action
invariant-loop-action l = Rest (first_refusal (entry l.t.words.now l.i)) l.plan l.action-index
