use Rattle.semantics.specs.Base.{up_to, first_refusal}
use Rattle.semantics.specs.Task.{members}
use Rattle.theory.proofs.Loops.{Rest}
use Rattle.run_plans.specs.Inner.Parts.{member_refusal}
use Rattle.run_plans.proofs.members_refusal.Given as goal

abbrev pub invariant-loop-j : goal.invariant-loop-j
invariant-loop-j l =
    Rest (first_refusal (member_refusal l.t.words.now l.plans l.ends)) (up_to (members l.t.words.now)) l.j
