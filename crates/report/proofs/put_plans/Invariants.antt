use Rattle.semantics.specs.Base.{up_to}
use Rattle.report.specs.File.{plan_lines}
use Rattle.report.proofs.Laws.{Stage}
use Rattle.report.proofs.put_plans.Given as goal

abbrev pub invariant-loop-i : goal.invariant-loop-i
invariant-loop-i l = Stage (plan_lines l.p.actions.now l.p.ends.now) (up_to l.p.members) l.initial.out l.at l.out l.next l.i
