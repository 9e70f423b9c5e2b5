use Rattle.semantics.specs.Base.{up_to}
use Rattle.mask.specs.Number.{number}
use Rattle.report.specs.Inner.Put.{most_facts, missing_line}
use Rattle.report.proofs.Laws.{Stage}
use Rattle.report.proofs.put_missing.Given as goal

abbrev pub invariant-loop-f : goal.invariant-loop-f
invariant-loop-f l = Stage (missing_line (number l.m)) (up_to most_facts) l.initial.out l.at l.out l.next l.f
