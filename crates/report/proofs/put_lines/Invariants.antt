use Rattle.std.specs.Prelude.{map}
use Rattle.report.specs.File.{line}
use Rattle.report.proofs.Laws.{Stage}
use Rattle.report.proofs.put_lines.Given as goal

abbrev pub invariant-loop-number : goal.invariant-loop-number
invariant-loop-number g l = Stage (line l.word) (map g.T.Number.value l.numbers) l.initial.out l.at l.out l.next l.number-index
