-- `report::put_lines` meets its contract. Assumes nothing.
use native.Mathlib.Omega.{arith}
use lib.ListN.{length-map}
use Rattle.report.specs.File.{lines}
use Rattle.report.proofs.Laws.{stage-begin, stage-room, stage-onward, stage-end, value_at}
use Rattle.report.proofs.put_lines.Goals as goal

pub loop-number-init : goal.loop-number-init
unfolding lines
loop-number-init g c = stage-begin c.requires

pub put_line-next-requires : goal.put_line-next-requires
put_line-next-requires g c =
    stage-room c.loop-number.invariant c.word.result
    (value_at g.T.Number.value c.args.numbers.now c.loop-number.number-index c.number-item.result _
    c.loop-number-test.true c.number-item.is c.word.ensures)
    (omega (arith, length-map c.args.numbers.now g.T.Number.value))

pub loop-number-preserved : goal.loop-number-preserved
loop-number-preserved g c =
    stage-onward c.loop-number.invariant c.word.result
    (value_at g.T.Number.value c.args.numbers.now c.loop-number.number-index c.number-item.result _
    c.loop-number-test.true c.number-item.is c.word.ensures)
    (omega (arith, length-map c.args.numbers.now g.T.Number.value)) _ _
    c.put_line-next.ensures c.put_line-next.auto.out

pub returns : goal.returns
unfolding lines
returns g c = stage-end c.loop-number.invariant (omega (arith, length-map c.args.numbers.now g.T.Number.value))
