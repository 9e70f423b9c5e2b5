-- `run_plans::ends_fit` meets its contract: the ends rise up to j. Assumes nothing.
use Rattle.run_plans.proofs.Laws.{wrong_number, rising, falls-there, rises-there, last_end}
use Rattle.run_plans.proofs.ends_fit.Goals as goal

pub returns-then-ends-n : goal.returns-then-ends-n
returns-then-ends-n c = search wrong_number

pub loop-j-init : goal.loop-j-init
loop-j-init c = search rising

pub returns-then-end-beginning : goal.returns-then-end-beginning
returns-then-end-beginning c = search falls-there

pub loop-j-preserved : goal.loop-j-preserved
loop-j-preserved c =
    rises-there _ _ _ c.loop-j.invariant c.loop-j-test.true _
    c.beginning.ensures c.if-end-beginning.false

pub returns : goal.returns
returns c = search last_end
