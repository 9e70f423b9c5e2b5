-- `run_outcome::steps_left` meets its contract: some member has steps left where some from j on has. Assumes nothing.
use Rattle.theory.proofs.Loops.{rest-begin}
use Rattle.run_outcome.proofs.Laws.{left-found, left-onward, left-none}
use Rattle.run_outcome.proofs.steps_left.Goals as goal

pub loop-j-init : goal.loop-j-init
loop-j-init c = search rest-begin

pub returns-then-place-steps : goal.returns-then-place-steps
returns-then-place-steps c = search left-found

pub loop-j-preserved : goal.loop-j-preserved
loop-j-preserved c =
    left-onward c.args.p.now.task.words.now c.args.p.now.plans.now c.args.p.now.ends.now c.args.run _ c.loop-j.j
    c.members-j-end.ensures c.loop-j.invariant c.loop-j-test.true _ _ c.place.ensures
    c.steps.ensures c.if-place-steps.false

pub returns : goal.returns
returns c = search left-none
