-- `run_pick::past_end` meets its contract: some place is past its plan's end where some from j on is. Assumes nothing.
use Rattle.theory.proofs.Loops.{rest-begin}
use Rattle.run_pick.proofs.Laws.{past_found, past_onward, past_none}
use Rattle.run_pick.proofs.past_end.Goals as goal

pub loop-j-init : goal.loop-j-init
loop-j-init c = search rest-begin

pub returns-then-steps-place : goal.returns-then-steps-place
returns-then-steps-place c = search past_found

pub loop-j-preserved : goal.loop-j-preserved
loop-j-preserved c =
    past_onward c.args.p.now.task.words.now c.args.p.now.plans.now c.args.p.now.ends.now c.args.run _ c.loop-j.j
    c.members-j-end.ensures c.loop-j.invariant c.loop-j-test.true _ _ c.place.ensures
    c.steps.ensures c.if-steps-place.false

pub returns : goal.returns
returns c = search past_none
