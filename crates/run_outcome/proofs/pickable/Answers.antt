-- `run_outcome::pickable` meets its contract: some member can be picked where some from j on can. Assumes nothing.
use Rattle.theory.proofs.Loops.{rest-begin}
use Rattle.run_outcome.proofs.Laws.{pick-found, pick-onward, pick-none}
use Rattle.run_outcome.proofs.pickable.Goals as goal

pub loop-j-init : goal.loop-j-init
loop-j-init c = search rest-begin

pub returns-then-possible : goal.returns-then-possible
returns-then-possible c = search pick-found

pub loop-j-preserved : goal.loop-j-preserved
loop-j-preserved c = search pick-onward

pub returns : goal.returns
returns c = search pick-none
