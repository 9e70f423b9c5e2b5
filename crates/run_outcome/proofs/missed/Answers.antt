-- `run_outcome::missed` meets its contract: the lowest member whose goal is missing is the lowest from j on. Assumes
-- nothing.
use Rattle.theory.proofs.Loops.{rest-begin}
use Rattle.run_outcome.proofs.Laws.{missed-found, missed-onward, missed-none}
use Rattle.run_outcome.proofs.missed.Goals as goal

pub loop-j-init : goal.loop-j-init
loop-j-init c = search rest-begin

pub returns-then-not-within : goal.returns-then-not-within
returns-then-not-within c = search missed-found

pub loop-j-preserved : goal.loop-j-preserved
loop-j-preserved c = search missed-onward

pub returns : goal.returns
returns c = search missed-none
