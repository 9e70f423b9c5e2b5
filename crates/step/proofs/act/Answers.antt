-- `step::act` meets its contract: one law for each way out. Assumes nothing.
use Rattle.step.proofs.Laws.{act-lacks, act-goes}
use Rattle.step.proofs.act.Goals as goal

pub returns-then-not-within : goal.returns-then-not-within
returns-then-not-within c = search act-lacks

pub returns : goal.returns
returns c = search act-goes
