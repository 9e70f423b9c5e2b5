-- `step::local_result` meets its contract. Assumes nothing.
use Rattle.step.proofs.Laws.{result-is}
use Rattle.step.proofs.local_result.Goals as goal

pub returns : goal.returns
returns c = search result-is
