-- `run_outcome::possible` meets its contract: a pick that is done was possible. Assumes nothing.
use Rattle.run_outcome.proofs.Laws.{can_pick_lem}
use Rattle.run_outcome.proofs.possible.Goals as goal

pub returns : goal.returns
returns c = search can_pick_lem
