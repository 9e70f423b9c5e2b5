-- `run_plans::beginning` meets its contract. Assumes nothing.
use Rattle.run_plans.proofs.Laws.{later}
use Rattle.run_plans.proofs.beginning.Goals as goal

pub returns : goal.returns
returns c = search later
