-- `run_dispatch::play` meets its contract. Assumes nothing.
use Rattle.run_dispatch.proofs.Laws.{play-means}
use Rattle.run_dispatch.proofs.play.Goals as goal

pub returns : goal.returns
returns c = search play-means
