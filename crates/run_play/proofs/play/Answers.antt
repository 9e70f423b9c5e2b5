-- `run_play::play` meets its contract: one law for each way out. Assumes nothing.
use Rattle.run_play.proofs.Laws.{play-short, play-fits}
use Rattle.run_play.proofs.play.Goals as goal

pub returns-then-answers-picks : goal.returns-then-answers-picks
returns-then-answers-picks c = search play-short

pub returns : goal.returns
returns c = search play-fits
