-- `run_play::play_all` meets its contract: the picks before k are done and answered. Assumes nothing.
use Rattle.run_play.proofs.Laws.{playing_starts, playing_picks, playing_ends}
use Rattle.run_play.proofs.play_all.Goals as goal

pub loop-k-init : goal.loop-k-init
loop-k-init c = search playing_starts

pub loop-k-preserved : goal.loop-k-preserved
loop-k-preserved c = search playing_picks

pub returns : goal.returns
returns c = search playing_ends
