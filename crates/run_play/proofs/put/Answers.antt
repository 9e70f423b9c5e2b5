-- `run_play::put` meets its contract. Assumes nothing.
use Rattle.run_play.proofs.Laws.{put_past}
use Rattle.run_play.proofs.put.Goals as goal

pub returns-else-k-answers : goal.returns-else-k-answers
returns-else-k-answers c = search put_past
