-- `task::owner_word` meets its contract. Assumes nothing.
use Rattle.task.proofs.Laws.{word_row}
use Rattle.task.proofs.owner_word.Goals as goal

pub returns : goal.returns
returns c = search word_row
