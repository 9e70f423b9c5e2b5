-- `task::zeros` meets its contract: the words from k + j on tell. Assumes nothing.
use Rattle.task.proofs.Laws.{zeros-begin, zeros_fail, zeros-onward, zeros-end}
use Rattle.task.proofs.zeros.Goals as goal

pub loop-j-init : goal.loop-j-init
loop-j-init c = search zeros-begin

pub returns-then-word-ne0 : goal.returns-then-word-ne0
returns-then-word-ne0 c = search zeros_fail

pub loop-j-preserved : goal.loop-j-preserved
loop-j-preserved c = search zeros-onward

pub returns : goal.returns
returns c = search zeros-end
