-- `run_ticket::count` meets its contract: one law for each way out. Assumes nothing.
use Rattle.run_ticket.proofs.Laws.{count-refused, count-last, count-done}
use Rattle.run_ticket.proofs.count.Goals as goal

pub returns-then-at-eq-LAST_CHANGE : goal.returns-then-at-eq-LAST_CHANGE
returns-then-at-eq-LAST_CHANGE c = search count-last

pub returns-in-Err : goal.returns-in-Err
returns-in-Err c = search count-refused

pub returns-else-at-eq-LAST_CHANGE : goal.returns-else-at-eq-LAST_CHANGE
returns-else-at-eq-LAST_CHANGE c = search count-done
