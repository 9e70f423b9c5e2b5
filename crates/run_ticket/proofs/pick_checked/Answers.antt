-- `run_ticket::pick_checked` meets its contract: the pick is counted. Assumes nothing.
use Rattle.run_ticket.proofs.Laws.{checked-counted}
use Rattle.run_ticket.proofs.pick_checked.Goals as goal

pub returns : goal.returns
returns c = search checked-counted
