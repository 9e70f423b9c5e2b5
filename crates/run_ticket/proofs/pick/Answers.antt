-- `run_ticket::pick` meets its contract: one law for each way out. Assumes nothing.
use Rattle.run_ticket.proofs.Laws.{pick-refused, pick-counted}
use Rattle.run_ticket.proofs.pick.Goals as goal

pub returns-in-Err : goal.returns-in-Err
returns-in-Err c = let q = c.in-Err.ensures in search pick-refused

pub returns-in-Ok : goal.returns-in-Ok
returns-in-Ok c = let q = c.in-Ok.ensures in search pick-counted
