-- `run_ticket::settle` meets its contract: one law for each way out. Assumes nothing.
use Rattle.run_ticket.proofs.Laws.{settle_stale, settle_fresh}
use Rattle.run_ticket.proofs.settle.Goals as goal

pub returns-then-ticket-at : goal.returns-then-ticket-at
returns-then-ticket-at c = search settle_stale

pub returns : goal.returns
returns c = search settle_fresh
