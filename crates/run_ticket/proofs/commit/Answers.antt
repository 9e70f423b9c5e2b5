-- `run_ticket::commit` meets its contract: one law for each way out. Assumes nothing.
use Rattle.run_ticket.proofs.Laws.{commit_refused, commit_nobody, commit_settled}
use Rattle.run_ticket.proofs.commit.Goals as goal

pub returns-in-Err : goal.returns-in-Err
returns-in-Err c = let q = c.in-Err.ensures in search commit_refused

pub returns-then-members-j : goal.returns-then-members-j
returns-then-members-j c = let q = c.in-Ok.ensures in search commit_nobody

pub returns : goal.returns
returns c = let q = c.in-Ok.ensures in search commit_settled
