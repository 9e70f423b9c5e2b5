-- `run_pick::next_step` meets its contract: one law for each way out. Assumes nothing.
use borrow.Author.Rules.{rules}
use Rattle.run_pick.proofs.Laws.{way_nobody, way_closed, way_over, way_decided, way_ready}
use Rattle.run_pick.proofs.next_step.Goals as goal

pub returns-then-members-j : goal.returns-then-members-j
returns-then-members-j c = record { result_value = search way_nobody; ready = tt }

pub returns-then-is_some : goal.returns-then-is_some
returns-then-is_some c = record { result_value = search way_closed; ready = tt }

pub returns-then-m-k : goal.returns-then-m-k
returns-then-m-k c = record { result_value = search way_over; ready = tt }

pub returns : goal.returns
returns c = record { result_value = search way_decided; ready = search (rules, way_ready) }
