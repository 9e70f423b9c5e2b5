-- `task::head_fits` meets its contract: one law for each way out. Assumes nothing.
use Rattle.task.proofs.Laws.{no-facts, many-facts, no-members, many-members, many-actions, head-last}
use Rattle.task.proofs.head_fits.Goals as goal

pub returns-then-t-lt1 : goal.returns-then-t-lt1
returns-then-t-lt1 c = search no-facts

pub returns-then-t-gt128 : goal.returns-then-t-gt128
returns-then-t-gt128 c = search many-facts

pub returns-then-t-lt1-2 : goal.returns-then-t-lt1-2
returns-then-t-lt1-2 c = search no-members

pub returns-then-t-gt8 : goal.returns-then-t-gt8
returns-then-t-gt8 c = search many-members

pub returns-then-t-gt256 : goal.returns-then-t-gt256
returns-then-t-gt256 c = search many-actions

pub returns : goal.returns
returns c = search head-last
