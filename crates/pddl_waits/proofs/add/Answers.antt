-- `pddl_waits::add` meets its contract. Assumes nothing.
use borrow.Author.Rules.{rules}
use Rattle.pddl_waits.proofs.Filling.{in_table, no-fact, no-action}
use Rattle.pddl_waits.proofs.add.Goals as goal

pub returns-then-fact : goal.returns-then-fact
returns-then-fact c = search (rules, in_table)

pub returns-else-fact : goal.returns-else-fact
returns-else-fact c = search (rules, no-fact)

pub returns-else-action-room : goal.returns-else-action-room
returns-else-action-room c = search (rules, no-action)
