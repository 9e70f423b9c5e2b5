-- `pddl_write::next` meets its contract. Assumes nothing.
use borrow.Author.Rules.{rules}
use Rattle.pddl_write.proofs.Laws.{next-inside, next_last}
use Rattle.pddl_write.proofs.next.Goals as goal

pub returns-then-at-lt-MOST : goal.returns-then-at-lt-MOST
returns-then-at-lt-MOST c = search (rules, next-inside)

pub returns-else-at-lt-MOST : goal.returns-else-at-lt-MOST
returns-else-at-lt-MOST c = search (rules, next_last)
