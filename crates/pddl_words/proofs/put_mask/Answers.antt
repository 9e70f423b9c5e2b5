-- `pddl_words::put_mask` meets its contract.
use borrow.Author.Rules.{rules}
use Rattle.pddl_words.proofs.Rows.{mask-room, mask-put}
use Rattle.pddl_words.proofs.put_mask.Goals as goal

pub bounds-table-at-2 : goal.bounds-table-at-2
bounds-table-at-2 c = search (rules, mask-room)

pub returns : goal.returns
returns c = search (rules, mask-put)
