-- `pddl_words::put_row` meets its contract.
use borrow.Author.Rules.{rules}
use Rattle.pddl_words.proofs.Rows.{first-room, last-room, row_put, row-long}
use Rattle.pddl_words.proofs.put_row.Goals as goal

pub put_masks-requires : goal.put_masks-requires
put_masks-requires c = search (rules, first-room)

pub put_masks-requires-2 : goal.put_masks-requires-2
put_masks-requires-2 c = search (rules, last-room)

pub shape_of-table : goal.shape_of-table
shape_of-table c = search (rules, row-long)

pub returns : goal.returns
returns c = search (rules, row_put)
