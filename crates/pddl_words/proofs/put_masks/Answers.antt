-- `pddl_words::put_masks` meets its contract.
use borrow.Author.Rules.{rules}
use Rattle.pddl_words.proofs.Rows.{next-room, masks-put, masks-long}
use Rattle.pddl_words.proofs.put_masks.Goals as goal

pub put_mask-requires-2 : goal.put_mask-requires-2
put_mask-requires-2 c = search (rules, next-room)

pub shape_of-table : goal.shape_of-table
shape_of-table c = search (rules, masks-long)

pub returns : goal.returns
returns c = search (rules, masks-put)
