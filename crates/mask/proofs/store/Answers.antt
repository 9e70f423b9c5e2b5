-- `mask::store` meets its contract: the low word, then the high word. Assumes nothing.
use borrow.Author.Rules.{rules}
use Rattle.mask.proofs.Stored.{stored, stored-room}
use Rattle.mask.proofs.store.Goals as goal

pub bounds-words-at-2 : goal.bounds-words-at-2
bounds-words-at-2 c = search (rules, stored-room)

pub returns : goal.returns
returns c = search (rules, stored)
