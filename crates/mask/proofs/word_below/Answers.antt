-- `mask::word_below` meets its contract: a shift by less than 64, and above that every word is below. Assumes nothing.
use borrow.Author.Rules.{rules}
use Rattle.mask.proofs.Halves.{shift_below, word_below}
use Rattle.mask.proofs.word_below.Goals as goal

pub returns-then-facts-lt64 : goal.returns-then-facts-lt64
returns-then-facts-lt64 c = search shift_below

pub returns-else-facts-lt64 : goal.returns-else-facts-lt64
returns-else-facts-lt64 c = search (rules, word_below)
