-- `mask::word_without` meets its contract: what `a` and `b` have in common is within `a`. Assumes nothing.
use lib.Bits.{and_le_l}
use Rattle.mask.proofs.word_without.Goals as goal

pub overflow_sub-result : goal.overflow_sub-result
overflow_sub-result c = search and_le_l
