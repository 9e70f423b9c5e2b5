-- `pddl::read` meets its contract.
use Rattle.pddl.proofs.Whole.{read_short, read_whole, read-refused}
use Rattle.pddl.proofs.read.Goals as goal

pub returns-then-words-end : goal.returns-then-words-end
returns-then-words-end c = read_short _ _ c.in-Ok.ensures c.if-words-end.true

pub returns-else-words-end : goal.returns-else-words-end
returns-else-words-end c = read_whole _ _ c.in-Ok.ensures c.if-words-end.false _ _ c.store.ensures c.fill_from.ensures

pub returns-in-Err : goal.returns-in-Err
returns-in-Err c = read-refused _ c.in-Err.e c.in-Err.ensures _ c.fill_from-in-Err.ensures
