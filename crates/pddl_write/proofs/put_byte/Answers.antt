-- `pddl_write::put_byte` meets its contract. Assumes nothing.
use Rattle.pddl_write.proofs.Laws.{byte_inside, byte-outside}
use Rattle.pddl_write.proofs.put_byte.Goals as goal

pub returns-then-at-out : goal.returns-then-at-out
returns-then-at-out c = search byte-outside

pub returns : goal.returns
returns c = search byte_inside
