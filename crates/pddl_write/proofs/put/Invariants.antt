use lib.ListN.{drop}
use Rattle.pddl_write.proofs.Laws.{Stage}
use Rattle.pddl_write.proofs.put.Given as goal

abbrev pub invariant-loop-byte : goal.invariant-loop-byte
invariant-loop-byte l = Stage l.bytes l.initial.out l.at (drop l.byte-index l.bytes) l.out l.next
