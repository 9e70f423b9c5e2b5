-- `report::put_refusal` meets its contract. Assumes nothing.
use native.Mathlib.Omega.{arith}
use Rattle.semantics.specs.Base.{numbers_from}
use Rattle.theory.proofs.Laid.{laid-append}
use Rattle.report.specs.File.{word}
use Rattle.report.proofs.put_refusal.Goals as goal

pub put_header-at-requires : goal.put_header-at-requires
unfolding word numbers_from
put_header-at-requires c = omega arith

pub put_short-requires-clause-room : goal.put_short-requires-clause-room
unfolding word numbers_from
put_short-requires-clause-room c = omega arith

pub returns : goal.returns
unfolding word numbers_from
returns c = laid-append c.put_header-at.ensures c.put_short.ensures.laid
