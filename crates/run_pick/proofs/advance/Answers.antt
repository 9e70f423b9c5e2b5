-- `run_pick::advance` meets its contract: one law for each decision. Assumes nothing.
use borrow.Author.Rules.{rules}
use Rattle.run_pick.proofs.Laws.{way_waits, way_collides, way_goes}
use Rattle.run_pick.proofs.advance.Goals as goal

pub returns-in-Go : goal.returns-in-Go
returns-in-Go c = search (rules, way_goes)

pub returns-in-Wait : goal.returns-in-Wait
returns-in-Wait c = search way_waits

pub returns-in-Collision : goal.returns-in-Collision
returns-in-Collision c = search way_collides
