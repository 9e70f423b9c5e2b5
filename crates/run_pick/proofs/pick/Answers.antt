-- `run_pick::pick` meets its contract: one law for each way out. Assumes nothing.
use Rattle.run_pick.proofs.Laws.{way_refused, way_advances, ready-place, ready-few}
use Rattle.run_pick.proofs.pick.Goals as goal

pub advance-requires : goal.advance-requires
advance-requires c = record { j_bound = search ready-few; fits = search ready-place }

pub returns-in-Err : goal.returns-in-Err
returns-in-Err c = search way_refused

pub returns-in-Ok : goal.returns-in-Ok
returns-in-Ok c = search way_advances
