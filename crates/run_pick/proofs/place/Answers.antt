-- `run_pick::place` meets its contract: a task has at most as many members as a run has places. Assumes nothing.
use native.Mathlib.Omega.{arith}
use Rattle.theory.proofs.Accepted.{accepted}
use Rattle.run_pick.proofs.place.Goals as goal

pub offset_bounds-run-j : goal.offset_bounds-run-j
offset_bounds-run-j c = omega (arith, (accepted c.args.t.now.words.now c.args.t.now.accepted).few-members)

pub bounds-run-j : goal.bounds-run-j
bounds-run-j c = omega (arith, (accepted c.args.t.now.words.now c.args.t.now.accepted).few-members)
