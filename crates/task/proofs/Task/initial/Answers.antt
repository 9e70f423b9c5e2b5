-- `task::Task::initial` meets its contract: an accepted task has the length of its rows. Assumes nothing.
use native.Mathlib.Omega.{arith}
use Rattle.theory.proofs.Accepted.{accepted}
use Rattle.task.proofs.Task.initial.Goals as goal

pub mask_in-requires : goal.mask_in-requires
mask_in-requires c = omega (arith, (accepted c.args.self.now.words.now c.args.self.now.accepted).size)
