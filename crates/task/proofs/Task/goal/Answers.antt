-- `task::Task::goal` meets its contract: an accepted task has the length of its rows. Assumes nothing.
use native.Mathlib.Omega.{arith}
use Rattle.theory.proofs.Accepted.{accepted}
use Rattle.task.proofs.Task.goal.Goals as goal

pub overflow_add-i : goal.overflow_add-i
overflow_add-i c = omega (arith, (accepted c.args.self.now.words.now c.args.self.now.accepted).size)

pub mask_in-requires : goal.mask_in-requires
mask_in-requires c = omega (arith, (accepted c.args.self.now.words.now c.args.self.now.accepted).size)
