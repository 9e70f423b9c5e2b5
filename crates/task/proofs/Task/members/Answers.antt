-- `task::Task::members` meets its contract: an accepted task has the length of its rows. Assumes nothing.
use native.Mathlib.Omega.{arith}
use Rattle.theory.proofs.Accepted.{accepted}
use Rattle.task.proofs.Task.members.Goals as goal

pub word-requires : goal.word-requires
word-requires c = omega (arith, (accepted c.args.self.now.words.now c.args.self.now.accepted).size)
