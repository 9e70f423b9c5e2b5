-- `task::Task::del` meets its contract: an accepted task has the length of its rows. Assumes nothing.
use borrow.Author.Rules.{rules}
use Rattle.theory.proofs.Accepted.{accepted}
use Rattle.task.proofs.Task.del.Goals as goal

pub action_mask-requires : goal.action_mask-requires
action_mask-requires c = record { sized = (accepted c.args.self.now.words.now c.args.self.now.accepted).size; a_bound = search rules; k_bound = search rules }
