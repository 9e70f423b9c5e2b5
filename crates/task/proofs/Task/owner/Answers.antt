-- `task::Task::owner` meets its contract: an accepted task has the length of its rows. Assumes nothing.
use borrow.Author.Rules.{rules}
use Rattle.theory.proofs.Accepted.{accepted}
use Rattle.task.proofs.Task.owner.Goals as goal

pub owner_word-requires : goal.owner_word-requires
owner_word-requires c = record { sized = (accepted c.args.self.now.words.now c.args.self.now.accepted).size; a_bound = search rules }
