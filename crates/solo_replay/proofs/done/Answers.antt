-- `solo_replay::done` meets its contract. Assumes nothing.
use Rattle.solo_replay.proofs.Laws.{done-is}
use Rattle.solo_replay.proofs.done.Goals as goal

pub returns : goal.returns
returns c = search done-is
