use Rattle.pddl_write.proofs.Laws.{put_then}
use Rattle.pddl_write.proofs.put_told.Goals as goal

pub returns : goal.returns
returns c = search put_then
