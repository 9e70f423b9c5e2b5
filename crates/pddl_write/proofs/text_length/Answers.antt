-- `pddl_write::text_length` meets its contract. Assumes nothing.
use Rattle.pddl_write.proofs.Laws.{put-length}
use Rattle.pddl_write.proofs.Bound.{text-most}
use Rattle.pddl_write.proofs.text_length.Goals as goal

pub returns : goal.returns
returns c = put-length c.put_text.ensures (text-most c.args.t.now.words.now c.args.t.now.accepted c.args.part)
