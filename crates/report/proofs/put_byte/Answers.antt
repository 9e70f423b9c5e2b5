-- `report::put_byte` meets its contract. Assumes nothing.
use Rattle.report.proofs.Laws.{put_byte}
use Rattle.report.proofs.put_byte.Goals as goal

pub returns : goal.returns
returns c = search put_byte
