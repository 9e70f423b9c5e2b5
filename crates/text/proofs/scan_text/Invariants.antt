use Rattle.text.proofs.Scanning.{Scanning}
use Rattle.text.proofs.scan_text.Given as goal

abbrev pub invariant-loop-b : goal.invariant-loop-b
invariant-loop-b l = Scanning l.width l.most l.text l.initial.words l.words l.place l.count l.b-index
