-- What is put of an answer, and what the slices of its conflict hold.
use Rattle.std.specs.Prelude.{List, ℕ}
use Rattle.semantics.specs.Base.{Answer}
use Rattle.semantics.specs.Verdict.{Verdict, Failing}
use Rattle.report.specs.File.{body}
use Rattle.report.specs.Inner.Put.{Holds, conflict_of}
use Rattle.report.specs.declared.Slices.{Slices}

abbrev pub HeldIn : Answer (Verdict Failing) → Slices → Type 0
HeldIn answer s = Holds answer s.members s.plans.now s.ends.now s.picks.now

abbrev pub conflict_in : Answer (Verdict Failing) → Slices → List ℕ
conflict_in answer s = conflict_of answer s.members s.plans.now s.ends.now s.picks.now

abbrev pub body_in : Answer (Verdict Failing) → Slices → List ℕ
body_in answer s = body answer s.members s.plans.now s.ends.now s.picks.now
