-- The paper's fault and verdict for each case of the enums.
use Rattle.semantics.specs.Run as Run
use Rattle.semantics.specs.Verdict as Paper
use Rattle.mask.specs.Number.{number}
use Rattle.fault.specs.declared.Fault.{Fault}
use Rattle.fault.specs.declared.Fault.TheVariants.{Collision, Deadlock, Missed}
use Rattle.fault.specs.declared.Failing.{Failing}
use Rattle.fault.specs.declared.Verdict.{Verdict}
use Rattle.fault.specs.declared.Verdict.TheVariants.{Unsolvable, NotRobust, Robust}

abbrev pub fault_of : Fault → Run.Fault
fault_of Collision = Run.collision
fault_of Deadlock = Run.deadlock
fault_of (Missed j) = Run.missed j

abbrev pub failing_of : Failing → Paper.Failing
failing_of f = record { fault = fault_of f.fault; picked = f.picked; missing = number f.missing }

abbrev pub verdict_of : Verdict → Paper.Verdict Paper.Failing
verdict_of (Unsolvable i) = Paper.unsolvable i
verdict_of (NotRobust f) = Paper.not_robust (failing_of f)
verdict_of (Robust n) = Paper.robust n
