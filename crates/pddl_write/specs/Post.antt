-- What the writer promises, over its answer and both slices.
use Rattle.std.specs.Prelude.{List, ℕ, Result}
use Rattle.semantics.specs.PddlWrite as PddlWrite
use Rattle.semantics.specs.PddlWrite.{Writing}
use Rattle.refusal.specs.Number.{answered}
use Rattle.refusal.specs.declared.Refusal.{Refusal}
use Rattle.pddl_write.specs.declared.Lengths.{Lengths}

abbrev pub lengths_of : Lengths → PddlWrite.Lengths
lengths_of l = record { of_text = l.of_text; of_waits = l.of_waits }

abbrev pub writing : Result Lengths Refusal → List ℕ → List ℕ → Writing
writing r text waits = record { answer = answered lengths_of r; text = text; waits = waits }
