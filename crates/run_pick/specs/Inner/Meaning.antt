-- What runs of a task with plans in one slice mean.
use Rattle.std.specs.Prelude.{List, ℕ, ◌+◌, ◌^◌, ◌<◌, get_or, Result, Ok, Err}
use Rattle.semantics.specs.Base.{Answer}
use Rattle.semantics.specs.Task.{members}
use Rattle.semantics.specs.System.{system, waits}
use Rattle.semantics.specs.Run.{Replied, plans_of, pick}
use Rattle.semantics.specs.Step.{Decision as Decided}
use Rattle.semantics.specs.Dispatch.{next_step}
use Rattle.semantics.specs.Run as Paper
use Rattle.refusal.specs.declared.Refusal.{Refusal}
use Rattle.step.specs.declared.Decision.{Decision}
use Rattle.run_pick.specs.declared.Run.{Run}

module _ (t plans ends : List ℕ) where
  abbrev pub plans_in : List (List ℕ)
  plans_in = plans_of (members t) plans ends

  abbrev pub next_in : Paper.Run ℕ → ℕ → Answer (Decided ℕ)
  next_in r j = next_step (system t) (waits t) plans_in r j

  abbrev pub pick_in : Paper.Run ℕ → ℕ → Answer (Replied (Paper.Run ℕ))
  pick_in r j = pick (system t) (waits t) plans_in r j

-- where the next step has an answer: the member is one of the task's, and its place can be moved on
abbrev pub Ready : List ℕ → Run → ℕ → Result Decision Refusal → Type 0
Ready t run j (Err e) = Unit {0}
Ready t run j (Ok d) = (j < members t) × (get_or run.places j 0 + 1 < 2 ^ 64)
