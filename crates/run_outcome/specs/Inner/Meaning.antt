-- What runs of a task with plans in one slice come to.
use Rattle.std.specs.Prelude.{Bool, List, ℕ}
use Rattle.semantics.specs.Base.{Answer}
use Rattle.semantics.specs.System.{system, waits}
use Rattle.semantics.specs.Run.{Run, Outcome, Replay, pickable, steps_left, outcome, replay_on, replay}
use Rattle.run_pick.specs.Inner.Meaning.{plans_in}

module _ (t plans ends : List ℕ) where
  abbrev pub pickable_in : Run ℕ → Bool
  pickable_in r = pickable (system t) (waits t) (plans_in t plans ends) r

  abbrev pub steps_left_in : Run ℕ → Bool
  steps_left_in r = steps_left (system t) (waits t) (plans_in t plans ends) r

  abbrev pub outcome_in : Run ℕ → Outcome
  outcome_in r = outcome (system t) (waits t) (plans_in t plans ends) r

  abbrev pub replay_on_in : Answer (Run ℕ) → ℕ → ℕ → List ℕ → Answer (Replay ℕ)
  replay_on_in a k m picks = replay_on (system t) (waits t) (plans_in t plans ends) a k m picks

  abbrev pub replay_in : List ℕ → Answer (Replay ℕ)
  replay_in picks = replay (system t) (waits t) (plans_in t plans ends) picks
