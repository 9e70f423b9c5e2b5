-- A pick, an ask and a commit on a run, its start and a list of picks on it, for C: the number returned, and the lent
-- slices afterwards.
use Rattle.std.specs.Prelude.{◌≡◌, ◌||◌, List, ℕ, length, ltb}
use Rattle.semantics.specs.Base.{Answer, ◌if◌, ◌else◌, ◌leaves◌otherwise◌, front}
use Rattle.semantics.specs.Task.{check}
use Rattle.semantics.specs.Run.{Replied}
use Rattle.semantics.specs.Dispatch.{Numbered, first}
use Rattle.run_play.specs.Value.{play_from, play_refusal, answered}
use Rattle.capi_numbers.specs.Call.{Call, unless_short, called}
use Rattle.capi_numbers.specs.Numbers as numbers
use Rattle.capi_run.specs.Runs.{run_words, no_run, run_in, words_of_run, after}

-- a pick or a commit with this meaning, on the run that the words hold: 14 where they hold none or `out` has no room
pub record RunCall (means : Answer (Replied (Numbered ℕ))) (run out : List ℕ) (c : Call) (run' : List ℕ) : Type 0 where
  pub told : c ≡ called (no_run run || ltb (length out) 3) numbers.picked out means
  pub held : run' ≡ unless_short (no_run run || ltb (length out) 3) run (after run means)

-- 14 for too few words, then the task check
abbrev pub start_refusal : List ℕ → List ℕ → ℕ
start_refusal t run = (14 if ltb (length run) run_words) else check t

pub record StartCall (t run : List ℕ) (r : ℕ) (run' : List ℕ) : Type 0 where
  pub number : r ≡ start_refusal t run
  pub held : run' ≡ (start_refusal t run leaves (λ k. run) otherwise front (words_of_run (first t)) run)

-- 14 where the words hold no run, then as the list of picks refuses
abbrev pub refuses_play : List ℕ → List ℕ → List ℕ → List ℕ → List ℕ → List ℕ → ℕ
refuses_play t plans ends run picks answers =
    (14 if no_run run) else play_refusal t plans ends (run_in run) picks answers

pub record PlayCall (t plans ends run picks answers : List ℕ) (r : ℕ) (run' answers' : List ℕ) : Type 0 where
  pub number : r ≡ refuses_play t plans ends run picks answers
  pub held : run'
      ≡ (refuses_play t plans ends run picks answers leaves (λ k. run)
      otherwise front (words_of_run (play_from t plans ends (run_in run) picks)) run)
  pub told : answers'
      ≡ (refuses_play t plans ends run picks answers leaves (λ k. answers)
      otherwise answered t plans ends (run_in run) picks answers)
