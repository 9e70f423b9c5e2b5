-- All picks done on a run that is not refused.
use Rattle.std.specs.Prelude.{◌≡◌, List, ℕ}
use Rattle.semantics.specs.Dispatch as Paper
use Rattle.run_ticket.specs.Value.{numbered_of}
use Rattle.run_ticket.specs.declared.Numbered.{Numbered}
use Rattle.run_play.specs.Value.{play_from, answered}

pub record AllMean (t plans ends : List ℕ) (d : Paper.Numbered ℕ) (picks before : List ℕ) (run : Numbered) (after : List ℕ)
    : Type 0 where
  pub played : numbered_of run ≡ play_from t plans ends d picks
  pub answers : after ≡ answered t plans ends d picks before
