-- The paper's values for the structs and for each case of the enums.
use Rattle.std.specs.Prelude.{ℕ, Result}
use Rattle.semantics.specs.Base as Base
use Rattle.semantics.specs.Run as Paper
use Rattle.refusal.specs.Number.{answered}
use Rattle.refusal.specs.declared.Refusal.{Refusal}
use Rattle.mask.specs.Number.{number, shared_number}
use Rattle.fault.specs.Value.{fault_of}
use Rattle.run_outcome.specs.declared.Outcome.{Outcome}
use Rattle.run_outcome.specs.declared.Outcome.TheVariants as outcome
use Rattle.run_outcome.specs.declared.Replay.{Replay}

abbrev pub outcome_of : Outcome → Paper.Outcome
outcome_of outcome.Success = Paper.success
outcome_of (outcome.Failure f) = Paper.failure (fault_of f)
outcome_of outcome.Open = Paper.still_open

abbrev pub replay_of : Replay → Paper.Replay ℕ
replay_of r =
    record {
      outcome = outcome_of r.outcome;
      shared = shared_number r.shared;
      picked = r.picked;
      missing = number r.missing;
    }

abbrev pub replayed_of : Result Replay Refusal → Base.Answer (Paper.Replay ℕ)
replayed_of a = answered replay_of a
