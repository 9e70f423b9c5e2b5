-- Demand 2: step, solo replay, joint replay, a pick and an ask on a run and solo search agree with the model.
use Rattle.semantics.specs.Demands.{Demand2}
use Rattle.theory.proofs.Agrees.Ask.{ask_agrees_lem, ask_fits}
use Rattle.theory.proofs.Agrees.Joint.{joint_replay_agrees_lem}
use Rattle.theory.proofs.Agrees.Pick.{pick_agrees_lem, pick-fits}
use Rattle.theory.proofs.Agrees.Solo.{solo-replay_agrees}
use Rattle.theory.proofs.Agrees.Step.{step_agrees_lem}
use Rattle.theory.proofs.SoloSearch.{solo_search_agrees_lem}

pub demand2 : Demand2
demand2 =
    record {
      step_agrees = step_agrees_lem;
      solo_replay_agrees = solo-replay_agrees;
      joint_replay_agrees = joint_replay_agrees_lem;
      pick_agrees = pick_agrees_lem;
      pick_answers = pick-fits;
      ask_agrees = ask_agrees_lem;
      ask_answers = ask_fits;
      solo_search_agrees = solo_search_agrees_lem;
    }
