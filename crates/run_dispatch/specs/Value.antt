-- What the dispatcher's operations give back.
use Rattle.std.specs.Prelude.{◌≡◌, ℕ, Result}
use Rattle.semantics.specs.Base as Base
use Rattle.semantics.specs.Base.{refused, gives, unless}
use Rattle.semantics.specs.Run as Paper
use Rattle.semantics.specs.Run.{pass_over}
use Rattle.semantics.specs.Dispatch as Dispatch
use Rattle.refusal.specs.declared.Refusal.{Refusal}
use Rattle.run_pick.specs.Value.{answer_of, replies}
use Rattle.run_pick.specs.declared.Reply.{Reply}
use Rattle.run_ticket.specs.Value.{numbered_of}
use Rattle.run_ticket.specs.declared.Numbered.{Numbered}

-- a pick or a commit on a lent run: its answer, and the run at exit: as it was where there is a refusal
pub record LentMeans (meaning : Base.Answer (Paper.Replied (Dispatch.Numbered ℕ))) (entry : Numbered) (answer : Result Reply Refusal)
    (exit : Numbered) : Type 0 where
  pub answers : answer_of answer ≡ replies meaning
  pub leaves : numbered_of exit ≡ pass_over (numbered_of entry) meaning

abbrev pub or_before : Dispatch.Numbered ℕ → Base.Answer (Dispatch.Numbered ℕ) → Dispatch.Numbered ℕ
or_before before (refused k) = before
or_before before (gives r) = r

-- an answer that is a run, as a refusal, 0 where there is none, and a run: the one before where there is a refusal
pub record RunMeans (meaning : Base.Answer (Dispatch.Numbered ℕ)) (before : Dispatch.Numbered ℕ) (refusal : ℕ) (run : Numbered)
    : Type 0 where
  pub answer : unless refusal (gives (numbered_of run)) ≡ meaning
  pub after : numbered_of run ≡ or_before before meaning

-- the run of a refused task: at the empty copy
abbrev pub empty_run : Dispatch.Numbered ℕ
empty_run = record { run = record { shared = 0; places = λ j. 0; closed = Paper.not_yet }; change = 0 }
