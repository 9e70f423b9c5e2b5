-- The paper's values for the structs and for each case of the enums.
use Rattle.std.specs.Prelude.{◌≡◌, ℕ, Result}
use Rattle.semantics.specs.Base as Base
use Rattle.semantics.specs.Run as Paper
use Rattle.semantics.specs.Run.{pass_over}
use Rattle.semantics.specs.Dispatch as Dispatch
use Rattle.refusal.specs.Number.{answered}
use Rattle.refusal.specs.declared.Refusal.{Refusal}
use Rattle.step.specs.Value.{decision_of}
use Rattle.run_pick.specs.Value.{run_of, answer_of, replies, answer_with}
use Rattle.run_pick.specs.declared.Picked.{Picked}
use Rattle.run_ticket.specs.declared.Numbered.{Numbered}
use Rattle.run_ticket.specs.declared.Ticket.{Ticket}
use Rattle.run_ticket.specs.declared.Asked.{Asked}
use Rattle.run_ticket.specs.declared.Dispatched.{Dispatched}

abbrev pub numbered_of : Numbered → Dispatch.Numbered ℕ
numbered_of d = record { run = run_of d.run; change = d.change }

abbrev pub ticket_of : Ticket → Dispatch.Ticket
ticket_of k = record { member = k.member; change = k.change }

abbrev pub ask_of : Asked → Dispatch.Asked ℕ
ask_of x = record { decision = decision_of x.decision; ticket = ticket_of x.ticket }

abbrev pub asked_of : Result Asked Refusal → Base.Answer (Dispatch.Asked ℕ)
asked_of a = answered ask_of a

-- the answer, and the run after it: as it was where there is a refusal
pub record DispatchMeans (meaning : Base.Answer (Paper.Replied (Dispatch.Numbered ℕ))) (at : Numbered)
    (p : Dispatched) : Type 0 where
  pub answer : answer_of p.answer ≡ replies meaning
  pub after : numbered_of p.run ≡ pass_over (numbered_of at) meaning

-- what a pick or a commit answers, with the run after it
abbrev pub dispatched_of : Dispatched → Base.Answer (Paper.Replied (Dispatch.Numbered ℕ))
dispatched_of p = answer_with p.answer (numbered_of p.run)

-- ---- inside: a pick on the run without its change number

-- a pick's answer, with the run after it
abbrev pub picked_of : Picked → Base.Answer (Paper.Replied (Paper.Run ℕ))
picked_of p = answer_with p.answer (run_of p.run)
