-- The paper's values for the structs and for each case of the enums.
use Rattle.std.specs.Prelude.{◌≡◌, ℕ, get_or, Option, None, Some, Result}
use Rattle.semantics.specs.Base as Base
use Rattle.semantics.specs.Base.{refused, gives}
use Rattle.semantics.specs.Run as Paper
use Rattle.semantics.specs.Run.{pass_over}
use Rattle.refusal.specs.Number.{answered}
use Rattle.refusal.specs.declared.Refusal.{Refusal}
use Rattle.mask.specs.Number.{number, shared_number}
use Rattle.fault.specs.Value.{fault_of}
use Rattle.fault.specs.declared.Fault.{Fault}
use Rattle.run_pick.specs.declared.Run.{Run}
use Rattle.run_pick.specs.declared.Reply.{Reply}
use Rattle.run_pick.specs.declared.Reply.TheVariants as reply
use Rattle.run_pick.specs.declared.Picked.{Picked}

abbrev pub closed_of : Option Fault → Paper.Closed
closed_of None = Paper.not_yet
closed_of (Some f) = Paper.by (fault_of f)

abbrev pub run_of : Run → Paper.Run ℕ
run_of r =
    record { shared = shared_number r.shared; places = λ j. get_or r.places j 0; closed = closed_of r.closed }

-- ---- a pick

abbrev pub reply_of : Reply → Paper.Reply
reply_of reply.Go = Paper.goes
reply_of (reply.Collision m) = Paper.collides (number m)

abbrev pub answer_of : Result Reply Refusal → Base.Answer Paper.Reply
answer_of a = answered reply_of a

-- a pick's reply, without the run after it
abbrev pub replies : {R : Type 0} → Base.Answer (Paper.Replied R) → Base.Answer Paper.Reply
replies (refused k) = refused k
replies (gives p) = gives p.reply

-- a reply with the run after it
abbrev pub reply_with : {R : Type 0} → R → Reply → Paper.Replied R
reply_with r x = record { reply = reply_of x; run = r }

-- an answer with the run after it
abbrev pub answer_with : {R : Type 0} → Result Reply Refusal → R → Base.Answer (Paper.Replied R)
answer_with a r = answered (reply_with r) a

-- the answer, and the run after it: as it was where the pick is refused
pub record PickMeans (meaning : Base.Answer (Paper.Replied (Paper.Run ℕ))) (run : Run) (p : Picked) : Type 0 where
  pub answer : answer_of p.answer ≡ replies meaning
  pub after : run_of p.run ≡ pass_over (run_of run) meaning
