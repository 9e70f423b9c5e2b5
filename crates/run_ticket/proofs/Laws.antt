-- The ways out of a pick on a run with its change number, of ask and of commit.
use mathlib.Core.Path.{◌≡◌, refl, sym, ap, ◌∙◌}
use mathlib.Core.Bool.{not}
use mathlib.Core.List.{List}
use Prim.Native.Nat.{ℕ, ◌+◌, ◌≤◌, ◌<◌}
use native.Mathlib.Omega.{arith}
use lib.Dec.{eqb}
use borrow.Author.Tests.{lt-ltb, le-ltb, eq-eqb, ne_eqb}
use Rattle.semantics.specs.Base as Base
use Rattle.semantics.specs.Base.{refused, gives, unless, ◌if◌, ◌else◌}
use Rattle.semantics.specs.Task.{members}
use Rattle.semantics.specs.Run as Paper
use Rattle.semantics.specs.Run.{run_refusal, pick_on}
use Rattle.semantics.specs.Dispatch as Dispatch
use Rattle.semantics.specs.Dispatch.{last_change, counts, pick_numbered, ask_on, commit_on}
use Rattle.std.specs.Prelude.{Ok, Err}
use Rattle.refusal.specs.Number.{number}
use Rattle.refusal.specs.declared.Refusal.{Refusal}
use Rattle.refusal.proofs.Laws.{number-positive, first-refuses}
use Rattle.theory.proofs.Refusals.{unless-refused}
use Rattle.step.specs.Value.{decision_of}
use Rattle.step.specs.declared.Decision.{Decision}
use Rattle.run_plans.specs.Value.{Holds, of_plans}
use Rattle.run_plans.specs.declared.Plans.{Plans}
use Rattle.run_pick.specs.Inner.Meaning.{next_in, pick_in}
use Rattle.run_pick.specs.Value.{run_of, PickMeans}
use Rattle.run_pick.specs.declared.Picked.{Picked}
use Rattle.run_pick.specs.declared.Reply.{Reply}
use Rattle.run_pick.proofs.Laws.{answer-is, means-picked}
use Rattle.run_replay.proofs.Laws.{unless-some}
use Rattle.run_ticket.specs.Value.{numbered_of, ticket_of, picked_of, dispatched_of, DispatchMeans}
use Rattle.run_ticket.specs.declared.Numbered.{Numbered}
use Rattle.run_ticket.specs.declared.Ticket.{Ticket}
use Rattle.run_ticket.specs.declared.Dispatched.{Dispatched}

pub refused-means : (k : ℕ) (at : Numbered) (a : Base.Answer (Paper.Replied (Dispatch.Numbered ℕ))) → a ≡ refused k
    → (p : Dispatched) → DispatchMeans (refused k) at p → DispatchMeans a at p
refused-means k at a e p m = rw e m

-- ---- the change number

module _ (at : Numbered) (p : Picked) where
  abbrev Counts : Dispatched → Type 0
  Counts d = DispatchMeans (counts (numbered_of at) (picked_of p)) at d

  pub count-refused : (k : Refusal) → p.answer ≡ Err k → (d : Dispatched) → DispatchMeans (refused (number k)) at d
      → Counts d
  count-refused k e = refused-means (number k) at _ (rw e)

  module _ (r : Reply) (e : p.answer ≡ Ok r) where
    pub count-last : at.change ≡ last_change → (d : Dispatched) → DispatchMeans (refused 20) at d → Counts d
    count-last l = refused-means 20 at _ (rw (e, l))

    pub count-done : (at.change ≡ last_change → ⊥)
        → Counts (record { answer = Ok r; run = record { run = p.run; change = at.change + 1 } })
    count-done l = rw (e, ne_eqb at.change last_change l) (record { answer = refl; after = refl })

-- what a pick or a commit means is its answer and its run
pub means_dispatched : {a : Base.Answer (Paper.Replied (Dispatch.Numbered ℕ))} (at : Numbered) (p : Dispatched)
    → DispatchMeans a at p → a ≡ dispatched_of p
means_dispatched {a} at p m = answer-is p.answer a (numbered_of at) (numbered_of p.run) m.answer m.after

pub checked-counted : {a : Base.Answer (Paper.Replied (Paper.Run ℕ))} (at : Numbered) (p : Picked)
    → PickMeans a at.run p → (d : Dispatched) → DispatchMeans (counts (numbered_of at) (picked_of p)) at d
    → DispatchMeans (counts (numbered_of at) a) at d
checked-counted at p m d c = rw (means-picked m) c

-- ---- a refusal of the run that is handed in

module _ (t plans ends : List ℕ) (at : Numbered) (e : Refusal) (k : number e ≡ run_refusal t plans ends (run_of at.run))
  where
    run-refused : {A : Type 0} (x : Base.Answer A)
        → unless (run_refusal t plans ends (run_of at.run)) x ≡ refused (number e)
    run-refused x = rw (← k) (unless-some e x)

    pub pick-refused : (j : ℕ) (d : Dispatched) → DispatchMeans (refused (number e)) at d
        → DispatchMeans (pick_numbered t plans ends (numbered_of at) j) at d
    unfolding pick_numbered pick_on
    pick-refused j =
        refused-means (number e) at _
        (ap (counts (numbered_of at)) (run-refused (pick_in t plans ends (run_of at.run) j)))

    pub ask_refused : (j : ℕ) → refused (number e) ≡ ask_on t plans ends (numbered_of at) j
    unfolding ask_on
    ask_refused j = sym (run-refused _)

    pub commit_refused : (ticket : Ticket) (d : Dispatched) → DispatchMeans (refused (number e)) at d
        → DispatchMeans (commit_on t plans ends (numbered_of at) (ticket_of ticket)) at d
    unfolding commit_on
    commit_refused ticket =
        let is = first-refuses e (run_refusal t plans ends (run_of at.run)) _ k in
        refused-means (number e) at _
        (unless-refused _ _ (λ z. omega (arith, number-positive e, is)) ∙ ap refused (sym is))

-- ---- a run that is not refused

module _ (t plans ends : List ℕ) (at : Numbered) (z : 0 ≡ run_refusal t plans ends (run_of at.run)) (p : Plans)
    (s : Holds t plans ends p) where
  pub pick-counted : (j : ℕ) (d : Dispatched)
      → DispatchMeans (counts (numbered_of at) (of_plans pick_in p (run_of at.run) j)) at d
      → DispatchMeans (pick_numbered t plans ends (numbered_of at) j) at d
  unfolding pick_numbered pick_on
  pick-counted j d c = rw (← z, ← s.0, ← s.1, ← s.2) c

  -- ---- ask

  pub ask_impossible : (j : ℕ) (i : Refusal) → refused (number i) ≡ of_plans next_in p (run_of at.run) j
      → refused (number i) ≡ ask_on t plans ends (numbered_of at) j
  unfolding ask_on
  ask_impossible j i w = rw (← z, ← s.0, ← s.1, ← s.2, ← w)

  pub ask_given : (j : ℕ) (d : Decision) → gives (decision_of d) ≡ of_plans next_in p (run_of at.run) j
      → gives (record { decision = decision_of d; ticket = record { member = j; change = at.change } })
      ≡ ask_on t plans ends (numbered_of at) j
  unfolding ask_on
  ask_given j d w = rw (← z, ← s.0, ← s.1, ← s.2, ← w)

  -- ---- commit

  module _ (ticket : Ticket) (n : ℕ) (is : n ≡ members p.task.words.now) where
    abbrev Commits : Dispatched → Type 0
    Commits d = DispatchMeans (commit_on t plans ends (numbered_of at) (ticket_of ticket)) at d

    pub commit_nobody : n ≤ ticket.member → (d : Dispatched) → DispatchMeans (refused 8) at d → Commits d
    unfolding commit_on
    commit_nobody h =
        refused-means 8 at _ (rw (← z, ← s.0, le-ltb ticket.member (members p.task.words.now) (omega arith)))

    pub commit_settled : ticket.member < n → (q : Picked)
        → PickMeans (of_plans pick_in p (run_of at.run) ticket.member) at.run q
        → (d : Dispatched)
        → DispatchMeans
        (unless (19 if not (eqb ticket.change at.change)) (counts (numbered_of at) (picked_of q))) at d
        → Commits d
    unfolding commit_on pick_numbered pick_on
    commit_settled h q m d c =
        rw (
          ← z,
          ← s.0,
          ← s.1,
          ← s.2,
          lt-ltb ticket.member (members p.task.words.now) (omega arith),
          means-picked m,
        ) c

-- ---- a ticket, and the pick that it is for

module _ (at : Numbered) (ticket : Ticket) (p : Picked) where
  abbrev Settles : Dispatched → Type 0
  Settles d =
      DispatchMeans (unless (19 if not (eqb ticket.change at.change)) (counts (numbered_of at) (picked_of p))) at d

  pub settle_stale : (ticket.change ≡ at.change → ⊥) → (d : Dispatched) → DispatchMeans (refused 19) at d → Settles d
  settle_stale h d m = rw (ne_eqb ticket.change at.change h) m

  pub settle_fresh : ticket.change ≡ at.change → (d : Dispatched)
      → DispatchMeans (counts (numbered_of at) (picked_of p)) at d → Settles d
  settle_fresh h d m = rw (eq-eqb ticket.change at.change h) m
