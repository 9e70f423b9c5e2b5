-- The ways out of the operations.
use mathlib.Core.Path.{◌≡◌, sym}
use mathlib.Core.Bool.{Bool, true, false, not}
use mathlib.Core.List.{List}
use Prim.Native.Nat.{ℕ}
use native.Mathlib.Omega.{arith}
use Rattle.semantics.specs.Base as Base
use Rattle.semantics.specs.Base.{refused, unless}
use Rattle.semantics.specs.Mask.{below}
use Rattle.semantics.specs.Task.{facts}
use Rattle.semantics.specs.Run as Paper
use Rattle.semantics.specs.Run.{plans_refusal, joint_replay, past_end, run_refusal}
use Rattle.theory.proofs.Refusals.{unless-refused}
use Rattle.refusal.specs.Number.{number}
use Rattle.refusal.specs.declared.Refusal.{Refusal}
use Rattle.refusal.proofs.Laws.{number-positive, first-refuses}
use Rattle.mask.specs.Number.{shared_number}
use Rattle.run_plans.specs.Value.{Holds, of_plans}
use Rattle.run_plans.specs.declared.Plans.{Plans}
use Rattle.run_outcome.specs.Inner.Meaning.{replay_in}
use Rattle.run_pick.specs.Value.{run_of}
use Rattle.run_pick.specs.declared.Run.{Run}

pub unless-some : {A : Type 0} (e : Refusal) (x : Base.Answer A) → unless (number e) x ≡ refused (number e)
unless-some e x = unless-refused (number e) x (λ z. omega (arith, number-positive e))

-- ---- joint replay

module _ (t plans ends picks : List ℕ) where
  pub replay-refused : (e : Refusal) → number e ≡ plans_refusal t plans ends
      → refused (number e) ≡ joint_replay t plans ends picks
  unfolding joint_replay
  replay-refused e k = rw (← k) (sym (unless-some e (replay_in t plans ends picks)))

  pub replay-gives : 0 ≡ plans_refusal t plans ends → (p : Plans) → Holds t plans ends p
      → (a : Base.Answer (Paper.Replay ℕ)) → a ≡ of_plans replay_in p picks → a ≡ joint_replay t plans ends picks
  unfolding joint_replay
  replay-gives k p h a q = rw (← k, ← h.0, ← h.1, ← h.2) q

-- ---- the run's check

module _ (t plans ends : List ℕ) (run : Run) where
  pub refuses-plans : (e : Refusal) → number e ≡ plans_refusal t plans ends
      → number e ≡ run_refusal t plans ends (run_of run)
  refuses-plans e k = first-refuses e (plans_refusal t plans ends) _ k

  module _ (k : 0 ≡ plans_refusal t plans ends) (p : Plans) (h : Holds t plans ends p) (F : ℕ)
      (k₁ : F ≡ facts p.task.words.now) (b : Bool) (k₂ : b ≡ below F (shared_number run.shared)) where
    pub refuses-shared : not b ≡ true → 4 ≡ run_refusal t plans ends (run_of run)
    refuses-shared h₁ = rw (← k, ← h.0, ← k₁, ← k₂, h₁)

    module _ (h₁ : not b ≡ false) (c : Bool) (q : c ≡ of_plans past_end p (run_of run)) where
      pub refuses-places : c ≡ true → 11 ≡ run_refusal t plans ends (run_of run)
      refuses-places h₂ = rw (← k, ← h.0, ← h.1, ← h.2, ← k₁, ← k₂, h₁, ← q, h₂)

      pub refuses-none : c ≡ false → 0 ≡ run_refusal t plans ends (run_of run)
      refuses-none h₂ = rw (← k, ← h.0, ← h.1, ← h.2, ← k₁, ← k₂, h₁, ← q, h₂)
