-- A task whose actions another task has under other numbers: what the model and the verdict's search find of the one,
-- they find of the other.
use mathlib.Core.Path.{◌≡◌, sym, ap, ap₂, subst, ◌∙◌}
use mathlib.Core.List.{List, map}
use Prim.Native.Nat.{ℕ, ◌+◌, ◌<◌}
use native.Mathlib.Omega.{arith}
use Rattle.semantics.specs.Words.{of_words}
use Rattle.semantics.specs.Task.{row_width, word, mask_in, members, actions, initial, goal, action_at, owner, pre, add}
use Rattle.semantics.specs.Task.{del}
use Rattle.semantics.specs.System.{result_of, system}
use Rattle.semantics.specs.Model.{FactSet, ◌⊆◌, Executes}
use Rattle.semantics.specs.Verdict.{local_copy, shared_copy, moved}
use Rattle.semantics.specs.Demands.{facts_of, setting, Reachable, Completable, Solvable, Exceed, CopiesExceed}
use Rattle.semantics.specs.Demands.{Configured, at-start, by_move}
use Rattle.pddl_theory.proofs.RegroupedModel.{Renames, executes_renamed, solution_renamed}

-- word k of action a's row
abbrev pub action_word : List ℕ → ℕ → ℕ → ℕ
action_word t a k = word t (action_at t a) k

-- action a of the one is action ρ a of the other
pub record Renumbers (t u : List ℕ) (ρ : ℕ → ℕ) : Type 0 where
  pub as_many : members t ≡ members u
  pub begins : initial t ≡ initial u
  pub goals : (i : ℕ) → i < members t → goal t i ≡ goal u i
  pub below : (a : ℕ) → a < actions t → ρ a < actions u
  pub words : (a c : ℕ) → c < row_width → action_word t a c ≡ action_word u (ρ a) c

pub exceed_sub : {A : Type 0} {d : A} {P Q : A → Type 0} {k : ℕ} → ((x : A) → P x → Q x) → Exceed d P k → Exceed d Q k
exceed_sub h x =
    record { some = x.some; distinct = x.distinct; each = λ y m. h y (x.each y m); more = x.more }

module _ (t u : List ℕ) (ρ : ℕ → ℕ) (r : Renumbers t u ρ) where
  same-owner : (a : ℕ) → owner t a ≡ owner u (ρ a)
  same-owner a = r.words a 0 (omega arith)

  same-mask : (a k : ℕ) → k + 1 < row_width → mask_in t (action_at t a) k ≡ mask_in u (action_at u (ρ a)) k
  same-mask a k h = ap₂ of_words (r.words a k (omega arith)) (r.words a (k + 1) h)

  same-pre : (a : ℕ) → pre t a ≡ pre u (ρ a)
  same-pre a = same-mask a 1 (omega arith)

  same_add : (a : ℕ) → add t a ≡ add u (ρ a)
  same_add a = same-mask a 5 (omega arith)

  same-del : (a : ℕ) → del t a ≡ del u (ρ a)
  same-del a = same-mask a 7 (omega arith)

  pub renames : Renames (setting t) (setting u) ρ
  renames =
      record {
        agents = r.as_many;
        init = ap facts_of r.begins;
        goal = λ i l. ap facts_of (r.goals i l);
        owned = λ i a o. (r.below a o.0, sym (same-owner a) ∙ o.1);
        pre = λ a. ap facts_of (same-pre a);
        waitfor = λ a. ap facts_of (same-mask a 3 (omega arith));
        add = λ a. ap facts_of (same_add a);
        del = λ a. ap facts_of (same-del a);
      }

  -- ---- an agent alone

  pub solvable_renumbered : (i : ℕ) → i < members t → Solvable t i → Solvable u i
  solvable_renumbered i l (π, s) = (map ρ π, solution_renamed (setting t) (setting u) ρ renames i π l s)

  pub reachable_renumbered : (i s : ℕ) → Reachable t i s → Reachable u i s
  reachable_renumbered i s (π, x) = (
    map ρ π,
    subst (λ (q : FactSet). Executes (setting u) i q (map ρ π) (facts_of s)) renames.init
        (executes_renamed (setting t) (setting u) ρ renames x),
  )

  completable_renumbered : (i s : ℕ) → i < members t → Completable t i s → Completable u i s
  completable_renumbered i s l (π, s', x, g) = (
    map ρ π,
    s',
    executes_renamed (setting t) (setting u) ρ renames x,
    subst (λ (q : FactSet). q ⊆ s') (renames.goal i l) g,
  )

  pub copies_renumbered : (K : ℕ) → CopiesExceed t K → CopiesExceed u K
  copies_renumbered K (i, l, x) =
      (i, subst (λ (n : ℕ). i < n) r.as_many l, exceed_sub (reachable_renumbered i) x)

  -- ---- configurations

  result_renumbered : (a s : ℕ) → result_of (system t) a s ≡ result_of (system u) (ρ a) s
  result_renumbered a s = rw (same-pre a, same_add a, same-del a)

  moved_renumbered : (c : List ℕ) (a : ℕ) → moved (system t) c a ≡ moved (system u) c (ρ a)
  unfolding moved
  moved_renumbered c a = rw (same-owner a, same-pre a, same_add a, same-del a, r.begins, r.as_many)

  module _ (owned : (a : ℕ) → a < actions t → owner t a < members t) where
    pub configured_renumbered : {c : List ℕ} → Configured t c → Configured u c
    configured_renumbered at-start = rw (r.begins, r.as_many) at-start
    configured_renumbered (by_move {c = c} {i = i} {a = a} x own local shared on) =
        let p = renames.pre a in
        let l : i < members t = subst (λ (j : ℕ). j < members t) own.1 (owned a own.0) in
        let same : local_copy (system t) c i ≡ local_copy (system u) c i = rw r.begins in
        let both : shared_copy (system t) c ≡ shared_copy (system u) c = rw (r.begins, r.as_many) in
        subst (Configured u) (sym (moved_renumbered c a))
        (by_move (configured_renumbered x) (renames.owned i a own)
        (subst (λ (s : ℕ). (setting u).pre (ρ a) ⊆ facts_of s) same
        (subst (λ (q : FactSet). q ⊆ facts_of (local_copy (system t) c i)) p local))
        (subst (λ (s : ℕ). (setting u).pre (ρ a) ⊆ facts_of s) both
        (subst (λ (q : FactSet). q ⊆ facts_of (shared_copy (system t) c)) p shared))
        (subst (Completable u i)
        (result_renumbered a (local_copy (system t) c i) ∙ ap (result_of (system u) (ρ a)) same)
        (completable_renumbered i (result_of (system t) a (local_copy (system t) c i)) l on)))
