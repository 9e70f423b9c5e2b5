-- Solo plans agree with the model: what leads to the goal, and what solo replay answers.
use mathlib.Core.Path.{◌≡◌, refl, sym, ap, subst, ◌∙◌}
use mathlib.Core.Bool.{Bool, true, false, not, cond}
use mathlib.Core.Logic.Iff
use mathlib.Core.Logic.{◌↔◌}
use mathlib.Core.List.{List, [], ◌∷◌, Memᴰ}
use Prim.Native.Nat.{ℕ, zero, suc, ◌+◌}
use native.Mathlib.Omega.{arith}
use lib.ListN.{take, drop}
use lib.Seq.{drop-nil}
use lib.Dec.{ltb}
use borrow.Author.Tests.{ltb-true, eqb-true}
use Rattle.semantics.specs.Base.{◌if◌, gives, unless, first_refusal}
use Rattle.semantics.specs.Mask.{within, without, after}
use Rattle.semantics.specs.Task as Task
use Rattle.semantics.specs.System.{goes, lacks, tried, system, Own, Leads, done, next, Solves}
use Rattle.semantics.specs.Solo.{Solo, solves, breaks, short, solo_from, entry, solo_refusal, solo_replay}
use Rattle.semantics.specs.Model.{FactSet, ◌⊆◌, Setting, apply, Executes, none, then, Solution}
use Rattle.semantics.specs.Demands.{facts_of, setting, SoloReplayAgrees}
use Rattle.theory.proofs.Attempts.{goes-able, goes-result, result-after, within-goes, able-sub}
use Rattle.theory.proofs.Lists.{apart}
use Rattle.theory.proofs.Refusals.{else_both, if_not-true, mem-refusal}
use Rattle.theory.proofs.Masks.{within-sub, sub_within}
use Rattle.theory.proofs.Agrees.Step.{not_within, not-sub, facts-after}

-- ---- executions, taken apart

module _ (Π : Setting) (i : ℕ) where
  pub executes_nil : {s s' : FactSet} → Executes Π i s [] s' → s ≡ s'
  executes_nil none = refl

  pub executes_cons : {s s' : FactSet} {a : ℕ} {p : List ℕ} → Executes Π i s (a ∷ p) s'
      → Π.ActionOf i a × (Π.pre a ⊆ s) × Executes Π i (apply Π a s) p s'
  executes_cons (then own able rest) = (own, able, rest)

-- ---- plans that lead to the goal

-- from the facts of s the list executes to a state with the goal
abbrev pub Completes : List ℕ → ℕ → ℕ → List ℕ → Type 0
Completes t i s p = (s' : FactSet) × Executes (setting t) i (facts_of s) p s' × ((setting t).goal i ⊆ s')

-- an action in front
pub executes_then : (t : List ℕ) (i s a : ℕ) (p : List ℕ) {s' : FactSet}
    → Own (system t) i a → (setting t).pre a ⊆ facts_of s
    → Executes (setting t) i (facts_of (after s (Task.add t a) (Task.del t a))) p s'
    → Executes (setting t) i (facts_of s) (a ∷ p) s'
executes_then t i s a p {s'} own able rest =
    then own able (subst (λ (A : FactSet). Executes (setting t) i A p s') (facts-after t a s) rest)

-- the rest, after an action in front
pub executes_rest : (t : List ℕ) (i s a : ℕ) (p : List ℕ) {s' : FactSet}
    → Executes (setting t) i (facts_of s) (a ∷ p) s'
    → Executes (setting t) i (facts_of (after s (Task.add t a) (Task.del t a))) p s'
executes_rest t i s a p {s'} e =
    subst (λ (A : FactSet). Executes (setting t) i A p s') (sym (facts-after t a s)) (executes_cons (setting t) i e).2

pub leads-completes : (t : List ℕ) (i s : ℕ) (p : List ℕ) → Leads (system t) i s p → Completes t i s p
leads-completes t i s [] (done g) = (facts_of s, none, within-sub (Task.goal t i) s g)
leads-completes t i s (a ∷ p) (next {s' = n} own act l) =
    let able = goes-able (system t) a s act in
    let led = sym (goes-result (system t) a s act) ∙ result-after t a s able in
    let (s', e, g) = leads-completes t i n p l in
    let rest = subst (λ (x : ℕ). Executes (setting t) i (facts_of x) p s') led e in
    (s', executes_then t i s a p own (able-sub t a s able) rest, g)

pub completes-leads : (t : List ℕ) (i s : ℕ) (p : List ℕ) → Completes t i s p → Leads (system t) i s p
completes-leads t i s [] (s', e, g) =
    done (sub_within (Task.goal t i) s
    (subst (λ (A : FactSet). (setting t).goal i ⊆ A) (sym (executes_nil (setting t) i e)) g))
completes-leads t i s (a ∷ p) (s', e, g) =
    let c = executes_cons (setting t) i e in
    next c.0 (within-goes t a s (sub_within (Task.pre t a) s c.1))
    (completes-leads t i (after s (Task.add t a) (Task.del t a)) p (s', executes_rest t i s a p e, g))

pub leads_iff : (t : List ℕ) (i s : ℕ) (p : List ℕ) → Leads (system t) i s p ↔ Completes t i s p
leads_iff t i s p = (leads-completes t i s p, completes-leads t i s p)

-- a plan that solves is an individual solution
pub leads_solution : (t : List ℕ) (i : ℕ) (p : List ℕ) → Solves (system t) i p → Solution (setting t) i p
leads_solution t i p = leads-completes t i (Task.initial t) p

pub solution_leads : (t : List ℕ) (i : ℕ) (p : List ℕ) → Solution (setting t) i p → Solves (system t) i p
solution_leads t i p = completes-leads t i (Task.initial t) p

-- ---- solo replay

-- each entry of the list is an action of member i
abbrev pub OwnAll : List ℕ → ℕ → List ℕ → Type 0
OwnAll t i p = (a : ℕ) → Memᴰ a p → Own (system t) i a

pub entries-own : (t : List ℕ) (i : ℕ) (p : List ℕ) → first_refusal (entry t i) p ≡ 0 → OwnAll t i p
entries-own t i p h a m =
    let (l, o) = else_both _ _ (mem-refusal (entry t i) p h m) in
    (ltb-true _ _ (if_not-true 6 _ l), eqb-true _ _ (if_not-true 9 _ o))

-- the list breaks at its entry j
abbrev pub BreaksAt : List ℕ → ℕ → ℕ → List ℕ → ℕ → Type 0
BreaksAt t i s p j =
    (A : FactSet)
    × Executes (setting t) i (facts_of s) (take j p) A
    × (a : ℕ)
    × (π : List ℕ)
    × (drop j p ≡ a ∷ π)
    × ¬ ((setting t).pre a ⊆ A)

-- what solo replay's answer says of the steps from s, k steps being done
abbrev pub Replayed : List ℕ → ℕ → ℕ → ℕ → List ℕ → Solo → Type 0
Replayed t i k s p solves = Completes t i s p
Replayed t i k s p (breaks n) = (j : ℕ) × (n ≡ k + j) × BreaksAt t i s p j
Replayed t i k s p short = (A : FactSet) × Executes (setting t) i (facts_of s) p A × ¬ ((setting t).goal i ⊆ A)

replayed-cons : (t : List ℕ) (i k s a : ℕ) (p : List ℕ) (r : Solo) → Own (system t) i a → (setting t).pre a ⊆ facts_of s
    → Replayed t i (suc k) (after s (Task.add t a) (Task.del t a)) p r → Replayed t i k s (a ∷ p) r
replayed-cons t i k s a p solves own able (A, e, g) = (A, executes_then t i s a p own able e, g)
replayed-cons t i k s a p (breaks n) own able (j, q, (A, e, b, π, d, misses)) =
    (suc j, omega arith, (A, executes_then t i s a (take j p) own able e, b, π, d, misses))
replayed-cons t i k s a p short own able (A, e, g) = (A, executes_then t i s a p own able e, g)

-- what the answer says is so
pub solo_from-replayed : (t : List ℕ) (i k s : ℕ) (p : List ℕ) → OwnAll t i p
    → Replayed t i k s p (solo_from (system t) i k s p)
unfolding solo_from
solo_from-replayed t i k s [] own = go (within (Task.goal t i) s) refl
  where
    go : (b : Bool) → within (Task.goal t i) s ≡ b → Replayed t i k s [] (cond b solves short)
    go true e = (facts_of s, none, within-sub (Task.goal t i) s e)
    go false e = (facts_of s, none, not_within (Task.goal t i) s e)
solo_from-replayed t i k s (a ∷ p) own =
    let s' = after s (Task.add t a) (Task.del t a) in
    go (within (Task.pre t a) s) refl (solo_from-replayed t i (suc k) s' p (λ b m. own b (Memᴰ.tail m)))
  where
    go : (b : Bool) → within (Task.pre t a) s ≡ b
        → Replayed t i (suc k) (after s (Task.add t a) (Task.del t a)) p
        (solo_from (system t) i (suc k) (after s (Task.add t a) (Task.del t a)) p)
        → Replayed t i k s (a ∷ p)
        (tried (cond b (goes (after s (Task.add t a) (Task.del t a))) (lacks (without (Task.pre t a) s)))
        (λ next. solo_from (system t) i (suc k) next p) (breaks k))
    go true e r =
        replayed-cons t i k s a p (solo_from (system t) i (suc k) (after s (Task.add t a) (Task.del t a)) p)
        (own a (Memᴰ.head refl)) (within-sub (Task.pre t a) s e) r
    go false e r = (0, omega arith, (facts_of s, none, a, p, refl, not_within (Task.pre t a) s e))

-- the goal, or a precondition, in a state that is reached by no step
at_nil : (t : List ℕ) (i s : ℕ) (A : FactSet) (B : FactSet) → Executes (setting t) i (facts_of s) [] A → B ⊆ A
    → B ⊆ facts_of s
at_nil t i s A B e h = subst (λ (C : FactSet). B ⊆ C) (sym (executes_nil (setting t) i e)) h

not-at_nil : (t : List ℕ) (i s : ℕ) (A : FactSet) (B : FactSet) → Executes (setting t) i (facts_of s) [] A → ¬ (B ⊆ A)
    → ¬ (B ⊆ facts_of s)
not-at_nil t i s A B e n h = n (subst (λ (C : FactSet). B ⊆ C) (executes_nil (setting t) i e) h)

-- and only that answer says so
pub replayed-solo_from : (t : List ℕ) (i k s : ℕ) (p : List ℕ) (r : Solo) → Replayed t i k s p r
    → solo_from (system t) i k s p ≡ r
unfolding solo_from
replayed-solo_from t i k s [] solves (A, e, g) =
    rw (sub_within (Task.goal t i) s (at_nil t i s A ((setting t).goal i) e g))
replayed-solo_from t i k s [] (breaks n) (j, q, (A, e, b, π, d, misses)) = absurd (apart (cc (drop-nil {A = ℕ} j)))
replayed-solo_from t i k s [] short (A, e, g) =
    rw (not-sub (Task.goal t i) s (not-at_nil t i s A ((setting t).goal i) e g))
replayed-solo_from t i k s (a ∷ p) solves (A, e, g) =
    rw (sub_within (Task.pre t a) s (executes_cons (setting t) i e).1)
    (replayed-solo_from t i (suc k) (after s (Task.add t a) (Task.del t a)) p solves (A, executes_rest t i s a p e, g))
replayed-solo_from t i k s (a ∷ p) short (A, e, g) =
    rw (sub_within (Task.pre t a) s (executes_cons (setting t) i e).1)
    (replayed-solo_from t i (suc k) (after s (Task.add t a) (Task.del t a)) p short (A, executes_rest t i s a p e, g))
replayed-solo_from t i k s (a ∷ p) (breaks n) (zero, q, (A, e, b, π, d, misses)) =
    let n' : k ≡ n = omega arith in
    let b' : a ≡ b = cc in
    let l = not-at_nil t i s A ((setting t).pre b) e misses in
    rw (not-sub (Task.pre t a) s (rw b' l)) (ap breaks n')
replayed-solo_from t i k s (a ∷ p) (breaks n) (suc j, q, (A, e, b, π, d, misses)) =
    rw (sub_within (Task.pre t a) s (executes_cons (setting t) i e).1)
    (replayed-solo_from t i (suc k) (after s (Task.add t a) (Task.del t a)) p (breaks n)
    (j, omega arith, (A, executes_rest t i s a (take j p) e, b, π, d, misses)))

pub solo-replay_agrees : (t : List ℕ) (i : ℕ) (plan : List ℕ) → solo_refusal t i plan ≡ 0 → SoloReplayAgrees t i plan
unfolding solo_replay
solo-replay_agrees t i plan h =
    record {
      solves = says solves;
      breaks = λ k. Iff.trans (says (breaks k)) (at k);
      short = says short;
    }
  where
    from : Solo
    from = solo_from (system t) i 0 (Task.initial t) plan

    own : OwnAll t i plan
    own =
        let (c, r) = else_both (Task.check t) _ h in
        let (m, e) = else_both (8 if not (ltb i (Task.members t))) _ r in
        entries-own t i plan e

    answer : solo_replay t i plan ≡ gives from
    answer = ap (λ (r : ℕ). unless r (gives from)) h

    says : (r : Solo) → (solo_replay t i plan ≡ gives r) ↔ Replayed t i 0 (Task.initial t) plan r
    says r = (
      λ e. let q : from ≡ r =
          cc in subst (Replayed t i 0 (Task.initial t) plan) q (solo_from-replayed t i 0 (Task.initial t) plan own),
      λ e. answer ∙ ap gives (replayed-solo_from t i 0 (Task.initial t) plan r e),
    )

    at : (k : ℕ) → ((j : ℕ) × (k ≡ 0 + j) × BreaksAt t i (Task.initial t) plan j) ↔ BreaksAt t i (Task.initial t) plan k
    at k = (
      λ r. let q : r.0 ≡ k =
          omega arith in subst (BreaksAt t i (Task.initial t) plan) q r.2,
      λ b. (k, omega arith, b),
    )
