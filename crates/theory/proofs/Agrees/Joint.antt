-- Joint replay agrees with the model: the picks lead to a world, with its outcome; or all but the last, which collides.
use mathlib.Core.Path.{◌≡◌, refl, sym, ap, subst, ◌∙◌}
use mathlib.Core.Bool.{Bool, true, false, not, false≢true}
use mathlib.Core.Logic.{◌⊎◌, inl, inr, ⊎_elim, ◌↔◌}
use mathlib.Core.List.{List, [], ◌∷◌, ◌++◌}
use Prim.Native.Nat.{ℕ, suc, ◌+◌}
use native.Mathlib.Omega.{arith}
use lib.Dec.{eqb, ltb, leb}
use lib.ListN.{length, get_or}
use borrow.Author.Tests.{eqb-true, eq-eqb, leb-true, le-leb}
use Rattle.semantics.specs.Base.{Answer, refused, gives, unless, up_to, ◌if◌, first_refusal}
use Rattle.semantics.specs.Task as Task
use Rattle.semantics.specs.Task.{check}
use Rattle.semantics.specs.System.{system, waits}
use Rattle.semantics.specs.Solo.{Solo, solves, solo_from, entry}
use Rattle.semantics.specs.Run.{Run, Fault, by, is_closed, Replied, Outcome, failure, Replay, rest, run_after, tally}
use Rattle.semantics.specs.Run.{lacked}
use Rattle.semantics.specs.Run.{pick, start, outcome, replay_on, replay, beginning, plan_of, plans_of, ends_fit, is_solves}
use Rattle.semantics.specs.Run.{plan_refusal, plans_refusal, joint_replay}
use Rattle.semantics.specs.Model.{World, Acts, Collides, Lacks, Execution, unmoved, chosen, Solution}
use Rattle.semantics.specs.Demands.{facts_of, setting, world_of, world_at, OutcomeOf, Ends, SolvingPlans}
use Rattle.semantics.specs.Demands.{JointReplayAgrees}
use Rattle.theory.proofs.Lists.{apart, and_elim, all_true, true-all, up_to_mem, mem_up_to}
use Rattle.theory.proofs.Refusals.{else_both, if_not-true, no-refusal, refused-gives, up_to_refusal, unless-gives}
use Rattle.theory.proofs.Complete.{closed-outcome}
use Rattle.theory.proofs.Plans.{leads-solves, leads-entries}
use Rattle.theory.proofs.Agrees.Step.{same-facts}
use Rattle.theory.proofs.Agrees.Solo.{entries-own, Replayed, solo_from-replayed, solution_leads}
use Rattle.theory.proofs.Agrees.Worlds.{moves_agent, moves-stays, acts-collides, acts_unique, lacks_unique}
use Rattle.theory.proofs.Agrees.Pick.{Going, Picked, picked}
use Rattle.theory.proofs.Agrees.Outcome.{outcome-says, outcome_unique}

-- ---- picks from any world, one after the other

-- from the world w the picks end with this outcome and the facts of g, m of them being done; the last one lacks n
pub data EndsFrom (t : List ℕ) : World (setting t) → List ℕ → Outcome → ℕ → ℕ → ℕ → Type 0 where
  stop : {w : World (setting t)} {o : Outcome} {g : ℕ} → OutcomeOf t w o → w.state ≡ facts_of g
      → EndsFrom t w [] o g 0 0
  crash : {w : World (setting t)} {i g n : ℕ} → Collides (setting t) w i → Lacks (setting t) w i (facts_of n)
      → w.state ≡ facts_of g
      → EndsFrom t w (i ∷ []) (failure Fault.collision) g 0 n
  on : {w w' : World (setting t)} {i g m n : ℕ} {is : List ℕ} {o : Outcome}
      → Acts (setting t) w i w' → EndsFrom t w' is o g m n → EndsFrom t w (i ∷ is) o g (suc m) n

execution_ends : {t : List ℕ} {w w' : World (setting t)} {picks : List ℕ} {o : Outcome} {g : ℕ}
    → Execution (setting t) w picks w' → OutcomeOf t w' o → w'.state ≡ facts_of g
    → EndsFrom t w picks o g (length picks) 0
execution_ends unmoved s e = stop s e
execution_ends (chosen a x) s e = on a (execution_ends x s e)

execution_crashes : {t : List ℕ} {w w' : World (setting t)} {picks : List ℕ} {i g n : ℕ}
    → Execution (setting t) w picks w' → Collides (setting t) w' i → Lacks (setting t) w' i (facts_of n)
    → w'.state ≡ facts_of g
    → EndsFrom t w (picks ++ (i ∷ [])) (failure Fault.collision) g (length picks) n
execution_crashes unmoved c l e = crash c l e
execution_crashes (chosen a x) c l e = on a (execution_crashes x c l e)

ends-from : (t : List ℕ) (plans : List (List ℕ)) {picks : List ℕ} {o : Outcome} {g k n : ℕ}
    → Ends t plans picks o g k n → EndsFrom t (world_of t plans) picks o g k n
ends-from t plans (Ends.ends x s e) = execution_ends x s e
ends-from t plans (Ends.collided x c l e) = execution_crashes x c l e

-- the two ways in which picks end
abbrev Stopped : (t : List ℕ) → World (setting t) → List ℕ → Outcome → ℕ → ℕ → ℕ → Type 0
Stopped t w picks o g m n =
    (w' : World (setting t)) × Execution (setting t) w picks w' × OutcomeOf t w' o × (w'.state ≡ facts_of g)
    × (m ≡ length picks)
    × (n ≡ 0)

abbrev Crashed : (t : List ℕ) → World (setting t) → List ℕ → Outcome → ℕ → ℕ → ℕ → Type 0
Crashed t w picks o g m n =
    (is : List ℕ)
    × (i : ℕ)
    × (w' : World (setting t))
    × Execution (setting t) w is w'
    × Collides (setting t) w' i
    × Lacks (setting t) w' i (facts_of n)
    × (w'.state ≡ facts_of g)
    × (picks ≡ is ++ (i ∷ []))
    × (o ≡ failure Fault.collision)
    × (m ≡ length is)

from-cases : {t : List ℕ} {w : World (setting t)} {picks : List ℕ} {o : Outcome} {g m n : ℕ}
    → EndsFrom t w picks o g m n → Stopped t w picks o g m n ⊎ Crashed t w picks o g m n
from-cases (stop {w} s e) = inl (w, unmoved, s, e, refl, refl)
from-cases (crash {w} {i} c l e) = inr ([], i, w, unmoved, c, l, e, refl, refl, refl)
from-cases (on {i} a x) =
    ⊎_elim
    (λ (w, y, s, e, q, z). inl (w, chosen a y, s, e, ap suc q, z))
    (λ (is, j, w, y, c, l, e, p, o, q).
    inr (i ∷ is, j, w, chosen a y, c, l, e, ap (λ (l : List ℕ). i ∷ l) p, o, ap suc q))
    (from-cases x)

from-ends : (t : List ℕ) (plans : List (List ℕ)) {picks : List ℕ} {o : Outcome} {g k n : ℕ}
    → EndsFrom t (world_of t plans) picks o g k n → Ends t plans picks o g k n
from-ends t plans x =
    ⊎_elim
    (λ (w, y, s, e, q, z). rw (q, z) (Ends.ends y s e))
    (λ (is, j, w, y, c, l, e, p, o, q). rw (p, o, q) (Ends.collided y c l e))
    (from-cases x)

-- ---- joint replay from a run

-- of a closed run, and after a refusal, nothing more is answered
closed-pick : (t : List ℕ) (plans : List (List ℕ)) (r : Run ℕ) → is_closed r.closed ≡ true → (j : ℕ)
    → (e : ℕ) × (pick (system t) (waits t) plans r j ≡ refused e)
unfolding pick
closed-pick t plans r c j = go (ltb j (Task.members t)) refl
  where
    go : (b : Bool) → ltb j (Task.members t) ≡ b → (e : ℕ) × (pick (system t) (waits t) plans r j ≡ refused e)
    go true q = (13, rw (q, c))
    go false q = (8, rw q)

refused-replay : (t : List ℕ) (plans : List (List ℕ)) (e k n : ℕ) (picks : List ℕ)
    → replay_on (system t) (waits t) plans (refused e) k n picks ≡ refused e
unfolding replay_on
refused-replay t plans e k n [] = refl
refused-replay t plans e k n (j ∷ js) = refl

abbrev answer : Outcome → ℕ → ℕ → ℕ → Answer (Replay ℕ)
answer o g k n = gives (record { outcome = o; shared = g; picked = k; missing = n })

replay_path : {o o' : Outcome} {g g' k k' n n' : ℕ} → o ≡ o' → g ≡ g' → k ≡ k' → n ≡ n'
    → answer o g k n ≡ answer o' g' k' n'
replay_path p q s z = λ i. answer (p i) (q i) (s i) (z i)

module _ (t : List ℕ) (plans : List (List ℕ)) where
  abbrev on-from : Answer (Run ℕ) → ℕ → ℕ → List ℕ → Answer (Replay ℕ)
  on-from = replay_on (system t) (waits t) plans

  -- the answer says of the run's world how the picks end
  abbrev Told : Run ℕ → ℕ → List ℕ → Replay ℕ → Type 0
  Told r k picks a =
      (m : ℕ) × (a.picked ≡ k + m) × EndsFrom t (world_at t plans r) picks a.outcome a.shared m a.missing

  -- what is told where no pick is left
  abbrev last : Run ℕ → ℕ → ℕ → Replay ℕ
  last r k n =
      record { outcome = outcome (system t) (waits t) plans r; shared = r.shared; picked = k; missing = n }

  closed_on : (r : Run ℕ) (f : Fault) → r.closed ≡ by f → (k n : ℕ) (picks : List ℕ) (a : Replay ℕ)
      → on-from (gives r) k n picks ≡ gives a
      → (picks ≡ []) × (a.outcome ≡ failure f) × (a.shared ≡ r.shared) × (a.picked ≡ k) × (a.missing ≡ n)
  unfolding replay_on
  closed_on r f c k n [] a h =
      let q : last r k n ≡ a = cc in (
        refl,
        sym (ap (λ (x : Replay ℕ). x.outcome) q) ∙ closed-outcome (system t) (waits t) plans r f c,
        sym (ap (λ (x : Replay ℕ). x.shared) q),
        sym (ap (λ (x : Replay ℕ). x.picked) q),
        sym (ap (λ (x : Replay ℕ). x.missing) q),
      )
  closed_on r f c k n (j ∷ js) a h =
      let (e, q) = closed-pick t plans r (ap is_closed c) j in
      let given : on-from (refused e) k 0 js ≡ gives a =
      subst (λ (x : Answer (Replied (Run ℕ))). on-from (run_after x) (tally k x) (lacked x) js ≡ gives a) q h in
      absurd (refused-gives (sym (refused-replay t plans e k 0 js) ∙ given))

  -- a pick, and what is told of the picks after it
  told-pick : (r : Run ℕ) (j k : ℕ) (js : List ℕ) (a : Replay ℕ) (x : Answer (Replied (Run ℕ))) → Picked t plans r j x
      → ((r' : Run ℕ) → Going r' → (k' : ℕ) → on-from (gives r') k' 0 js ≡ gives a → Told r' k' js a)
      → on-from (run_after x) (tally k x) (lacked x) js ≡ gives a → Told r k (j ∷ js) a
  told-pick r j k js a (gives p) (Picked.goes g act) ih h =
      let (m, q, f) = ih p.run g (k + 1) h in
      (suc m, omega arith, on act f)
  told-pick r j k js a (gives p) (Picked.collides {m = m} c s k' l) ih h =
      let (e, o, g, n, z) = closed_on p.run Fault.collision c k m js a h in
      (0, omega arith, rw (e, o, z) (crash k' l (ap facts_of (sym (g ∙ s)))))
  told-pick r j k js a (refused e) p ih h = absurd (apart (cc (refused-replay t plans e k 0 js)))

  replay-told : (picks : List ℕ) (r : Run ℕ) → Going r → (k : ℕ) (a : Replay ℕ)
      → on-from (gives r) k 0 picks ≡ gives a
      → Told r k picks a
  unfolding replay_on
  replay-told [] r g k a h =
      let q : last r k 0 ≡ a = cc in
      subst (Told r k []) q (0, omega arith, stop (outcome-says t plans r g) refl)
  replay-told (j ∷ js) r g k a h =
      told-pick r j k js a (pick (system t) (waits t) plans r j) (picked t plans r g j)
      (λ r' g' k' e. replay-told js r' g' k' a e) h

  -- a pick that collides, or that goes, is answered so
  replay-crash : (r : Run ℕ) (i k g n : ℕ) (x : Answer (Replied (Run ℕ))) → Picked t plans r i x
      → Collides (setting t) (world_at t plans r) i → Lacks (setting t) (world_at t plans r) i (facts_of n)
      → g ≡ r.shared
      → on-from (run_after x) (tally k x) (lacked x) [] ≡ answer (failure Fault.collision) g (k + 0) n
  unfolding replay_on
  replay-crash r i k g n (gives p) (Picked.goes g' act) c l e =
      absurd (acts-collides (setting t) (world_at t plans r) i act c)
  replay-crash r i k g n (gives p) (Picked.collides {m = m} c s k' l') col l e =
      replay_path (closed-outcome (system t) (waits t) plans p.run Fault.collision c) (s ∙ sym e) (omega arith)
      (same-facts m n (lacks_unique (setting t) (world_at t plans r) i l' l))
  replay-crash r i k g n (refused x) (Picked.impossible h) c l e =
      absurd (moves-stays (setting t) (world_at t plans r) i (inl c)
      (h (moves_agent (setting t) (world_at t plans r) i (inl c))))

  replay-act : (r : Run ℕ) (i k g m n : ℕ) (is : List ℕ) (o : Outcome) (w : World (setting t))
      (x : Answer (Replied (Run ℕ)))
      → Picked t plans r i x
      → Acts (setting t) (world_at t plans r) i w
      → ((r' : Run ℕ) → Going r' → w ≡ world_at t plans r' → (k' : ℕ)
      → on-from (gives r') k' 0 is ≡ answer o g (k' + m) n)
      → on-from (run_after x) (tally k x) (lacked x) is ≡ answer o g (k + suc m) n
  replay-act r i k g m n is o w (gives p) (Picked.goes g' act) a ih =
      ih p.run g' (acts_unique (setting t) (world_at t plans r) i a act) (k + 1)
      ∙ replay_path refl refl (omega arith) refl
  replay-act r i k g m n is o w (gives p) (Picked.collides c s k' l) a ih =
      absurd (acts-collides (setting t) (world_at t plans r) i a k')
  replay-act r i k g m n is o w (refused x) (Picked.impossible h) a ih =
      absurd (moves-stays (setting t) (world_at t plans r) i (inr (w, a))
      (h (moves_agent (setting t) (world_at t plans r) i (inr (w, a)))))

  told-replay : {w : World (setting t)} {picks : List ℕ} {o : Outcome} {g m n : ℕ} → EndsFrom t w picks o g m n
      → (r : Run ℕ) → Going r → w ≡ world_at t plans r → (k : ℕ)
      → on-from (gives r) k 0 picks ≡ answer o g (k + m) n
  unfolding replay_on
  told-replay (stop {w} {o} {g} s e) r gr q k =
      replay_path (outcome_unique t plans r gr o (subst (λ (v : World (setting t)). OutcomeOf t v o) q s))
      (same-facts r.shared g (ap (λ (v : World (setting t)). v.state) (sym q) ∙ e))
      (omega arith) refl
  told-replay (crash {w} {i} {g} {n} c l e) r gr q k =
      replay-crash r i k g n (pick (system t) (waits t) plans r i) (picked t plans r gr i)
      (subst (λ (v : World (setting t)). Collides (setting t) v i) q c)
      (subst (λ (v : World (setting t)). Lacks (setting t) v i (facts_of n)) q l)
      (same-facts g r.shared (sym e ∙ ap (λ (v : World (setting t)). v.state) q))
  told-replay (on {w} {w'} {i} {g} {m} {n} {is} {o} a x) r gr q k =
      replay-act r i k g m n is o w' (pick (system t) (waits t) plans r i) (picked t plans r gr i)
      (subst (λ (v : World (setting t)). Acts (setting t) v i w') q a)
      (λ r' g' e k'. told-replay x r' g' e k')

-- ---- the operation

pub start-world : (t : List ℕ) (plans : List (List ℕ)) → world_of t plans ≡ world_at t plans (start (system t))
unfolding start rest
start-world t plans = refl

pub start-going : (t : List ℕ) → Going (start (system t))
unfolding start
start-going t = refl

is-solves : (r : Solo) → is_solves r ≡ true → r ≡ solves
is-solves solves h = refl
is-solves (Solo.breaks k) h = absurd (false≢true h)
is-solves Solo.short h = absurd (false≢true h)

-- a plan that is not refused is an individual solution
pub plan_solution : (t : List ℕ) (j : ℕ) (plan : List ℕ) → plan_refusal t j plan ≡ 0 → Solution (setting t) j plan
plan_solution t j plan h =
    let (e, s) = else_both (first_refusal (entry t j) plan) _ h in
    let from = solo_from (system t) j 0 (Task.initial t) plan in
    subst (Replayed t j 0 (Task.initial t) plan) (is-solves from (if_not-true 11 (is_solves from) s))
    (solo_from-replayed t j 0 (Task.initial t) plan (entries-own t j plan e))

-- and an individual solution is not refused
pub solution_plan : (t : List ℕ) (j : ℕ) (plan : List ℕ) → Solution (setting t) j plan → plan_refusal t j plan ≡ 0
solution_plan t j plan s =
    let l = solution_leads t j plan s in
    rw (leads-entries t j l, leads-solves (system t) j 0 l)

module _ (t plans ends : List ℕ) where
  abbrev planned : ℕ → ℕ
  planned j = plan_refusal t j (plan_of plans ends j)

  -- the plans' check, taken apart
  checked : plans_refusal t plans ends ≡ 0
      → (check t ≡ 0) × (ends_fit (Task.members t) plans ends ≡ true)
      × (first_refusal planned (up_to (Task.members t)) ≡ 0)
  unfolding plans_refusal
  checked h =
      let (c, r) = else_both (check t) _ h in
      let (f, p) = else_both (11 if not (ends_fit (Task.members t) plans ends)) _ r in
      (c, if_not-true 10 _ f, p)

  plans-solving : plans_refusal t plans ends ≡ 0 → SolvingPlans t plans ends
  unfolding ends_fit
  plans-solving h =
      let (c, f, p) = checked h in
      let (x, whole) = and_elim _ (eqb (beginning ends (Task.members t)) (length plans)) f in
      let (many, rising) = and_elim (eqb (length ends) (Task.members t)) _ x in
      record {
        accepted = c;
        many = eqb-true _ _ many;
        rising = λ j l. leb-true _ _ (all_true (λ j. leb (beginning ends j) (get_or ends j 0)) rising (mem_up_to l));
        whole = eqb-true _ _ whole;
        solutions = λ j l. plan_solution t j (plan_of plans ends j) (up_to_refusal planned (Task.members t) p j l);
      }

  solving-plans : SolvingPlans t plans ends → plans_refusal t plans ends ≡ 0
  unfolding plans_refusal ends_fit
  solving-plans s =
      rw (
        s.accepted,
        eq-eqb (length ends) (Task.members t) s.many,
        true-all (λ j. leb (beginning ends j) (get_or ends j 0)) (up_to (Task.members t))
            (λ j m. le-leb (beginning ends j) (get_or ends j 0) (s.rising j (up_to_mem (Task.members t) m))),
        eq-eqb (beginning ends (Task.members t)) (length plans) s.whole,
      )
      (no-refusal planned (up_to (Task.members t))
      (λ j m. solution_plan t j (plan_of plans ends j) (s.solutions j (up_to_mem (Task.members t) m))))

  module _ (h : plans_refusal t plans ends ≡ 0) where
    abbrev P : List (List ℕ)
    P = plans_of (Task.members t) plans ends

    from_start : (picks : List ℕ)
        → joint_replay t plans ends picks ≡ replay_on (system t) (waits t) P (gives (start (system t))) 0 0 picks
    unfolding joint_replay replay
    from_start picks =
        ap (λ (r : ℕ). unless r (replay_on (system t) (waits t) P (gives (start (system t))) 0 0 picks)) h

    begins : (a : Replay ℕ) × (joint_replay t plans ends [] ≡ gives a)
    unfolding replay_on
    begins = (last t P (start (system t)) 0 0, from_start [])

    replays : (picks : List ℕ) (o : Outcome) (g k n : ℕ)
        → (joint_replay t plans ends picks ≡ answer o g k n) ↔ Ends t P picks o g k n
    replays picks o g k n = (
      λ e.
          let (m, q, f) =
          replay-told t P picks (start (system t)) (start-going t) 0
          (record { outcome = o; shared = g; picked = k; missing = n }) (sym (from_start picks) ∙ e) in
          let m' : m ≡ k = omega arith in
          from-ends t P
          (rw (start-world t P)
          (subst (λ (x : ℕ). EndsFrom t (world_at t P (start (system t))) picks o g x n) m' f)),
      λ e.
          from_start picks
          ∙ told-replay t P (ends-from t P e) (start (system t)) (start-going t) (start-world t P) 0
          ∙ replay_path refl refl (omega arith) refl,
    )

pub joint_replay_agrees_lem : (t plans ends : List ℕ) → JointReplayAgrees t plans ends
unfolding joint_replay
joint_replay_agrees_lem t plans ends =
    record {
      accepts = (plans-solving t plans ends, solving-plans t plans ends);
      begins = begins t plans ends;
      answers = λ picks a e. (unless-gives (plans_refusal t plans ends) _ e).0;
      replays = replays t plans ends;
    }
