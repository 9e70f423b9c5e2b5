-- The outcome of a run agrees with the model: it says of the run's world what the model says, and no other outcome
-- does.
use mathlib.Core.Path.{◌≡◌, refl, sym, ap, ◌∙◌}
use mathlib.Core.Bool.{Bool, true, false, cond, false≢true}
use mathlib.Core.Logic.{◌↔◌, inl, inr, ⊎_elim}
use mathlib.Core.List.{List, [], ◌∷◌}
use Prim.Native.Nat.{ℕ, zero, suc, ◌+◌, ◌≤◌, ◌<◌, zero-le}
use native.Mathlib.Omega.{arith}
use lib.Dec.{ltb}
use lib.ListN.{length}
use borrow.Author.Tests.{ltb-false}
use Rattle.semantics.specs.Base.{Answer, refused, gives, numbers_from, up_to}
use Rattle.semantics.specs.Task as Task
use Rattle.semantics.specs.System.{System, system, waits}
use Rattle.semantics.specs.Run.{Run, Fault, Closed, Replied, Outcome, success, failure, still_open, closing, missed}
use Rattle.semantics.specs.Run.{deadlock, rest, given, pick, pickable, steps_left, missed_in, outcome}
use Rattle.semantics.specs.Model.{World, Waiting, Ended, GoesOn}
use Rattle.semantics.specs.Demands.{setting, OutcomeOf, world_at, Stays}
use Rattle.theory.proofs.Lists.{lt-or_ge, not-true-false, not-false-true, any-true, true-any, any_false}
use Rattle.theory.proofs.Lists.{false-any, mem_up_to, up_to_mem}
use Rattle.theory.proofs.Masks.{within-sub, sub_within}
use Rattle.theory.proofs.Agrees.Step.{not_within, not-sub}
use Rattle.theory.proofs.Agrees.Worlds.{Moves, moves_agent, moves-stays, waiting-left, ended-goes, deadlock-goes}
use Rattle.theory.proofs.Agrees.Pick.{Going, Picked, picked}

-- ---- the first goal that is missing, of the members k, k + 1, .., c of them

module _ (S : System) (g : S.State) where
  pub data FirstMissed (k c : ℕ) : Outcome → Type 0 where
    held : ((j : ℕ) → k ≤ j → j < k + c → S.goal j g ≡ true) → FirstMissed k c success
    first : {i : ℕ} → k ≤ i → i < k + c → S.goal i g ≡ false → ((j : ℕ) → k ≤ j → j < i → S.goal j g ≡ true)
        → FirstMissed k c (failure (missed i))

  -- the goal of k holds too
  widen : (k c : ℕ) (o : Outcome) → S.goal k g ≡ true → FirstMissed (suc k) c o → FirstMissed k (suc c) o
  widen k c success e (held h) =
      held (λ j l u. ⊎_elim (λ (s : k < j). h j s (omega arith)) (λ (s : j ≤ k). let q : j ≡ k = omega arith in rw q e)
      (lt-or_ge k j))
  widen k c (failure (missed i)) e (first l u n h) =
      first {i = i} (omega arith) (omega arith) n
      (λ j m v. ⊎_elim (λ (s : k < j). h j s v) (λ (s : j ≤ k). let q : j ≡ k = omega arith in rw q e) (lt-or_ge k j))
  widen k c (failure Rattle.semantics.specs.Run.collision) e x4 = elim x4 [ ]
  widen k c (failure deadlock) e x5 = elim x5 [ ]
  widen k c still_open e x3 = elim x3 [ ]

  pub first-missed : (k c : ℕ) → FirstMissed k c (missed_in S g (numbers_from k c))
  unfolding missed_in numbers_from
  first-missed k zero = held (λ j l u. absurd (omega arith))
  first-missed k (suc c) = go (S.goal k g) refl (first-missed (suc k) c)
    where
      go : (b : Bool) → S.goal k g ≡ b → FirstMissed (suc k) c (missed_in S g (numbers_from (suc k) c))
          → FirstMissed k (suc c) (cond b (missed_in S g (numbers_from (suc k) c)) (failure (missed k)))
      go true e h = widen k c (missed_in S g (numbers_from (suc k) c)) e h
      go false e h = first {i = k} (omega arith) (omega arith) e (λ j l u. absurd (omega arith))

  pub first-missed_unique : (k c : ℕ) (o o' : Outcome) → FirstMissed k c o → FirstMissed k c o' → o ≡ o'
  first-missed_unique k c success success (held h) (held h') = refl
  first-missed_unique k c success (failure (missed i)) (held h) (first l u n h') = absurd (false≢true (sym n ∙ h i l u))
  first-missed_unique k c (failure (missed i)) success (first l u n h) (held h') =
      absurd (false≢true (sym n ∙ h' i l u))
  first-missed_unique k c (failure (missed i)) (failure (missed j)) (first l u n h) (first l' u' n' h') =
      ⊎_elim
      (λ (s : i < j). absurd (false≢true (sym n ∙ h' i l s)))
      (λ (s : j ≤ i). ⊎_elim
      (λ (v : j < i). absurd (false≢true (sym n' ∙ h j l' v)))
      (λ (v : i ≤ j). let q : i ≡ j = omega arith in ap (λ (x : ℕ). failure (missed x)) q)
      (lt-or_ge j i))
      (lt-or_ge i j)
  first-missed_unique k c success (failure Rattle.semantics.specs.Run.collision) _ x8 = elim x8 [ ]
  first-missed_unique k c success (failure deadlock) _ x9 = elim x9 [ ]
  first-missed_unique k c success still_open _ x6 = elim x6 [ ]
  first-missed_unique k c (failure Rattle.semantics.specs.Run.collision) _ x6 _ = elim x6 [ ]
  first-missed_unique k c (failure deadlock) _ x7 _ = elim x7 [ ]
  first-missed_unique k c (failure (missed i)) (failure Rattle.semantics.specs.Run.collision) _ x14 = elim x14 [ ]
  first-missed_unique k c (failure (missed i)) (failure deadlock) _ x15 = elim x15 [ ]
  first-missed_unique k c (failure (missed i)) still_open _ x12 = elim x12 [ ]
  first-missed_unique k c still_open _ x4 _ = elim x4 [ ]

-- ---- the tests of a run, against its world

none_left : (p : List ℕ) → ltb 0 (length p) ≡ false → p ≡ []
none_left [] h = refl
none_left (a ∷ p) h = absurd (omega (arith, ltb-false))

picked-given : (t : List ℕ) (plans : List (List ℕ)) (r : Run ℕ) (j : ℕ) (x : Answer (Replied (Run ℕ)))
    → Picked t plans r j x
    → (given x ≡ true) ↔ Moves (setting t) (world_at t plans r) j
picked-given t plans r j (gives p) (Picked.goes g a) = (λ h. inr (world_at t plans p.run, a), λ m. refl)
picked-given t plans r j (gives p) (Picked.collides c s k l) = (λ h. inl k, λ m. refl)
picked-given t plans r j (refused e) (Picked.impossible h) = (
  λ k. absurd (false≢true k),
  λ m. absurd
      (moves-stays (setting t) (world_at t plans r) j m (h (moves_agent (setting t) (world_at t plans r) j m))),
)

picked-stays : (t : List ℕ) (plans : List (List ℕ)) (r : Run ℕ) (j : ℕ) (x : Answer (Replied (Run ℕ)))
    → Picked t plans r j x
    → given x ≡ false → j < Task.members t → Stays (setting t) (world_at t plans r) j
picked-stays t plans r j (gives x) p h = absurd (false≢true (sym h))
picked-stays t plans r j (refused e) (Picked.impossible s) h = s

module _ (t : List ℕ) (plans : List (List ℕ)) (r : Run ℕ) (going : Going r) where
  abbrev world : World (setting t)
  world = world_at t plans r

  abbrev can_pick_lem : Bool
  can_pick_lem = pickable (system t) (waits t) plans r

  abbrev has-steps : Bool
  has-steps = steps_left (system t) (waits t) plans r

  abbrev pick-of : ℕ → Answer (Replied (Run ℕ))
  pick-of j = pick (system t) (waits t) plans r j

  pick-says : (j : ℕ) → Picked t plans r j (pick-of j)
  pick-says = picked t plans r going

  pickable-goes : can_pick_lem ≡ true → GoesOn (setting t) world
  unfolding pickable
  pickable-goes h =
      let (j, m, e) = any-true (λ j. given (pick-of j)) (up_to (Task.members t)) h in
      (j, (picked-given t plans r j (pick-of j) (pick-says j)).0 e)

  goes-pickable : GoesOn (setting t) world → can_pick_lem ≡ true
  unfolding pickable
  goes-pickable (j, m) =
      true-any (λ j. given (pick-of j)) (mem_up_to (moves_agent (setting t) world j m))
      ((picked-given t plans r j (pick-of j) (pick-says j)).1 m)

  all_stay : can_pick_lem ≡ false → (j : ℕ) → j < Task.members t → Stays (setting t) world j
  unfolding pickable
  all_stay h j l =
      picked-stays t plans r j (pick-of j) (pick-says j)
      (any_false (λ j. given (pick-of j)) h (mem_up_to l)) l

  steps-waiting : can_pick_lem ≡ false → has-steps ≡ true → (i : ℕ) × (i < Task.members t) × Waiting (setting t) world i
  unfolding steps_left
  steps-waiting h s =
      let (i, m, e) = any-true (λ j. ltb 0 (length (rest plans r j))) (up_to (Task.members t)) s in
      let l = up_to_mem (Task.members t) m in (
        i,
        l,
        ⊎_elim (λ w. w)
            (λ (q : rest plans r i ≡ []). absurd (false≢true (sym (ap (λ (p : List ℕ). ltb 0 (length p)) q) ∙ e)))
            (all_stay h i l),
      )

  no-steps-ended : has-steps ≡ false → Ended (setting t) world
  unfolding steps_left
  no-steps-ended h i l =
      none_left (rest plans r i) (any_false (λ j. ltb 0 (length (rest plans r j))) h (mem_up_to l))

  ended-no-steps : Ended (setting t) world → has-steps ≡ false
  unfolding steps_left
  ended-no-steps h =
      false-any (λ j. ltb 0 (length (rest plans r j))) (up_to (Task.members t))
      (λ j m. ap (λ (p : List ℕ). ltb 0 (length p)) (h j (up_to_mem (Task.members t) m)))

  ended-no-pick : Ended (setting t) world → can_pick_lem ≡ false
  ended-no-pick e = not-true-false can_pick_lem (λ h. ended-goes (setting t) world e (pickable-goes h))

  -- ---- the outcome

  abbrev goals-outcome : Outcome
  goals-outcome = missed_in (system t) r.shared (up_to (Task.members t))

  outcome-by : (b c : Bool) → can_pick_lem ≡ b → has-steps ≡ c
      → outcome (system t) (waits t) plans r ≡ cond b still_open (cond c (failure deadlock) goals-outcome)
  unfolding outcome
  outcome-by b c p s =
      ap (λ (x : Closed). closing x (cond can_pick_lem still_open (cond has-steps (failure deadlock) goals-outcome))) going
      ∙ rw (p, s)

  goals_of : Ended (setting t) world → (o : Outcome) → FirstMissed (system t) r.shared 0 (Task.members t) o
      → OutcomeOf t world o
  goals_of e success (FirstMissed.held h) =
      (e, λ i l. within-sub (Task.goal t i) r.shared (h i zero-le (omega arith)))
  goals_of e (failure (missed i)) (FirstMissed.first l u n h) = (
    e,
    omega arith,
    not_within (Task.goal t i) r.shared n,
    λ j v. within-sub (Task.goal t j) r.shared (h j zero-le v),
  )
  goals_of e (failure Rattle.semantics.specs.Run.collision) x3 = elim x3 [ ]
  goals_of e (failure deadlock) x4 = elim x4 [ ]
  goals_of e still_open x'' = elim x'' [ ]

  pub outcome-says : OutcomeOf t world (outcome (system t) (waits t) plans r)
  outcome-says = go can_pick_lem has-steps refl refl
    where
      go : (b c : Bool) → can_pick_lem ≡ b → has-steps ≡ c → OutcomeOf t world (outcome (system t) (waits t) plans r)
      go true c p s = rw (outcome-by true c p s) (pickable-goes p)
      go false true p s = let (i, l, w) = steps-waiting p s in rw (outcome-by false true p s) (all_stay p, i, l, w)
      go false false p s =
          rw (outcome-by false false p s)
          (goals_of (no-steps-ended s) goals-outcome (first-missed (system t) r.shared 0 (Task.members t)))

  goals-are : (o : Outcome) → Ended (setting t) world → FirstMissed (system t) r.shared 0 (Task.members t) o
      → outcome (system t) (waits t) plans r ≡ o
  goals-are o e f =
      outcome-by false false (ended-no-pick e) (ended-no-steps e)
      ∙ first-missed_unique (system t) r.shared 0 (Task.members t) goals-outcome o
      (first-missed (system t) r.shared 0 (Task.members t)) f

  pub outcome_unique : (o : Outcome) → OutcomeOf t world o → outcome (system t) (waits t) plans r ≡ o
  outcome_unique success (e, g) =
      goals-are success e (FirstMissed.held (λ j l u. sub_within (Task.goal t j) r.shared (g j (omega arith))))
  outcome_unique still_open g = outcome-by true has-steps (goes-pickable g) refl
  outcome_unique (failure Fault.deadlock) d =
      let (stay, i, l, w) = d in
      outcome-by false true
      (not-true-false can_pick_lem (λ h. deadlock-goes (setting t) world d (pickable-goes h)))
      (not-false-true has-steps (λ h. waiting-left (setting t) world i w (no-steps-ended h i l)))
  outcome_unique (failure (Fault.missed i)) (e, l, n, h) =
      goals-are (failure (missed i)) e
      (FirstMissed.first {i = i} zero-le (omega arith) (not-sub (Task.goal t i) r.shared n)
      (λ j m v. sub_within (Task.goal t j) r.shared (h j v)))
  outcome_unique (failure Fault.collision) x = absurd x
