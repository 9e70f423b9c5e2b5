-- What the routine, the next step and a pick answer, case by case, and what a pick makes of the run. Assumes nothing.
use mathlib.Core.Path.{◌≡◌, refl, sym, ap, subst, ◌∙◌}
use mathlib.Core.Bool.{Bool, true, false, cond, not}
use mathlib.Core.List.{List, [], ◌∷◌}
use Prim.Native.Nat.{ℕ, zero, suc, ◌≤◌, ◌<◌}
use lib.ListN.{get_or, drop}
use lib.Seq.{drop-drop}
use lib.Dec.{ltb}
use borrow.Author.Tests.{ltb-true, ltb-false, lt-ltb, le-ltb, eq-eqb, ne_eqb}
use Rattle.semantics.specs.Base.{◌if◌, ◌else◌, Answer, refused, gives, unless}
use Rattle.semantics.specs.System.{System, Waits, able, result_of, missing}
use Rattle.semantics.specs.Step.{Decision, attempted, routine}
use Rattle.semantics.specs.Run.{Run, Closed, not_yet, by, is_closed, Replied, rest, stepped, advance, pick_step, pick}
use Rattle.semantics.specs.Dispatch as Dispatch
use Rattle.semantics.specs.Dispatch.{next_step}
use Rattle.theory.proofs.Attempts.{able-goes, unable_lacks}
use Rattle.theory.proofs.Lists.{true-not-false}

-- a run that is closed is not open
pub closed_open : {c : Closed} → is_closed c ≡ true → c ≡ not_yet → ⊥
closed_open e f = true-not-false e (ap is_closed f)

-- the routine's answers
pub data Decided (S : System) (W : Waits S) (a : ℕ) (g : S.State) : Decision S.State → Type 0 where
  waits : W a g ≡ true → Decided S W a g Decision.wait
  goes : W a g ≡ false → able S a g ≡ true → Decided S W a g (Decision.go (result_of S a g))
  collides : W a g ≡ false → able S a g ≡ false → Decided S W a g (Decision.collision (missing S a g))

pub decided : (S : System) (W : Waits S) (a : ℕ) (g : S.State) → Decided S W a g (routine S W a g)
unfolding routine
decided S W a g = at (W a g) refl (able S a g) refl
  where
    at : (w : Bool) → W a g ≡ w → (b : Bool) → able S a g ≡ b
        → Decided S W a g (cond w Decision.wait (attempted (S.act a g)))
    at true e b f = Decided.waits e
    at false e true f = rw (able-goes S a g f) (Decided.goes e f)
    at false e false f = rw (unable_lacks S a g f) (Decided.collides e f)

-- what the answer of the next step makes of the run
abbrev pub advanced : {State : Type 0} → Run State → ℕ → Answer (Decision State) → Answer (Replied (Run State))
advanced r j (refused k) = refused k
advanced r j (gives d) = advance r j d

module _ (S : System) (W : Waits S) (plans : List (List ℕ)) where
  -- the next step's answers
  pub data Next (r : Run S.State) (j : ℕ) : Answer (Decision S.State) → Type 0 where
    nobody : S.members ≤ j → Next r j (refused 8)
    closed : j < S.members → is_closed r.closed ≡ true → Next r j (refused 13)
    over : j < S.members → r.closed ≡ not_yet → rest plans r j ≡ [] → Next r j (refused 13)
    decides : {a : ℕ} {p : List ℕ} → j < S.members → r.closed ≡ not_yet → rest plans r j ≡ a ∷ p
        → Next r j (gives (routine S W a r.shared))

  pub next : (r : Run S.State) (j : ℕ) → Next r j (next_step S W plans r j)
  unfolding next_step
  next r j = who (ltb j S.members) refl
    where
      step : (p : List ℕ) → j < S.members → r.closed ≡ not_yet → rest plans r j ≡ p
          → Next r j (Dispatch.decided S W plans r.shared p)
      step [] h c e = Next.over h c e
      step (a ∷ p) h c e = decides h c e

      still : (b : Closed) → j < S.members → r.closed ≡ b
          → Next r j (unless (0 else (13 if is_closed b)) (Dispatch.decided S W plans r.shared (rest plans r j)))
      still (by f) h c = Next.closed h (ap is_closed c)
      still not_yet h c = step (rest plans r j) h c refl

      who : (b : Bool) → ltb j S.members ≡ b
          → Next r j
          (unless ((8 if not b) else (13 if is_closed r.closed))
          (Dispatch.decided S W plans r.shared (rest plans r j)))
      who true e = still r.closed (ltb-true j S.members e) refl
      who false e = Next.nobody (ltb-false j S.members e)

  -- the same forwards
  module _ (r : Run S.State) (j : ℕ) where
    pub next-nobody : S.members ≤ j → next_step S W plans r j ≡ refused 8
    unfolding next_step
    next-nobody h = rw (le-ltb j S.members h)

    module _ (h : j < S.members) where
      pub next-closed : is_closed r.closed ≡ true → next_step S W plans r j ≡ refused 13
      unfolding next_step
      next-closed c = rw (lt-ltb j S.members h, c)

      pub next-over : r.closed ≡ not_yet → rest plans r j ≡ [] → next_step S W plans r j ≡ refused 13
      unfolding next_step
      next-over c e = rw (lt-ltb j S.members h, e, c)

      pub next-decides : {a : ℕ} {p : List ℕ} → r.closed ≡ not_yet → rest plans r j ≡ a ∷ p
          → next_step S W plans r j ≡ gives (routine S W a r.shared)
      unfolding next_step
      next-decides c e = rw (lt-ltb j S.members h, e, c)

  -- a pick is what the next step's answer makes of the run
  pub pick_next : (r : Run S.State) (j : ℕ) → pick S W plans r j ≡ advanced r j (next_step S W plans r j)
  unfolding pick pick_step next_step
  pick_next r j = at ((8 if not (ltb j S.members)) else (13 if is_closed r.closed)) (rest plans r j)
    where
      at : (k : ℕ) (p : List ℕ)
          → unless k (pick_step S W plans r j p) ≡ advanced r j (unless k (Dispatch.decided S W plans r.shared p))
      at (suc k) p = refl
      at zero [] = refl
      at zero (a ∷ p) = refl

  -- a pick's answers
  pub data Picked (r : Run S.State) (j : ℕ) : Answer (Replied (Run S.State)) → Type 0 where
    nobody : S.members ≤ j → Picked r j (refused 8)
    closed : j < S.members → is_closed r.closed ≡ true → Picked r j (refused 13)
    over : j < S.members → r.closed ≡ not_yet → rest plans r j ≡ [] → Picked r j (refused 13)
    waits : {a : ℕ} {p : List ℕ} → j < S.members → r.closed ≡ not_yet → rest plans r j ≡ a ∷ p
        → W a r.shared ≡ true
        → Picked r j (refused 13)
    goes : {a : ℕ} {p : List ℕ} → j < S.members → r.closed ≡ not_yet → rest plans r j ≡ a ∷ p
        → W a r.shared ≡ false
        → able S a r.shared ≡ true → Picked r j (advance r j (Decision.go (result_of S a r.shared)))
    collides : {a : ℕ} {p : List ℕ} → j < S.members → r.closed ≡ not_yet → rest plans r j ≡ a ∷ p
        → W a r.shared ≡ false
        → able S a r.shared ≡ false → Picked r j (advance r j (Decision.collision (missing S a r.shared)))

  pub picked : (r : Run S.State) (j : ℕ) → Picked r j (pick S W plans r j)
  picked r j = subst (Picked r j) (sym (pick_next r j)) (at (next r j))
    where
      decision : (a : ℕ) (p : List ℕ) → j < S.members → r.closed ≡ not_yet → rest plans r j ≡ a ∷ p
          → (d : Decision S.State) → Decided S W a r.shared d → Picked r j (advance r j d)
      decision a p h c e d (Decided.waits w) = waits h c e w
      decision a p h c e d (Decided.goes w b) = goes h c e w b
      decision a p h c e d (Decided.collides w b) = collides h c e w b

      at : {x : Answer (Decision S.State)} → Next r j x → Picked r j (advanced r j x)
      at (Next.nobody h) = nobody h
      at (Next.closed h c) = closed h c
      at (Next.over h c e) = over h c e
      at (decides {a = a} {p = p} h c e) =
          decision a p h c e (routine S W a r.shared) (decided S W a r.shared)

-- ---- the run after a pick that goes

module _ {State : Type 0} (plans : List (List ℕ)) (r : Run State) where
  -- the member picked has one step less
  pub rest-picked : (j : ℕ) (g : State) {a : ℕ} {p : List ℕ} → rest plans r j ≡ a ∷ p → rest plans (stepped r j g) j ≡ p
  unfolding rest
  rest-picked j g {a} {p} e =
      rw (eq-eqb j j refl) (sym (drop-drop 1 (r.places j) (get_or plans j []))) ∙ ap (drop 1) e

  -- the others have what they had
  pub rest-others : (j : ℕ) (g : State) (i : ℕ) → (i ≡ j → ⊥) → rest plans (stepped r j g) i ≡ rest plans r i
  unfolding rest
  rest-others j g i ne = rw (ne_eqb i j ne)
