-- The ways out of a pick, a run's outcome, and a list of picks in turn.
use mathlib.Core.Path.{◌≡◌, refl, sym, ap, ap₂, subst, ◌∙◌, fun_ext}
use mathlib.Core.Bool.{Bool, true, false, cond, false≢true}
use mathlib.Core.List.{List}
use Rattle.std.specs.Option.{is_some}
use Rattle.std.specs.Prelude.{Option, None, Some, Result, Ok, Err}
use Prim.Native.Nat.{ℕ, zero, suc, ◌+◌, ◌^◌, ◌≤◌, ◌<◌}
use native.Mathlib.Omega.{arith}
use native.Mathlib.Decide.{ℕ_discrete}
use lib.ListN.{length, get_or, set, replicate, drop_of_length-le}
use lib.Seq.{drop-cons, get_or-set_same, get_or-set_other}
use lib.Dec.{eqb, ltb}
use borrow.Author.Tests.{lt-ltb, le-ltb, eq-eqb, ne_eqb}
use Rattle.semantics.specs.Base as Base
use Rattle.semantics.specs.Base.{up_to, any_of, refused, gives}
use Rattle.semantics.specs.Task.{check, members, initial}
use Rattle.semantics.specs.System.{system, waits}
use Rattle.semantics.specs.Step.{routine, Decision as Decided}
use Rattle.semantics.specs.Run as Paper
use Rattle.semantics.specs.Run.{not_yet, is_closed, rest, advance, start, pick, outcome, plan_of, past_end}
use Rattle.theory.proofs.Accepted.{accepted}
use Rattle.theory.proofs.Loops.{Rest, any-holds, any-onward, any-ends}
use Rattle.theory.proofs.Plans.{rest-is}
use Rattle.theory.proofs.Refusals.{refused-gives, gives_inj}
use Rattle.theory.proofs.Picks.{advanced, next-nobody, next-closed, next-over, next-decides, pick_next}
use Rattle.refusal.specs.Number.{number, answered}
use Rattle.refusal.specs.declared.Refusal.{Refusal}
use Rattle.mask.specs.Number.{shared_number}
use Rattle.mask.specs.declared.Mask.{Mask}
use Rattle.mask.specs.declared.Shared.{Shared}
use Rattle.fault.specs.declared.Fault.{Fault}
use Rattle.fault.specs.declared.Fault.TheVariants.{Collision as Crash}
use Rattle.step.specs.Value.{decision_of}
use Rattle.step.specs.declared.Decision.{Decision}
use Rattle.step.specs.declared.Decision.TheVariants as decision
use Rattle.run_pick.specs.Inner.Meaning.{plans_in, next_in, Ready, pick_in}
use Rattle.run_pick.specs.Value.{closed_of, run_of, reply_of, answer_of, replies, answer_with, PickMeans}
use Rattle.run_pick.specs.declared.Run.{Run}
use Rattle.run_pick.specs.declared.Reply.{Reply}
use Rattle.run_pick.specs.declared.Reply.TheVariants.{Go, Collision}
use Rattle.run_pick.specs.declared.Picked.{Picked}

-- ---- the next step, with the plans in one slice

module _ (t plans ends : List ℕ) (r : Paper.Run ℕ) (j : ℕ) (h : j < members t) (runs : r.closed ≡ not_yet) where
  next-done : length (plan_of plans ends j) ≤ r.places j → next_in t plans ends r j ≡ refused 13
  next-done l =
      next-over (system t) (waits t) (plans_in t plans ends) r j h runs
      (rest-is (members t) plans ends r j h ∙ drop_of_length-le (plan_of plans ends j) l)

  -- the routine decides it
  next-routine : r.places j < length (plan_of plans ends j)
      → next_in t plans ends r j
      ≡ gives (routine (system t) (waits t) (get_or (plan_of plans ends j) (r.places j) 0) r.shared)
  next-routine l =
      next-decides (system t) (waits t) (plans_in t plans ends) r j h runs
      (rest-is (members t) plans ends r j h ∙ drop-cons (plan_of plans ends j) (r.places j) 0 l)

-- ---- a pick

pub refused-means : (k : ℕ) (run : Run) (a : Base.Answer (Paper.Replied (Paper.Run ℕ))) → a ≡ refused k
    → (p : Picked) → PickMeans (refused k) run p → PickMeans a run p
refused-means k run a e p m = rw e m

-- a place moved by one, in the struct's list
moved-place : (places : List ℕ) (j : ℕ) → j < length places
    → ◌≡◌ {A = ℕ → ℕ} (λ i. get_or (set places j (get_or places j 0 + 1)) i 0)
    (λ i. cond (eqb i j) (get_or places i 0 + 1) (get_or places i 0))
moved-place places j h = fun_ext (λ i. at i (ℕ_discrete i j))
  where
    to : ℕ
    to = get_or places j 0 + 1

    at : (i : ℕ) → Dec (i ≡ j)
        → get_or (set places j to) i 0 ≡ cond (eqb i j) (get_or places i 0 + 1) (get_or places i 0)
    at i (yes q) = rw (eq-eqb i j q, q) (get_or-set_same places j to 0 h)
    at i (no ne) = rw (ne_eqb i j ne) (get_or-set_other places j i to 0 ne)

-- what the routine's decision makes of the run
module _ (run : Run) (j : ℕ) (d : Decision) where
  abbrev Advances : Picked → Type 0
  Advances p = PickMeans (advance (run_of run) j (decision_of d)) run p

  pub way_waits : d ≡ decision.Wait → (p : Picked) → PickMeans (refused 13) run p → Advances p
  way_waits q p m = rw q m

  pub way_collides : (m : Mask) → d ≡ decision.Collision m
      → Advances
      (record {
        answer = Ok (Collision m);
        run =
            record { shared = run.shared; places = run.places; closed = Some Crash };
      })
  way_collides m q = rw q (record { answer = refl; after = refl })

  pub way_goes : (g : Shared) → d ≡ decision.Go g → j < 8 → length run.places ≡ 8
      → Advances
      (record {
        answer = Ok Go;
        run =
            record { shared = g; places = set run.places j (get_or run.places j 0 + 1); closed = None };
      })
  way_goes g q h wide =
      rw q
      (record {
        answer = refl;
        after =
            ap (λ (p : ℕ → ℕ). record { shared = shared_number g; places = p; closed = not_yet })
            (moved-place run.places j (rw wide h));
      })

-- what is not closed
open_is : (c : Option Fault) → is_some c ≡ false → closed_of c ≡ not_yet
open_is None e = refl
open_is (Some f) e = absurd (false≢true (sym e))

-- what is closed
closed_is : (c : Option Fault) → is_some c ≡ true → is_closed (closed_of c) ≡ true
closed_is None e = absurd (false≢true e)
closed_is (Some f) e = refl

-- the ways out of the next step
module _ (t plans ends : List ℕ) (run : Run) (j n : ℕ) (e : n ≡ members t) where
  abbrev Next : Base.Answer (Decided ℕ)
  Next = next_in t plans ends (run_of run) j

  pub way_nobody : n ≤ j → refused 8 ≡ Next
  way_nobody h = sym (next-nobody (system t) (waits t) (plans_in t plans ends) (run_of run) j (omega arith))

  module _ (h : j < n) where
    its : j < members t
    its = omega arith

    pub way_closed : (b : Bool) → b ≡ is_some run.closed → b ≡ true → refused 13 ≡ Next
    way_closed b is c =
        sym (next-closed (system t) (waits t) (plans_in t plans ends) (run_of run) j its
        (closed_is run.closed (sym is ∙ c)))

    module _ (b : Bool) (is : b ≡ is_some run.closed) (c : b ≡ false) (k m : ℕ)
        (e₁ : k ≡ get_or run.places j 0) (e₂ : m ≡ length (plan_of plans ends j)) where
      runs : closed_of run.closed ≡ not_yet
      runs = open_is run.closed (sym is ∙ c)

      pub way_over : m ≤ k → refused 13 ≡ Next
      way_over l = sym (next-done t plans ends (run_of run) j its runs (omega arith))

      module _ (l : k < m) where
        pub way_decided : (a : ℕ) → a ≡ get_or (plan_of plans ends j) k 0 → (d : Decision)
            → decision_of d ≡ routine (system t) (waits t) a (shared_number run.shared) → gives (decision_of d) ≡ Next
        way_decided a e₃ d e₄ =
            let q : routine (system t) (waits t) (get_or (plan_of plans ends j) (get_or run.places j 0) 0)
            (shared_number run.shared) ≡ decision_of d = rw (← e₁, ← e₃) (sym e₄) in
            sym (next-routine t plans ends (run_of run) j its runs (omega arith) ∙ ap gives q)

        pub way_ready : m < 2 ^ 64 → (d : Decision) → Ready t run j (Ok d)
        way_ready fits d = (its, omega arith)

-- the ways out of a pick
module _ (t plans ends : List ℕ) (run : Run) (j : ℕ) (s : Result Decision Refusal)
    (e : answered decision_of s ≡ next_in t plans ends (run_of run) j) where
  abbrev Means : Picked → Type 0
  Means p = PickMeans (pick_in t plans ends (run_of run) j) run p

  answers : pick_in t plans ends (run_of run) j ≡ advanced (run_of run) j (answered decision_of s)
  answers =
      pick_next (system t) (waits t) (plans_in t plans ends) (run_of run) j ∙ ap (advanced (run_of run) j) (sym e)

  pub way_refused : (k : Refusal) → s ≡ Err k → (p : Picked) → PickMeans (refused (number k)) run p → Means p
  way_refused k q =
      refused-means (number k) run _
      (answers ∙ ap (λ (x : Result Decision Refusal). advanced (run_of run) j (answered decision_of x)) q)

  pub way_advances : (d : Decision) → s ≡ Ok d → (p : Picked)
      → PickMeans (advance (run_of run) j (decision_of d)) run p → Means p
  way_advances d q p m =
      rw (answers ∙ ap (λ (x : Result Decision Refusal). advanced (run_of run) j (answered decision_of x)) q) m

-- what there is where the next step has an answer
module _ (t : List ℕ) (run : Run) (j : ℕ) (s : Result Decision Refusal) (ready : Ready t run j s) (d : Decision)
    (e : s ≡ Ok d) where
  its-ready : Ready t run j (Ok d)
  its-ready = subst (Ready t run j) e ready

  pub ready-member : j < members t
  ready-member = its-ready.0

  pub ready-place : get_or run.places j 0 + 1 < 2 ^ 64
  ready-place = its-ready.1

  pub ready-few : check t ≡ 0 → j < 8
  ready-few ok = omega (arith, (accepted t ok).few-members, ready-member)

-- ---- what a pick's answer tells of its meaning

pub answer-is : {R : Type 0} (x : Result Reply Refusal) (a : Base.Answer (Paper.Replied R)) (before after : R)
    → answer_of x ≡ replies a → after ≡ Paper.pass_over before a → a ≡ answer_with x after
answer-is (Err k) (refused i) before after e w = cc
answer-is (Err k) (gives r) before after e w = absurd (refused-gives e)
answer-is (Ok x) (refused i) before after e w = absurd (refused-gives (sym e))
answer-is (Ok x) (gives r) before after e w = λ i. gives (record { reply = sym (gives_inj e) i; run = sym w i })

module _ {a : Base.Answer (Paper.Replied (Paper.Run ℕ))} {run : Run} {p : Picked} (m : PickMeans a run p) where
  pub means-picked : a ≡ answer_with p.answer (run_of p.run)
  means-picked = answer-is p.answer a (run_of run) (run_of p.run) m.answer m.after

  means-answer : (x : Result Reply Refusal) → p.answer ≡ x → a ≡ answer_with x (run_of p.run)
  means-answer x e = means-picked ∙ ap (λ (y : Result Reply Refusal). answer_with y (run_of p.run)) e

  pub means-gives : (x : Reply) → p.answer ≡ Ok x → a ≡ gives (record { reply = reply_of x; run = run_of p.run })
  means-gives x e = means-answer (Ok x) e

  pub means-refused : (k : Refusal) → p.answer ≡ Err k → a ≡ refused (number k)
  means-refused k e = means-answer (Err k) e

-- ---- the start, and any run

pub zeros-at : (n j : ℕ) → get_or {A = ℕ} (replicate n 0) j 0 ≡ 0
zeros-at zero j = refl
zeros-at (suc n) zero = refl
zeros-at (suc n) (suc j) = zeros-at n j

pub starts : (t : List ℕ) (g : Shared) → shared_number g ≡ initial t
    → run_of (record { shared = g; places = replicate 8 0; closed = None }) ≡ start (system t)
unfolding start
starts t g e = ap₂ (λ (s : ℕ) (p : ℕ → ℕ). record { shared = s; places = p; closed = not_yet }) e (fun_ext (zeros-at 8))

module _ (t plans ends : List ℕ) (run : Run) where
  abbrev pub is_past : ℕ → Bool
  is_past i = ltb (length (plan_of plans ends i)) (get_or run.places i 0)

  module _ (n j : ℕ) (e : n ≡ members t) where
    module _ (r : Rest (any_of is_past) (up_to (members t)) j) where
      module _ (h : j < n) (k m : ℕ) (q : k ≡ get_or run.places j 0) (q₁ : m ≡ length (plan_of plans ends j)) where
        pub past_found : m < k → true ≡ past_end t plans ends (run_of run)
        past_found l =
            sym (any-holds is_past (members t) j r (omega arith)
            (lt-ltb (length (plan_of plans ends j)) (get_or run.places j 0) (omega arith)))

        pub past_onward : k ≤ m → Rest (any_of is_past) (up_to (members t)) (j + 1)
        past_onward l =
            any-onward is_past (members t) j r (omega arith)
            (le-ltb (length (plan_of plans ends j)) (get_or run.places j 0) (omega arith))

      pub past_none : n ≤ j → false ≡ past_end t plans ends (run_of run)
      past_none h = sym (any-ends is_past (members t) j r (omega arith))
