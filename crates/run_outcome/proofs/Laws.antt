-- A run's outcome, and a list of picks in turn.
use mathlib.Core.Path.{◌≡◌, refl, sym, ◌∙◌}
use mathlib.Core.Bool.{Bool, true, false, not}
use mathlib.Core.List.{List, [], ◌∷◌}
use Prim.Native.Nat.{ℕ, ◌+◌, ◌^◌, ◌≤◌, ◌<◌}
use native.Mathlib.Omega.{arith}
use native.Mathlib.Numerals.{add-one}
use lib.ListN.{length, get_or, drop, drop_of_length-le}
use lib.Seq.{drop-cons}
use lib.Dec.{ltb}
use borrow.Author.Tests.{lt-ltb, le-ltb, not-true, not-false}
use Rattle.semantics.specs.Base as Base
use Rattle.semantics.specs.Base.{up_to, any_of, refused, gives}
use Rattle.semantics.specs.Task.{members, goal}
use Rattle.semantics.specs.Mask.{within}
use Rattle.semantics.specs.System.{system}
use Rattle.semantics.specs.Run as Paper
use Rattle.semantics.specs.Run.{rest, given, run_after, counted, tally, lacked_by, lacked, start, missed_in, pick, pickable, steps_left}
use Rattle.semantics.specs.Run.{outcome, replay_on, replay, plan_of}
use Rattle.theory.proofs.Loops.{Rest, any-holds, any-onward, any-ends, number-decides, number-onward, number-ends}
use Rattle.theory.proofs.Plans.{rest-length}
use Rattle.mask.specs.Number.{number, shared_number}
use Rattle.mask.specs.declared.Mask.{Mask}
use Rattle.fault.specs.Value.{fault_of}
use Rattle.fault.specs.declared.Fault.{Fault}
use Rattle.run_pick.specs.Inner.Meaning.{plans_in, pick_in}
use Rattle.run_pick.specs.Value.{run_of, reply_of, PickMeans}
use Rattle.run_pick.specs.declared.Run.{Run}
use Rattle.std.specs.Prelude.{None, Some, Result, Ok, Err}
use Rattle.std.specs.Result.{is_ok}
use Rattle.refusal.specs.Number as refusal
use Rattle.refusal.specs.declared.Refusal.{Refusal}
use Rattle.run_pick.specs.declared.Reply.{Reply}
use Rattle.run_pick.specs.declared.Reply.TheVariants.{Go, Collision}
use Rattle.run_pick.specs.declared.Picked.{Picked}
use Rattle.run_pick.proofs.Laws.{means-gives, means-refused}
use Rattle.run_outcome.specs.Inner.Meaning.{pickable_in, steps_left_in, outcome_in, replay_on_in, replay_in}

-- ---- whether a pick is possible

module _ {a : Base.Answer (Paper.Replied (Paper.Run ℕ))} {run : Run} {p : Picked} (m : PickMeans a run p) where
  pub can_pick_lem : (b : Bool) → b ≡ is_ok p.answer → b ≡ given a
  can_pick_lem b e = e ∙ by_answer p.answer refl
    where
      by_answer : (x : Result Reply Refusal) → p.answer ≡ x → is_ok x ≡ given a
      by_answer (Ok x) q = rw (means-gives m x q)
      by_answer (Err k) q = rw (means-refused m k q)

-- ---- loops over the members

module _ (t plans ends : List ℕ) (run : Run) where
  abbrev pub can_pick : ℕ → Bool
  can_pick i = given (pick_in t plans ends (run_of run) i)

  abbrev pub has_steps : ℕ → Bool
  has_steps i = ltb 0 (length (rest (plans_in t plans ends) (run_of run) i))

  module _ (n j : ℕ) (e : n ≡ members t) where
    module _ (r : Rest (any_of can_pick) (up_to (members t)) j) where
      module _ (h : j < n) (b : Bool) (q : b ≡ can_pick j) where
        pub pick-found : b ≡ true → true ≡ pickable_in t plans ends (run_of run)
        unfolding pickable
        pick-found h₁ = sym (any-holds can_pick (members t) j r (omega arith) (sym q ∙ h₁))

        pub pick-onward : b ≡ false → Rest (any_of can_pick) (up_to (members t)) (j + 1)
        pick-onward h₁ = any-onward can_pick (members t) j r (omega arith) (sym q ∙ h₁)

      pub pick-none : n ≤ j → false ≡ pickable_in t plans ends (run_of run)
      unfolding pickable
      pick-none h = sym (any-ends can_pick (members t) j r (omega arith))

    module _ (r : Rest (any_of has_steps) (up_to (members t)) j) where
      module _ (h : j < n) (k m : ℕ) (q : k ≡ get_or run.places j 0) (q₁ : m ≡ length (plan_of plans ends j)) where
        pub left-found : k < m → true ≡ steps_left_in t plans ends (run_of run)
        unfolding steps_left
        left-found l =
            sym (any-holds has_steps (members t) j r (omega arith)
            (lt-ltb 0 (length (rest (plans_in t plans ends) (run_of run) j))
            (omega (arith, rest-length (members t) plans ends (run_of run) j (omega arith)))))

        pub left-onward : m ≤ k → Rest (any_of has_steps) (up_to (members t)) (j + 1)
        left-onward l =
            any-onward has_steps (members t) j r (omega arith)
            (le-ltb 0 (length (rest (plans_in t plans ends) (run_of run) j))
            (omega (arith, rest-length (members t) plans ends (run_of run) j (omega arith))))

      pub left-none : n ≤ j → false ≡ steps_left_in t plans ends (run_of run)
      unfolding steps_left
      left-none h = sym (any-ends has_steps (members t) j r (omega arith))

module _ (t : List ℕ) (g n j : ℕ) (e : n ≡ members t) (r : Rest (missed_in (system t) g) (up_to (members t)) j) where
  module _ (h : j < n) (w : ℕ) (q : w ≡ goal t j) (b : Bool) (q₁ : b ≡ within w g) where
    pub missed-found : not b ≡ true → Paper.failure (Paper.missed j) ≡ missed_in (system t) g (up_to (members t))
    unfolding missed_in
    missed-found h₁ =
        sym (number-decides (missed_in (system t) g) (members t) j r (omega arith) (Paper.failure (Paper.missed j))
        (rw (← q, ← q₁, not-true b h₁)))

    pub missed-onward : not b ≡ false → Rest (missed_in (system t) g) (up_to (members t)) (j + 1)
    unfolding missed_in
    missed-onward h₁ =
        number-onward (missed_in (system t) g) (members t) j r (omega arith) (rw (← q, ← q₁, not-false b h₁))

  pub missed-none : n ≤ j → Paper.success ≡ missed_in (system t) g (up_to (members t))
  unfolding missed_in
  missed-none h = sym (number-ends (missed_in (system t) g) (members t) j r (omega arith))

-- ---- a run's outcome

module _ (t plans ends : List ℕ) (run : Run) where
  pub out-closed : (f : Fault) → run.closed ≡ Some f → Paper.failure (fault_of f) ≡ outcome_in t plans ends (run_of run)
  unfolding outcome
  out-closed f h = rw h

  module _ (h : run.closed ≡ None) (b : Bool) (q : b ≡ pickable_in t plans ends (run_of run)) where
    pub out_open : b ≡ true → Paper.still_open ≡ outcome_in t plans ends (run_of run)
    unfolding outcome
    out_open h₁ = rw (← q, h₁, h)

    module _ (h₁ : b ≡ false) (c : Bool) (q₁ : c ≡ steps_left_in t plans ends (run_of run)) where
      pub out-deadlock : c ≡ true → Paper.failure Paper.deadlock ≡ outcome_in t plans ends (run_of run)
      unfolding outcome
      out-deadlock h₂ = rw (← q, h₁, ← q₁, h₂, h)

      pub out-rest : c ≡ false → (o : Paper.Outcome)
          → o ≡ missed_in (system t) (shared_number run.shared) (up_to (members t))
          → o ≡ outcome_in t plans ends (run_of run)
      unfolding outcome
      out-rest h₂ o q₂ = rw (← q, h₁, ← q₁, h₂, h) q₂

-- ---- a list of picks

pub count-go : (k : ℕ) (x : Reply) → x ≡ Go → k + 1 ≡ counted k (reply_of x)
count-go k x e = rw e

pub count-collision : (k : ℕ) (x : Reply) (m : Mask) → x ≡ Collision m → k ≡ counted k (reply_of x)
count-collision k x m e = rw e

pub lacked-go : (x : Reply) → x ≡ Go → (m : ℕ) → m ≡ 0 → m ≡ lacked_by (reply_of x)
lacked-go x e m z = rw e z

pub lacked-collision : (x : Reply) (m : Mask) → x ≡ Collision m → number m ≡ lacked_by (reply_of x)
lacked-collision x m e = rw e

counted-most : (k : ℕ) (x : Reply) → counted k (reply_of x) ≤ k + 1
counted-most k Go = omega arith
counted-most k (Collision m) = omega arith

-- what all picks come to from the start is what those from i on come to from this run, k picks being done, of which the
-- last lacked n
pub record Replaying (t plans ends picks : List ℕ) (run : Run) (k n i : ℕ) : Type 0 where
  pub most : i ≤ length picks
  pub few : k ≤ i
  pub rest : replay_in t plans ends picks ≡ replay_on_in t plans ends (gives (run_of run)) k n (drop i picks)

module _ (t plans ends picks : List ℕ) where
  pub replay-starts : (run : Run) → run_of run ≡ start (system t) → (n : ℕ) → n ≡ 0
      → Replaying t plans ends picks run 0 n 0
  unfolding replay
  replay-starts run e n z = record { most = omega arith; few = omega arith; rest = rw (e, z) }

  module _ (run : Run) (k n i : ℕ) (r : Replaying t plans ends picks run k n i) where
    module _ (h : i < length picks) where
      -- so many picks can be counted
      pub count_fits : length picks < 2 ^ 64 → k + 1 < 2 ^ 64
      count_fits l = omega (arith, r.few)

      turn : replay_in t plans ends picks
          ≡ (let a =
          pick_in t plans ends (run_of run) (get_or picks i 0) in
          replay_on_in t plans ends (run_after a) (tally k a) (lacked a) (drop (i + 1) picks))
      unfolding replay_on
      turn = r.rest ∙ rw (drop-cons picks i 0 h, add-one i)

      module _ (p : Picked) (m : PickMeans (pick_in t plans ends (run_of run) (get_or picks i 0)) run p) where
        pub replay-gives : (x : Reply) → p.answer ≡ Ok x → (d : ℕ) → d ≡ counted k (reply_of x)
            → (l : ℕ) → l ≡ lacked_by (reply_of x)
            → Replaying t plans ends picks p.run d l (i + 1)
        replay-gives x e d q l z =
            record {
              most = omega arith;
              few = omega (arith, counted-most k x, r.few);
              rest = turn ∙ rw (means-gives m x e, q, z);
            }

        pub replay-refused : (x : Refusal) → p.answer ≡ Err x
            → refused (refusal.number x) ≡ replay_in t plans ends picks
        unfolding replay_on
        replay-refused x e = sym (turn ∙ rw (means-refused m x e) (at (drop (i + 1) picks)))
          where
            at : (js : List ℕ)
                → replay_on_in t plans ends (refused (refusal.number x)) k 0 js ≡ refused (refusal.number x)
            at [] = refl
            at (j ∷ js) = refl

    pub replay-ends : length picks ≤ i → (o : Paper.Outcome) → o ≡ outcome_in t plans ends (run_of run)
        → gives (record { outcome = o; shared = shared_number run.shared; picked = k; missing = n })
        ≡ replay_in t plans ends picks
    unfolding replay_on
    replay-ends h o e = sym (r.rest ∙ rw (drop_of_length-le picks h, ← e))
