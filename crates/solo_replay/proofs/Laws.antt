-- A plan's entry, its replay turn by turn, and the operation's ways out.
use mathlib.Core.Path.{◌≡◌, sym, ap, ◌∙◌}
use mathlib.Core.Bool.{Bool, true, false, not}
use mathlib.Core.List.{List}
use Prim.Native.Nat.{ℕ, zero, suc, ◌+◌, ◌≤◌, ◌<◌}
use native.Mathlib.Omega.{arith}
use native.Mathlib.Numerals.{add-one}
use lib.ListN.{length, get_or, drop, drop_of_length-le}
use lib.Seq.{drop-cons}
use lib.Dec.{ltb}
use borrow.Author.Tests.{lt-ltb, le-ltb, ltb-true, eq-eqb, ne_eqb, not-true, not-false}
use Rattle.semantics.specs.Base.{first_refusal, refused, gives}
use Rattle.semantics.specs.Mask.{within}
use Rattle.semantics.specs.Task.{check, members, actions, owner, initial, goal}
use Rattle.semantics.specs.System.{goes, lacks, system}
use Rattle.semantics.specs.Solo.{Solo, solves, breaks, short, solo_from, entry, solo_replay}
use Rattle.mask.specs.Number.{number, local_number}
use Rattle.mask.specs.declared.Local.{Local}
use Rattle.step.specs.Value.{attempt_of}
use Rattle.mask.specs.declared.Mask.{Mask}
use Rattle.std.specs.Prelude.{Result, Ok, Err}
use Rattle.refusal.specs.Number as refusal
use Rattle.refusal.specs.declared.Refusal.{Refusal}
use Rattle.refusal.proofs.Laws.{number-positive, first-refuses}
use Rattle.theory.proofs.Loops.{Rest, rest-decides, rest-onward, rest-ends}
use Rattle.theory.proofs.Refusals.{else_both, if_not-true}

-- ---- an entry

module _ (t : List ℕ) (i a m : ℕ) (e : m ≡ actions t) where
  pub no-action : m ≤ a → 7 ≡ entry t i a
  no-action h = let l : actions t ≤ a = omega arith in rw (le-ltb a (actions t) l)

  module _ (h : a < m) (o : ℕ) (k : o ≡ owner t a) where
    pub other-member : (o ≡ i → ⊥) → 10 ≡ entry t i a
    other-member h₁ = let l : a < actions t = omega arith in rw (lt-ltb a (actions t) l, ← k, ne_eqb o i h₁)

    pub own-action : o ≡ i → 0 ≡ entry t i a
    own-action h₁ = let l : a < actions t = omega arith in rw (lt-ltb a (actions t) l, ← k, eq-eqb o i h₁)

pub entry-action : (t : List ℕ) (i a : ℕ) → entry t i a ≡ 0 → a < actions t
entry-action t i a h = ltb-true a (actions t) (if_not-true 6 (ltb a (actions t)) (else_both _ _ h).0)

-- ---- the first refusal of all entries is that of those from k on

module _ (f : ℕ → ℕ) (xs : List ℕ) (k : ℕ) (r : Rest (first_refusal f) xs k) where
  module _ (h : k < length xs) where
    pub onward : 0 ≡ f (get_or xs k 0) → Rest (first_refusal f) xs (k + 1)
    unfolding first_refusal
    onward z = rest-onward (first_refusal f) xs k r 0 h (rw (← z))

    pub out : (e : Refusal) → refusal.number e ≡ f (get_or xs k 0) → refusal.number e ≡ first_refusal f xs
    unfolding first_refusal
    out e q =
        sym (rest-decides (first_refusal f) xs k r 0 h (refusal.number e)
        (sym (first-refuses e (f (get_or xs k 0)) (first_refusal f (drop (k + 1) xs)) q)))

  pub end : length xs ≤ k → 0 ≡ first_refusal f xs
  unfolding first_refusal
  end h = sym (rest-ends (first_refusal f) xs k r h)

-- ---- the replay in turn

-- what the plan comes to from I is what its steps from k on come to from s
pub record Played (t : List ℕ) (i : ℕ) (plan : List ℕ) (s k : ℕ) : Type 0 where
  pub most : k ≤ length plan
  pub rest : solo_from (system t) i 0 (initial t) plan ≡ solo_from (system t) i k s (drop k plan)

module _ (t : List ℕ) (i : ℕ) (plan : List ℕ) where
  pub starts : (s : ℕ) → s ≡ initial t → Played t i plan s 0
  starts s e = record { most = omega arith; rest = rw e }

  module _ (s k : ℕ) (r : Played t i plan s k) where
    module _ (h : k < length plan) (n : Result Local Mask)
        (is : attempt_of local_number n ≡ (system t).act (get_or plan k 0) s) where
      pub breaks-there : (m : Mask) → n ≡ Err m → breaks k ≡ solo_from (system t) i 0 (initial t) plan
      unfolding solo_from
      breaks-there m e =
          let q : lacks (number m) ≡ (system t).act (get_or plan k 0) s = sym (ap (attempt_of local_number) e) ∙ is in
          sym (r.rest ∙ rw (drop-cons plan k 0 h, ← q))

      pub goes_on : (x : Local) → n ≡ Ok x → Played t i plan (local_number x) (k + 1)
      unfolding solo_from
      goes_on x e =
          let q : goes (local_number x) ≡ (system t).act (get_or plan k 0) s =
          sym (ap (attempt_of local_number) e) ∙ is in
          record { most = omega arith; rest = r.rest ∙ rw (drop-cons plan k 0 h, ← q, add-one k) }

    module _ (h : length plan ≤ k) (b : Bool) (q : b ≡ (system t).goal i s) where
      pub stops-short : not b ≡ true → short ≡ solo_from (system t) i 0 (initial t) plan
      unfolding solo_from
      stops-short h₁ = sym (r.rest ∙ rw (drop_of_length-le plan h, ← q, not-true b h₁))

      pub ends_there : not b ≡ false → solves ≡ solo_from (system t) i 0 (initial t) plan
      unfolding solo_from
      ends_there h₁ = sym (r.rest ∙ rw (drop_of_length-le plan h, ← q, not-false b h₁))

-- ---- the operation

module _ (t : List ℕ) (i : ℕ) (plan : List ℕ) where
  refused-first : (r : ℕ) → 0 < r → r ≡ check t → refused r ≡ solo_replay t i plan
  unfolding solo_replay
  refused-first zero h e = absurd (omega arith)
  refused-first (suc r) h e = rw (← e)

  pub replay-task : (e : Refusal) → refusal.number e ≡ check t → refused (refusal.number e) ≡ solo_replay t i plan
  replay-task e q = refused-first (refusal.number e) (number-positive e) q

  -- u are the words of the accepted task
  module _ (u : List ℕ) (same : u ≡ t) (h : check u ≡ 0) (n : ℕ) (e₁ : n ≡ members u) where
    pub replay-member : n ≤ i → refused 8 ≡ solo_replay t i plan
    unfolding solo_replay
    replay-member h₁ = let l : members u ≤ i = omega arith in rw (← same, h, le-ltb i (members u) l)

    module _ (h₁ : i < n) where
      plan-first : (p : ℕ) → 0 < p → p ≡ first_refusal (entry u i) plan → refused p ≡ solo_replay t i plan
      unfolding solo_replay
      plan-first zero k e = absurd (omega arith)
      plan-first (suc p) k e = let l : i < members u = omega arith in rw (← same, h, lt-ltb i (members u) l, ← e)

      pub replay-entry : (p : Refusal) → refusal.number p ≡ first_refusal (entry u i) plan
          → refused (refusal.number p) ≡ solo_replay t i plan
      replay-entry p e = plan-first (refusal.number p) (number-positive p) e

      pub replay-gives : 0 ≡ first_refusal (entry u i) plan → (s : Solo)
          → s ≡ solo_from (system u) i 0 (initial u) plan
          → gives s ≡ solo_replay t i plan
      unfolding solo_replay
      replay-gives e s k = let l : i < members u =
          omega arith in rw (← same, h, lt-ltb i (members u) l, ← e, ← k)

-- ---- the goal

pub done-is : (t : List ℕ) (i s g : ℕ) → g ≡ goal t i → (b : Bool) → b ≡ within g s → b ≡ (system t).goal i s
done-is t i s g e b k = rw (← e) k
