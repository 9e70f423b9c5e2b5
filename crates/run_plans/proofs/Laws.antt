-- The ends of the plans, a member's part of the plan slice, and the ways out of the plans' check.
use mathlib.Core.Path.{◌≡◌, refl, sym, ap, ◌∙◌}
use mathlib.Core.Bool.{Bool, true, false, not, ◌&&◌}
use mathlib.Core.List.{List, [], ◌∷◌}
use Prim.Native.Nat.{ℕ, zero, suc, ◌+◌, ◌-◌, ◌≤◌, ◌<◌}
use native.Mathlib.Omega.{arith}
use native.Mathlib.Numerals.{sub-one}
use lib.ListN.{length, get_or, take, drop}
use lib.Seq.{slice, take-nil, length-slice, get_or-take, get_or-drop}
use lib.Dec.{eqb, leb}
use borrow.Author.Tests.{leb-true, eqb-true, eq-eqb, ne_eqb, le-leb, lt-leb, not-false}
use Rattle.semantics.specs.Base.{up_to, all_of, ◌if◌, first_refusal}
use Rattle.semantics.specs.Task.{check, members, actions, initial}
use Rattle.semantics.specs.System.{system}
use Rattle.semantics.specs.Solo.{entry, solo_from}
use Rattle.semantics.specs.Run.{beginning, plan_of, ends_fit, is_solves, plan_refusal, plans_refusal}
use Rattle.theory.proofs.Lists.{and_elim, all_true, mem_up_to, mem-get_d}
use Rattle.theory.proofs.Loops.{Rest, rest-begin, all-fails, all-onward, all-ends}
use Rattle.theory.proofs.Refusals.{else_both, if_not-true, up_to_refusal}
use Rattle.theory.proofs.Agrees.Solo.{entries-own}
use Rattle.solo_replay.specs.Value.{solo_of}
use Rattle.solo_replay.specs.declared.Solo.{Solo}
use Rattle.solo_replay.specs.declared.Solo.TheVariants.{Solves, Breaks, Short}
use Rattle.refusal.specs.Number.{number}
use Rattle.refusal.specs.declared.Refusal.{Refusal}
use Rattle.refusal.proofs.Laws.{first-refuses}
use Rattle.run_plans.specs.Inner.Parts.{member_refusal}

pub later : (ends : List ℕ) (j : ℕ) → (j ≡ 0 → ⊥) → get_or ends (j - 1) 0 ≡ beginning ends j
later ends zero h = absurd (h refl)
later ends (suc j) h = ap (λ (k : ℕ). get_or ends k 0) (sub-one (suc j))

-- ---- the ends

-- member j's plan ends no earlier than it begins
abbrev pub rises : List ℕ → ℕ → Bool
rises ends j = leb (beginning ends j) (get_or ends j 0)

-- n ends, and of those before j none before the one before it
pub record Rising (n : ℕ) (ends : List ℕ) (j : ℕ) : Type 0 where
  pub many : length ends ≡ n
  pub rest : Rest (all_of (rises ends)) (up_to n) j

module _ (n : ℕ) (ends : List ℕ) where
  pub rising : length ends ≡ n → Rising n ends 0
  rising h = record { many = h; rest = rest-begin (all_of (rises ends)) (up_to n) }

  pub rises-there : (j : ℕ) → Rising n ends j → j < length ends → (b : ℕ) → b ≡ beginning ends j → b ≤ get_or ends j 0
      → Rising n ends (j + 1)
  rises-there j r h b e l =
      record {
        many = r.many;
        rest =
            all-onward (rises ends) n j r.rest (omega (arith, r.many))
            (le-leb (beginning ends j) (get_or ends j 0) (omega arith));
      }

module _ (n : ℕ) (plans ends : List ℕ) where
  pub wrong_number : (length ends ≡ n → ⊥) → false ≡ ends_fit n plans ends
  unfolding ends_fit
  wrong_number h = rw (ne_eqb (length ends) n h)

  module _ (j : ℕ) (r : Rising n ends j) where
    pub falls-there : j < length ends → (b : ℕ) → b ≡ beginning ends j → get_or ends j 0 < b
        → false ≡ ends_fit n plans ends
    unfolding ends_fit
    falls-there h b e l =
        let f : all_of (rises ends) (up_to n) ≡ false =
        all-fails (rises ends) n j r.rest (omega (arith, r.many))
        (lt-leb (beginning ends j) (get_or ends j 0) (omega arith)) in
        rw (eq-eqb (length ends) n r.many, f)

    pub last_end : length ends ≤ j → (b : ℕ) → b ≡ beginning ends n → eqb b (length plans) ≡ ends_fit n plans ends
    unfolding ends_fit
    last_end h b e = rw (eq-eqb (length ends) n r.many, all-ends (rises ends) n j r.rest (omega (arith, r.many)), e)

-- ---- a member's part of the plan slice

pub record Part (n : ℕ) (plans ends : List ℕ) (j : ℕ) : Type 0 where
  pub many : length ends ≡ n
  pub begins : beginning ends j ≤ get_or ends j 0
  pub within : get_or ends j 0 ≤ length plans

module _ (n : ℕ) (plans ends : List ℕ) (fit : ends_fit n plans ends ≡ true) where
  counted : (length ends ≡ n)
      × (((j : ℕ) → j < n → beginning ends j ≤ get_or ends j 0) × (beginning ends n ≡ length plans))
  unfolding ends_fit
  counted =
      let (h, last) = and_elim (eqb (length ends) n && all_of (rises ends) (up_to n)) _ fit in
      let (many, up) = and_elim (eqb (length ends) n) _ h in (
        eqb-true _ _ many,
        ((λ j l. leb-true _ _ (all_true (rises ends) up (mem_up_to l))), eqb-true _ _ last),
      )

  climbs : (d j : ℕ) → j + d ≡ n → beginning ends j ≤ length plans
  climbs zero j e = let q : j ≡ n = omega arith in rw q (omega (arith, counted.1.1))
  climbs (suc d) j e = omega (arith, climbs d (suc j) (omega arith), counted.1.0 j (omega arith))

  pub part : (j : ℕ) → j < n → Part n plans ends j
  part j h =
      record { many = counted.0; begins = counted.1.0 j h; within = climbs (n - suc j) (suc j) (omega arith) }

module _ (plans ends : List ℕ) (j : ℕ) {n : ℕ} (p : Part n plans ends j) where
  pub plan-length : length (plan_of plans ends j) ≡ get_or ends j 0 - beginning ends j
  plan-length = length-slice (beginning ends j) (get_or ends j 0) plans p.within

  pub plan-at : (k : ℕ) → k < length (plan_of plans ends j)
      → get_or (plan_of plans ends j) k 0 ≡ get_or plans (beginning ends j + k) 0
  plan-at k h =
      get_or-drop (beginning ends j) (take (get_or ends j 0) plans) k 0
      ∙ get_or-take (get_or ends j 0) plans (beginning ends j + k) 0 (omega (arith, plan-length))

-- a part is taken from its start on
pub part_slice : (a e : ℕ) (xs : List ℕ) → a ≤ e → take (e - a) (drop a xs) ≡ slice a e xs
part_slice zero e xs h = let q : e - 0 ≡ e = omega arith in rw q
part_slice (suc a) zero xs h = absurd (omega arith)
part_slice (suc a) (suc e) [] h = take-nil (suc e - suc a)
part_slice (suc a) (suc e) (x ∷ xs) h = let q : suc e - suc a ≡ e - a =
    omega arith in rw q (part_slice a e xs (omega arith))

pub part-refusal : (t plans ends : List ℕ) (j r b : ℕ) → b ≡ beginning ends j → b ≤ get_or ends j 0
    → r ≡ plan_refusal t j (take (get_or ends j 0 - b) (drop b plans)) → r ≡ member_refusal t plans ends j
part-refusal t plans ends j r b e l k = k ∙ ap (plan_refusal t j) (part_slice b (get_or ends j 0) plans l ∙ rw e)

-- ---- a member's plan

pub plan-refused : (t : List ℕ) (j : ℕ) (plan : List ℕ) (e : Refusal) → number e ≡ first_refusal (entry t j) plan
    → number e ≡ plan_refusal t j plan
plan-refused t j plan e k = first-refuses e (first_refusal (entry t j) plan) _ k

module _ (t : List ℕ) (j : ℕ) (plan : List ℕ) (k : 0 ≡ first_refusal (entry t j) plan) (s : Solo)
    (q : solo_of s ≡ solo_from (system t) j 0 (initial t) plan) where
  comes_to : plan_refusal t j plan ≡ (12 if not (is_solves (solo_of s)))
  comes_to = rw (← k, ← q)

  pub plan-solves : s ≡ Solves → 0 ≡ plan_refusal t j plan
  plan-solves h₁ = sym (comes_to ∙ rw h₁)

  pub plan-breaks : (i : ℕ) → s ≡ Breaks i → 12 ≡ plan_refusal t j plan
  plan-breaks i h₁ = sym (comes_to ∙ rw h₁)

  pub plan-short : s ≡ Short → 12 ≡ plan_refusal t j plan
  plan-short h₁ = sym (comes_to ∙ rw h₁)

-- ---- the plans' check

module _ (t plans ends : List ℕ) where
  pub refuses-task : (e : Refusal) → number e ≡ check t → number e ≡ plans_refusal t plans ends
  unfolding plans_refusal
  refuses-task e k = first-refuses e (check t) _ k

-- the words of the accepted task are those that are checked
module _ (own plans ends : List ℕ) (k : check own ≡ 0) (n : ℕ) (k₁ : n ≡ members own) (b : Bool)
    (k₂ : b ≡ ends_fit n plans ends) where
  pub refuses-ends : not b ≡ true → (t : List ℕ) → own ≡ t → 11 ≡ plans_refusal t plans ends
  unfolding plans_refusal
  refuses-ends h t same = rw (← same, k, ← k₁, ← k₂, h)

  own-plans : not b ≡ false → (r : ℕ) → r ≡ first_refusal (member_refusal own plans ends) (up_to (members own))
      → r ≡ plans_refusal own plans ends
  unfolding plans_refusal
  own-plans h r q = rw (k, ← k₁, ← k₂, h) (rw k₁ q)

  pub refuses-plans : not b ≡ false → (r : ℕ) → r ≡ first_refusal (member_refusal own plans ends) (up_to (members own))
      → (t : List ℕ) → own ≡ t → r ≡ plans_refusal t plans ends
  refuses-plans h r q t same = rw (← same) (own-plans h r q)

  pub plans-accepted : not b ≡ false → 0 ≡ first_refusal (member_refusal own plans ends) (up_to (members own))
      → plans_refusal own plans ends ≡ 0
  plans-accepted h q = sym (own-plans h 0 q)

-- where the ends are not refused they fit
pub fits-there : (t plans ends : List ℕ) (n : ℕ) → n ≡ members t → (b : Bool) → b ≡ ends_fit n plans ends
    → not b ≡ false → ends_fit (members t) plans ends ≡ true
fits-there t plans ends n k b e h = rw (← k) (sym e ∙ not-false b h)

-- ---- checked plans

pub record Checked (t plans ends : List ℕ) : Type 0 where
  pub fit : ends_fit (members t) plans ends ≡ true
  pub entries : (j : ℕ) → j < members t → first_refusal (entry t j) (plan_of plans ends j) ≡ 0

pub checked : (t plans ends : List ℕ) → plans_refusal t plans ends ≡ 0 → Checked t plans ends
unfolding plans_refusal
checked t plans ends h =
    let (f, h₂) = else_both _ _ (else_both (check t) _ h).1 in
    record {
      fit = if_not-true 10 _ f;
      entries =
          λ j l. (else_both (first_refusal (entry t j) (plan_of plans ends j)) _
          (up_to_refusal (member_refusal t plans ends) (members t) h₂ j l)).0;
    }

module _ (t plans ends : List ℕ) (j : ℕ) (h : plans_refusal t plans ends ≡ 0) (l : j < members t) where
  pub checked-part : Part (members t) plans ends j
  checked-part = part (members t) plans ends (checked t plans ends h).fit j l

  -- each step is an action
  pub checked-step : (k : ℕ) → k < length (plan_of plans ends j) → get_or (plan_of plans ends j) k 0 < actions t
  checked-step k m =
      (entries-own t j (plan_of plans ends j) ((checked t plans ends h).entries j l) _
      (mem-get_d (plan_of plans ends j) k 0 m)).0
