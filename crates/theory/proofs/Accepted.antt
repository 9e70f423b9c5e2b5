-- What a task that the check accepts satisfies, and that its system is lawful.
use mathlib.Core.Path.{◌≡◌, refl, sym, ◌∙◌}
use mathlib.Core.Bool.{true, false, not, ◌&&◌, false≢true}
use mathlib.Core.Logic.{⊎_elim}
use mathlib.Core.List.{List}
use Prim.Native.Nat.{ℕ, ◌+◌, ◌*◌, ◌^◌, ◌≤◌, ◌<◌}
use native.Mathlib.Omega.{arith}
use lib.Dec.{eqb, ltb}
use lib.Pow.{pow_pos}
use lib.ListN.{length, get_or-eq_default}
use borrow.Author.Tests.{ltb-true, lt-ltb, leb-true, eqb-true, eq-eqb, not-true}
use Rattle.semantics.specs.Base.{◌if◌}
use Rattle.semantics.specs.Mask.{within, below}
use Rattle.semantics.specs.Task.{row_width, word, facts, members, actions, initial, goal, action_at, owner, pre, wait}
use Rattle.semantics.specs.Task.{add, del, mask_in, zeros_from, mask_fits, head_fits, goal_row, action_row, check}
use Rattle.semantics.specs.System.{Lawful, system, waits}
use Rattle.theory.proofs.Lists.{lt-or_ge, not-true-false, and_elim}
use Rattle.theory.proofs.Refusals.{else_both, if_not-true, up_to_refusal}
use Rattle.theory.proofs.Attempts.{able-within}
use Rattle.theory.proofs.Masks.{within-sub, sub_within}

-- word k of row r is a word of 64 bits
abbrev pub LowWord : List ℕ → ℕ → ℕ → Type 0
LowWord t r k = word t r k < 2 ^ 64

-- a goal row
pub record GoalFits (t : List ℕ) (i : ℕ) : Type 0 where
  pub number : word t (1 + i) 0 ≡ i
  pub zeros : zeros_from t (1 + i) 3 ≡ true
  pub below : below (facts t) (goal t i) ≡ true
  pub low : LowWord t (1 + i) 1

-- the masks of an action stand below F, and what it waits for is a precondition
pub record ActionFits (t : List ℕ) (a : ℕ) : Type 0 where
  pub pre-below : below (facts t) (pre t a) ≡ true
  pub wait-below : below (facts t) (wait t a) ≡ true
  pub add-below : below (facts t) (add t a) ≡ true
  pub del-below : below (facts t) (del t a) ≡ true
  -- their low words are words
  pub pre-low : LowWord t (action_at t a) 1
  pub wait-low : LowWord t (action_at t a) 3
  pub add_low : LowWord t (action_at t a) 5
  pub del-low : LowWord t (action_at t a) 7
  pub wait-pre : within (wait t a) (pre t a) ≡ true

pub record Accepted (t : List ℕ) : Type 0 where
  pub some-facts : 1 ≤ facts t
  pub few-facts : facts t ≤ 128
  pub some-members : 1 ≤ members t
  pub few-members : members t ≤ 8
  pub few-actions : actions t ≤ 256
  pub size : length t ≡ row_width * (1 + members t + actions t)
  pub head-zeros : zeros_from t 0 5 ≡ true
  pub initial-below : below (facts t) (initial t) ≡ true
  pub initial-low : LowWord t 0 3
  pub goal-fits : (i : ℕ) → i < members t → GoalFits t i
  pub owner-member : (a : ℕ) → a < actions t → owner t a < members t
  -- past the last action all words are 0
  pub action-fits : (a : ℕ) → ActionFits t a

mask_fits_lem : (t : List ℕ) (r k : ℕ) → mask_fits t r k ≡ true
    → (LowWord t r k) × (below (facts t) (mask_in t r k) ≡ true)
mask_fits_lem t r k h = let (l, b) = and_elim _ _ h in (ltb-true (word t r k) (2 ^ 64) l, b)

goal-row : (t : List ℕ) (i : ℕ) → goal_row t i ≡ 0 → GoalFits t i
unfolding goal_row
goal-row t i h =
    let (s, m) = else_both (3 if not (eqb (word t (1 + i) 0) i && zeros_from t (1 + i) 3)) _ h in
    let (e, z) = and_elim _ _ (if_not-true 2 _ s) in
    let (l, b) = mask_fits_lem t (1 + i) 1 (if_not-true 3 _ m) in
    record { number = eqb-true _ _ e; zeros = z; below = b; low = l }

action-row : (t : List ℕ) (a : ℕ) → action_row t a ≡ 0 → (owner t a < members t) × ActionFits t a
unfolding action_row
action-row t a h =
    let (o, h₁) = else_both _ _ h in
    let (m, w) = else_both _ _ h₁ in
    let (x, d) = and_elim _ (mask_fits t (action_at t a) 7) (if_not-true 3 _ m) in
    let (y, c) = and_elim _ (mask_fits t (action_at t a) 5) x in
    let (p, q) = and_elim (mask_fits t (action_at t a) 1) (mask_fits t (action_at t a) 3) y in
    let (pl, pb) = mask_fits_lem t (action_at t a) 1 p in
    let (wl, wb) = mask_fits_lem t (action_at t a) 3 q in
    let (al, ab) = mask_fits_lem t (action_at t a) 5 c in
    let (dl, db) = mask_fits_lem t (action_at t a) 7 d in (
      ltb-true _ _ (if_not-true 4 _ o),
      record {
        pre-below = pb;
        wait-below = wb;
        add-below = ab;
        del-below = db;
        pre-low = pl;
        wait-low = wl;
        add_low = al;
        del-low = dl;
        wait-pre = if_not-true 5 _ w;
      },
    )

module _ (t : List ℕ) (size : length t ≡ row_width * (1 + members t + actions t)) (a : ℕ) (past : actions t ≤ a) where
  past_zero : (k : ℕ) → word t (action_at t a) k ≡ 0
  past_zero k = get_or-eq_default t 0 (omega arith)

  past_mask : (k : ℕ) → mask_in t (action_at t a) k ≡ 0
  past_mask k = rw (past_zero k, past_zero (k + 1))

  past_low : (k : ℕ) → LowWord t (action_at t a) k
  past_low k = rw (past_zero k) (pow_pos 64)

  zero-below : (x : ℕ) → x ≡ 0 → below (facts t) x ≡ true
  unfolding below
  zero-below x e = rw e (lt-ltb 0 (2 ^ facts t) (pow_pos (facts t)))

  past_fits : ActionFits t a
  unfolding within
  past_fits =
      record {
        pre-below = zero-below (pre t a) (past_mask 1);
        wait-below = zero-below (wait t a) (past_mask 3);
        add-below = zero-below (add t a) (past_mask 5);
        del-below = zero-below (del t a) (past_mask 7);
        pre-low = past_low 1;
        wait-low = past_low 3;
        add_low = past_low 5;
        del-low = past_low 7;
        wait-pre = rw (past_mask 3);
      }

pub accepted : (t : List ℕ) → check t ≡ 0 → Accepted t
unfolding check head_fits
accepted t h =
    let (r₁, h₁) = else_both (1 if ltb (length t) row_width) _ h in
    let (r₂, h₂) = else_both _ _ h₁ in
    let (r₃, h₃) = else_both _ _ h₂ in
    let (r₄, h₄) = else_both _ _ h₃ in
    let (goals, rows) = else_both _ _ h₄ in
    let (x, last) = and_elim _ (zeros_from t 0 5) (if_not-true 1 _ r₂) in
    let (y, few) = and_elim _ _ x in
    let (f, m) = and_elim _ _ y in
    let (f₁, f₂) = and_elim _ _ f in
    let (m₁, m₂) = and_elim _ _ m in
    let size = eqb-true _ _ (if_not-true 0 _ r₃) in
    let (low, below) = mask_fits_lem t 0 3 (if_not-true 3 _ r₄) in
    record {
      some-facts = leb-true _ _ f₁;
      few-facts = leb-true _ _ f₂;
      some-members = leb-true _ _ m₁;
      few-members = leb-true _ _ m₂;
      few-actions = leb-true _ _ few;
      size = size;
      head-zeros = last;
      initial-below = below;
      initial-low = low;
      goal-fits = λ i l. goal-row t i (up_to_refusal (goal_row t) _ goals i l);
      owner-member = λ a l. (action-row t a (up_to_refusal (action_row t) _ rows a l)).0;
      action-fits =
          λ a. ⊎_elim (λ l. (action-row t a (up_to_refusal (action_row t) _ rows a l)).1) (past_fits t size a)
          (lt-or_ge a (actions t));
    }

-- a mask that lacks a fact that is waited for lacks a precondition
wait-lacks : (t : List ℕ) → check t ≡ 0 → (a s : ℕ) → waits t a s ≡ true → within (pre t a) s ≡ false
wait-lacks t h a s w =
    not-true-false (within (pre t a) s)
    (λ e.
    let sub = within-sub (wait t a) (pre t a) ((accepted t h).action-fits a).wait-pre in
    let k = sub_within (wait t a) s (λ f m. within-sub (pre t a) s e f (sub f m)) in
    false≢true (sym (not-true _ w) ∙ k))

pub accepted-lawful : (t : List ℕ) → check t ≡ 0 → Lawful (system t) (waits t)
accepted-lawful t h =
    record {
      wait-lacks = λ a s w. able-within t a s ∙ wait-lacks t h a s w;
      owned = (accepted t h).owner-member;
      same-eq = eqb-true;
      same_refl = λ x. eq-eqb x x refl;
    }
