-- The task check's ways out.
use mathlib.Core.Path.{◌≡◌, refl, sym, ◌∙◌}
use mathlib.Core.Bool.{Bool, true, false, not, ◌&&◌}
use mathlib.Core.List.{List}
use Prim.Native.Nat.{ℕ, ◌+◌, ◌-◌, ◌*◌, ◌^◌, ◌≤◌, ◌<◌}
use native.Mathlib.Omega.{arith}
use lib.ListN.{length, get_or}
use lib.Dec.{eqb, leb}
use borrow.Author.Tests.{lt-ltb, le-ltb, le-leb, lt-leb, eq-eqb, ne_eqb, leb-true, eqb-true, not-true, not-false}
use Rattle.semantics.specs.Base.{up_to, all_of, ◌if◌}
use Rattle.semantics.specs.Mask.{within, below}
use Rattle.semantics.specs.Task.{row_width, word, mask_in, facts, members, actions, action_at, owner, pre, wait, between}
use Rattle.semantics.specs.Task.{zeros_from, mask_fits, head_fits, goal_row, action_row, check}
use Rattle.theory.proofs.Lists.{and_elim}
use Rattle.theory.proofs.Loops.{Rest, rest-begin, all-fails, all-onward, all-ends}
use Rattle.task.specs.Inner.Shape.{Sized, masks_below, rows_refusal}

and_right : (a b : Bool) → b ≡ false → (a && b) ≡ false
and_right true b h = h
and_right false b h = refl

-- ---- words and masks that are read

abbrev zero_at : List ℕ → ℕ → ℕ → ℕ → Bool
zero_at t r k j = eqb (word t r (k + j)) 0

-- of the words of row r from word k on, the first j are passed over
pub record Zeros (t : List ℕ) (r k j : ℕ) : Type 0 where
  pub rest : Rest (all_of (zero_at t r k)) (up_to (row_width - k)) j

-- the words of a slice are words
pub below-is : (t : List ℕ) (r k m : ℕ) (b : Bool) → ((j : ℕ) → get_or t j 0 < 2 ^ 64) → m ≡ mask_in t r k
    → b ≡ below (facts t) m → b ≡ mask_fits t r k
below-is t r k m b w e q = rw (lt-ltb (word t r k) (2 ^ 64) (w (row_width * r + k)), ← e) q

pub within-is : (x y m n : ℕ) (b : Bool) → m ≡ x → n ≡ y → b ≡ within m n → b ≡ within x y
within-is x y m n b e e₁ k = rw (← e, ← e₁) k

-- a row's number told otherwise
module _ (t : List ℕ) (r s k : ℕ) (e : r ≡ s) where
  pub word_row : (w : ℕ) → w ≡ word t r k → w ≡ word t s k
  word_row w h = rw (← e) h

  pub mask-row : (m : ℕ) → m ≡ mask_in t r k → m ≡ mask_in t s k
  mask-row m h = rw (← e) h

  pub fits-row : (b : Bool) → b ≡ mask_fits t r k → b ≡ mask_fits t s k
  fits-row b h = rw (← e) h

-- the words from k on that are zero
module _ (t : List ℕ) (r k n j : ℕ) (e : n ≡ row_width - k) (l : Zeros t r k j) where
  module _ (w : ℕ) (h : j < n) (q : w ≡ word t r (k + j)) where
    pub zeros_fail : (w ≡ 0 → ⊥) → false ≡ zeros_from t r k
    zeros_fail z =
        sym (all-fails (zero_at t r k) (row_width - k) j l.rest (omega arith)
        (ne_eqb (word t r (k + j)) 0 (λ x. z (q ∙ x))))

    pub zeros-onward : w ≡ 0 → Zeros t r k (j + 1)
    zeros-onward z =
        record {
          rest =
              all-onward (zero_at t r k) (row_width - k) j l.rest (omega arith)
              (eq-eqb (word t r (k + j)) 0 (sym q ∙ z));
        }

  pub zeros-end : n ≤ j → true ≡ zeros_from t r k
  zeros-end h = sym (all-ends (zero_at t r k) (row_width - k) j l.rest (omega arith))

pub zeros-begin : (t : List ℕ) (r k : ℕ) → Zeros t r k 0
zeros-begin t r k = record { rest = rest-begin (all_of (zero_at t r k)) (up_to (row_width - k)) }

-- ---- row 0

module _ (t : List ℕ) where
  pub no-facts : facts t < 1 → false ≡ head_fits t
  unfolding head_fits
  no-facts h = simp (lt-leb 1 (facts t) h)

  pub many-facts : 1 ≤ facts t → 128 < facts t → false ≡ head_fits t
  unfolding head_fits
  many-facts h k = simp (le-leb 1 (facts t) h, lt-leb (facts t) 128 k)

  pub no-members : members t < 1 → false ≡ head_fits t
  unfolding head_fits
  no-members h =
      let e : leb 1 (members t) ≡ false = lt-leb 1 (members t) h in
      let e₁ = and_right (between 1 (facts t) 128) (leb 1 (members t) && leb (members t) 8) (rw e) in
      rw e₁

  pub many-members : 8 < members t → false ≡ head_fits t
  unfolding head_fits
  many-members h =
      let e : leb (members t) 8 ≡ false = lt-leb (members t) 8 h in
      let e₁ = and_right (between 1 (facts t) 128) (leb 1 (members t) && leb (members t) 8)
      (and_right (leb 1 (members t)) (leb (members t) 8) e) in
      rw e₁

  pub many-actions : 256 < actions t → false ≡ head_fits t
  unfolding head_fits
  many-actions h =
      let e = and_right (between 1 (facts t) 128 && between 1 (members t) 8) (leb (actions t) 256)
      (lt-leb (actions t) 256 h) in
      rw e

  pub head-last : 1 ≤ facts t → facts t ≤ 128 → 1 ≤ members t → members t ≤ 8 → actions t ≤ 256
      → (z : Bool) → z ≡ zeros_from t 0 5 → z ≡ head_fits t
  unfolding head_fits
  head-last a b c d e z q =
      rw (
        le-leb 1 (facts t) a,
        le-leb (facts t) 128 b,
        le-leb 1 (members t) c,
        le-leb (members t) 8 d,
        le-leb (actions t) 256 e,
        ← q,
      )

  pub head_bounds : head_fits t ≡ true → (members t ≤ 8) × (actions t ≤ 256)
  unfolding head_fits
  head_bounds h =
      let (x, last) = and_elim _ (zeros_from t 0 5) h in
      let (y, few) = and_elim _ _ x in
      let (f, m) = and_elim (between 1 (facts t) 128) (between 1 (members t) 8) y in
      let (m₁, m₂) = and_elim (leb 1 (members t)) (leb (members t) 8) m in
      (leb-true _ _ m₂, leb-true _ _ few)

  pub head-is : (f : Bool) → f ≡ head_fits t → not f ≡ false → head_fits t ≡ true
  head-is f e h = sym e ∙ not-false f h

  pub sized-is : (s : Bool) → s ≡ eqb (length t) (row_width * (1 + members t + actions t)) → not s ≡ false → Sized t
  sized-is s e h = eqb-true (length t) (row_width * (1 + members t + actions t)) (sym e ∙ not-false s h)

-- ---- a goal row

module _ (t : List ℕ) (i w : ℕ) (e : w ≡ word t (1 + i) 0) where
  pub wrong_member : (w ≡ i → ⊥) → 3 ≡ goal_row t i
  unfolding goal_row
  wrong_member h = rw (ne_eqb (word t (1 + i) 0) i (λ k. h (e ∙ k)))

  module _ (h : w ≡ i) (z : Bool) (q : z ≡ zeros_from t (1 + i) 3) where
    pub wrong_zeros : not z ≡ true → 3 ≡ goal_row t i
    unfolding goal_row
    wrong_zeros k = rw (eq-eqb (word t (1 + i) 0) i (sym e ∙ h), ← q, not-true z k)

    module _ (k : not z ≡ false) (b : Bool) (p : b ≡ mask_fits t (1 + i) 1) where
      shaped : goal_row t i ≡ 4 if not b
      unfolding goal_row
      shaped = rw (eq-eqb (word t (1 + i) 0) i (sym e ∙ h), ← q, not-false z k, ← p)

      pub goal_above : not b ≡ true → 4 ≡ goal_row t i
      goal_above l = rw (shaped, l)

      pub goal-right : not b ≡ false → 0 ≡ goal_row t i
      goal-right l = rw (shaped, l)

-- ---- an action row

module _ (t : List ℕ) (a : ℕ) where
  module _ (b : Bool) where
    pub pre_above : b ≡ mask_fits t (action_at t a) 1 → not b ≡ true → false ≡ masks_below t a
    unfolding masks_below
    pre_above e h = rw (← e, not-true b h)

    pub wait_above : b ≡ mask_fits t (action_at t a) 3 → not b ≡ true → false ≡ masks_below t a
    unfolding masks_below
    wait_above e h =
        rw (and_right (mask_fits t (action_at t a) 1) (mask_fits t (action_at t a) 3) (sym e ∙ not-true b h))

    pub add_above : b ≡ mask_fits t (action_at t a) 5 → not b ≡ true → false ≡ masks_below t a
    unfolding masks_below
    add_above e h =
        rw (and_right (mask_fits t (action_at t a) 1 && mask_fits t (action_at t a) 3) (mask_fits t (action_at t a) 5)
        (sym e ∙ not-true b h))

  module _ (p w d c : Bool) where
    pub masks-last : p ≡ mask_fits t (action_at t a) 1 → not p ≡ false → w ≡ mask_fits t (action_at t a) 3 → not w ≡ false
        → d ≡ mask_fits t (action_at t a) 5 → not d ≡ false → c ≡ mask_fits t (action_at t a) 7 → c ≡ masks_below t a
    unfolding masks_below
    masks-last e₁ h₁ e₂ h₂ e₃ h₃ e₄ = rw (← e₁, ← e₂, ← e₃, ← e₄, not-false p h₁, not-false w h₂, not-false d h₃)

  module _ (o n : ℕ) (e : o ≡ owner t a) (k : n ≡ members t) where
    pub no-owner : n ≤ o → 5 ≡ action_row t a
    unfolding action_row
    no-owner h = let l : members t ≤ owner t a = omega arith in rw (le-ltb (owner t a) (members t) l)

    module _ (h : o < n) (m : Bool) (e₁ : m ≡ masks_below t a) where
      pub masks_above : not m ≡ true → 4 ≡ action_row t a
      unfolding action_row masks_below
      masks_above h₁ =
          let l : owner t a < members t = omega arith in
          rw (lt-ltb (owner t a) (members t) l, sym e₁ ∙ not-true m h₁)

      module _ (h₁ : not m ≡ false) (w : Bool) (e₂ : w ≡ within (wait t a) (pre t a)) where
        pub wait-outside : not w ≡ true → 6 ≡ action_row t a
        unfolding action_row masks_below
        wait-outside h₂ =
            let l : owner t a < members t = omega arith in
            rw (lt-ltb (owner t a) (members t) l, sym e₁ ∙ not-false m h₁, ← e₂, not-true w h₂)

        pub action-right : not w ≡ false → 0 ≡ action_row t a
        unfolding action_row masks_below
        action-right h₂ =
            let l : owner t a < members t = omega arith in
            rw (lt-ltb (owner t a) (members t) l, sym e₁ ∙ not-false m h₁, ← e₂, not-false w h₂)

-- ---- the whole check

module _ (t : List ℕ) where
  pub check-short : length t < row_width → 1 ≡ check t
  unfolding check
  check-short h = rw (lt-ltb (length t) row_width h)

  module _ (h : row_width ≤ length t) (f : Bool) (e : f ≡ head_fits t) where
    pub check-head : not f ≡ true → 2 ≡ check t
    unfolding check
    check-head k = rw (le-ltb (length t) row_width h, ← e, not-true f k)

    module _ (k : not f ≡ false) (s : Bool) (e₁ : s ≡ eqb (length t) (row_width * (1 + members t + actions t))) where
      pub check-size : not s ≡ true → 1 ≡ check t
      unfolding check
      check-size k₁ = rw (le-ltb (length t) row_width h, ← e, not-false f k, ← e₁, not-true s k₁)

      module _ (k₁ : not s ≡ false) (b : Bool) (e₂ : b ≡ mask_fits t 0 3) where
        pub check-initial : not b ≡ true → 4 ≡ check t
        unfolding check
        check-initial k₂ =
            rw (le-ltb (length t) row_width h, ← e, not-false f k, ← e₁, not-false s k₁, ← e₂, not-true b k₂)

        pub check-rows : not b ≡ false → (r : ℕ) → r ≡ rows_refusal t → r ≡ check t
        unfolding check
        check-rows k₂ r e₃ =
            rw (le-ltb (length t) row_width h, ← e, not-false f k, ← e₁, not-false s k₁, ← e₂, not-false b k₂) e₃
