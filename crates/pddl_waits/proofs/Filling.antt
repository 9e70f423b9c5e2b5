-- Tables of masks: one fact more for an action. Assumes nothing.
use mathlib.Core.Path.{◌≡◌, refl, sym, ap, ap₂, subst, ◌∙◌}
use mathlib.Core.Bool.{Bool, true, false, cond, ◌||◌}
use mathlib.Core.List.{List, ◌∷◌}
use Prim.Native.Nat.{ℕ, ◌^◌, ◌≤◌, ◌<◌}
use native.Mathlib.Omega.{arith}
use lib.ListN.{length}
use lib.Bits.{bit_or, or_zero_l}
use lib.Dec.{eqb}
use borrow.Author.Tests.{eqb-true, eqb-false}
use Rattle.theory.proofs.Masks.{or-has, mask_ext}
use Rattle.semantics.specs.Mask.{has}
use Rattle.semantics.specs.Words.{states_in}
use Rattle.semantics.specs.Pddl.{wait_mask}
use Rattle.mask.specs.Inner.Stored.{mask_at, with_mask}
use Rattle.mask.proofs.Stored.{with-same, with-other, with-length}
use Rattle.pddl_theory.specs.Inner.Limits.{most_facts}
use Rattle.pddl_waits.specs.Inner.Waits.{AddedIn}

-- ---- masks

or_assoc : (x y z : ℕ) → bit_or (bit_or x y) z ≡ bit_or x (bit_or y z)
or_assoc x y z =
    mask_ext (bit_or (bit_or x y) z) (bit_or x (bit_or y z))
    (λ f. rw (or-has f (bit_or x y) z, or-has f x y, or-has f x (bit_or y z), or-has f y z)
    (go (has f x) (has f y) (has f z)))
  where
    go : (a b c : Bool) → ((a || b) || c) ≡ (a || (b || c))
    go true b c = refl
    go false b c = refl

-- the table's mask of b, where fact f is added to that of a, and the waits ws
pub added : (table : List ℕ) (a f b : ℕ) (ws : List ℕ) → a < states_in (length table)
    → bit_or (mask_at (with_mask table a (bit_or (mask_at table a) (2 ^ f))) b) (wait_mask b ws)
    ≡ bit_or (mask_at table b) (wait_mask b (a ∷ f ∷ ws))
unfolding wait_mask
added table a f b ws h = go (eqb a b) refl
  where
    more : ℕ
    more = bit_or (mask_at table a) (2 ^ f)

    go : (t : Bool) → eqb a b ≡ t
        → bit_or (mask_at (with_mask table a more) b) (wait_mask b ws)
        ≡ bit_or (mask_at table b) (bit_or (cond t (2 ^ f) 0) (wait_mask b ws))
    go true e =
        subst
        (λ (c : ℕ). bit_or (mask_at (with_mask table a more) c) (wait_mask b ws)
        ≡ bit_or (mask_at table c) (bit_or (2 ^ f) (wait_mask b ws)))
        (eqb-true a b e)
        (ap (λ (x : ℕ). bit_or x (wait_mask b ws)) (with-same table a more h)
        ∙ or_assoc (mask_at table a) (2 ^ f) (wait_mask b ws))
    go false e =
        ap₂ bit_or (with-other table a more b (λ g. eqb-false a b e (sym g))) (sym (or_zero_l (wait_mask b ws)))

-- ---- each way out of `add`

module _ (table : List ℕ) (a f : ℕ) where
  pub in_table : (after : List ℕ) (x m one : ℕ) → m ≡ mask_at table a → one ≡ 2 ^ f → x ≡ bit_or m one
      → after ≡ with_mask table a x → AddedIn table a f after
  in_table after x m one e k q p =
      record {
        size = ap length p ∙ with-length table a x;
        here = λ _ _. p ∙ ap (with_mask table a) (q ∙ ap₂ bit_or e k);
      }

  pub no-fact : most_facts ≤ f → AddedIn table a f table
  no-fact h = record { size = refl; here = λ _ g. absurd (omega (arith, h, g)) }

  pub no-action : (n : ℕ) → n ≡ states_in (length table) → n ≤ a → AddedIn table a f table
  no-action n e h = record { size = refl; here = λ g _. absurd (omega (arith, e, h, g)) }
