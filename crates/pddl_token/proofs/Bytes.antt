-- What a byte adds to the tokens, between tokens, in a comment and in a word. Assumes nothing.
use mathlib.Core.Path.{◌≡◌, refl}
use mathlib.Core.Bool.{true, false, ◌||◌}
use mathlib.Core.Logic.{⊎_elim}
use mathlib.Core.List.{List, [], ◌∷◌, ◌++◌}
use Prim.Native.Nat.{ℕ}
use lib.Dec.{eqb}
use borrow.Author.Tests.{eqb-true}
use Rattle.theory.proofs.Lists.{or_elim}
use Rattle.semantics.specs.Pddl.{opening, closing, word, stray, outer, comment, inner}
use Rattle.semantics.specs.Pddl.{small, in_word, is_blank, tokens_from}

module _ (bs : List ℕ) where
  -- a comment goes on, and ends at LF
  pub comment-on : (b : ℕ) → eqb b 10 ≡ false → tokens_from comment (b ∷ bs) ≡ tokens_from comment bs
  unfolding tokens_from
  comment-on b e = rw e

  pub comment-ends : tokens_from comment (10 ∷ bs) ≡ tokens_from outer (10 ∷ bs)
  unfolding tokens_from in_word is_blank
  comment-ends = refl

  -- a byte that no token has is passed over
  abbrev Passes : ℕ → Type 0
  Passes b = tokens_from outer (b ∷ bs) ≡ tokens_from outer bs

  passes_at : (n : ℕ) → Passes n → (b : ℕ) → eqb b n ≡ true → Passes b
  passes_at n p b e = let f : b ≡ n = eqb-true b n e in rw f p

  pub blank_on : (b : ℕ) → is_blank b ≡ true → Passes b
  unfolding tokens_from in_word is_blank
  blank_on b h =
      ⊎_elim (λ e. ⊎_elim (λ e. ⊎_elim
      (passes_at 32 refl b)
      (passes_at 9 refl b) (or_elim (eqb b 32) (eqb b 9) e))
      (passes_at 13 refl b) (or_elim (eqb b 32 || eqb b 9) (eqb b 13) e))
      (passes_at 10 refl b) (or_elim (eqb b 32 || eqb b 9 || eqb b 13) (eqb b 10) h)

  -- a comment begins
  pub comment-begins : tokens_from outer (59 ∷ bs) ≡ tokens_from comment bs
  unfolding tokens_from in_word is_blank
  comment-begins = refl

  pub first_opening : tokens_from outer (40 ∷ bs) ≡ opening ∷ tokens_from outer bs
  unfolding tokens_from in_word is_blank
  first_opening = refl

  pub first-closing : tokens_from outer (41 ∷ bs) ≡ closing ∷ tokens_from outer bs
  unfolding tokens_from in_word is_blank
  first-closing = refl

  module _ (b : ℕ) where
    pub first-stray : in_word b ≡ false → is_blank b ≡ false → eqb b 59 ≡ false → eqb b 40 ≡ false → eqb b 41 ≡ false
        → tokens_from outer (b ∷ bs) ≡ stray ∷ []
    unfolding tokens_from
    first-stray w l n o c = rw (w, l, n, o, c)

    -- a word begins, goes on, ends
    pub first_in_word : in_word b ≡ true → tokens_from outer (b ∷ bs) ≡ tokens_from (inner (small b ∷ [])) bs
    unfolding tokens_from
    first_in_word h = rw h

    pub word-goes-on : (w : List ℕ) → in_word b ≡ true
        → tokens_from (inner w) (b ∷ bs) ≡ tokens_from (inner (w ++ (small b ∷ []))) bs
    unfolding tokens_from
    word-goes-on w h = rw h

    pub word-ends : (w : List ℕ) → in_word b ≡ false → tokens_from (inner w) (b ∷ bs)
        ≡ word w ∷ tokens_from outer (b ∷ bs)
    unfolding tokens_from
    word-ends w h = rw h

-- the text's end
pub end_none : tokens_from outer [] ≡ []
unfolding tokens_from
end_none = refl

pub end-comment : tokens_from comment [] ≡ tokens_from outer []
unfolding tokens_from
end-comment = refl

pub end-word : (w : List ℕ) → tokens_from (inner w) [] ≡ word w ∷ tokens_from outer []
unfolding tokens_from
end-word w = refl
