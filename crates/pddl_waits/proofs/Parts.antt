-- A text in two parts, of which the first ends in CR LF: its records and words are theirs. A limit on the records that
-- is no less than the text's length refuses none. Assumes nothing.
use mathlib.Core.Path.{◌≡◌, refl, sym, ap, ◌∙◌}
use mathlib.Core.Bool.{Bool, true, false, cond, ◌&&◌}
use mathlib.Core.List.{List, [], ◌∷◌, ◌++◌, map, flatten, append_assoc}
use Prim.Native.Nat.{ℕ, ◌≤◌}
use native.Mathlib.Omega.{arith}
use lib.ListN.{length}
use lib.Dec.{eqb, leb}
use borrow.Author.Tests.{leb-true}
use Rattle.theory.proofs.Lists.{true-not-false}
use Rattle.semantics.specs.Base.{all_of}
use Rattle.semantics.specs.Text.{cr, lf, records_from, records, fields, number, is_record, is_text, text_words}
use Rattle.text.proofs.Lists.{and-false, and_left, and_right, all_append, records-line, words_of, text-good}
use Rattle.text.proofs.Longest.{any-number}

-- ---- records

-- an empty text
pub sound_none : (w : ℕ) → all_of (is_record w) (records []) ≡ true
unfolding all_of records_from
sound_none w = refl

pub words-none : text_words [] ≡ []
unfolding text_words records_from flatten
words-none = refl

-- a list ends in e
pub record Ends (xs e : List ℕ) : Type 0 where
  pub front : List ℕ
  pub is : xs ≡ front ++ e

abbrev line : List ℕ
line = cr ∷ lf ∷ []

cond-parts : (c : Bool) (p : List ℕ) (xs ys xs' ys' more : List (List ℕ)) → xs ≡ xs' ++ more → ys ≡ ys' ++ more
    → cond c (p ∷ xs) ys ≡ cond c (p ∷ xs') ys' ++ more
cond-parts true p xs ys xs' ys' more e g = ap (λ (rs : List (List ℕ)). p ∷ rs) e
cond-parts false p xs ys xs' ys' more e g = g

line-parts : (xs p t : List ℕ) → records_from p (xs ++ (cr ∷ lf ∷ t)) ≡ records_from p (xs ++ line) ++ records_from [] t
unfolding records_from
line-parts [] p t = records-line p t ∙ ap (λ (rs : List (List ℕ)). rs ++ records_from [] t) (sym (records-line p []))
line-parts (b ∷ []) [] t = rw (and-false (eqb b cr)) (line-parts [] (b ∷ []) t)
line-parts (b ∷ []) (c ∷ p) t = rw (and-false (eqb b cr)) (line-parts [] (c ∷ (p ++ (b ∷ []))) t)
line-parts (b ∷ d ∷ xs) [] t =
    cond-parts (eqb b cr && eqb d lf) [] _ _ _ _ (records_from [] t)
    (line-parts xs [] t) (line-parts (d ∷ xs) (b ∷ []) t)
line-parts (b ∷ d ∷ xs) (c ∷ p) t =
    cond-parts (eqb b cr && eqb d lf) (c ∷ p) _ _ _ _ (records_from [] t)
    (line-parts xs [] t) (line-parts (d ∷ xs) (c ∷ (p ++ (b ∷ []))) t)

words_append : (rs ss : List (List ℕ)) → words_of (rs ++ ss) ≡ words_of rs ++ words_of ss
unfolding flatten
words_append [] ss = refl
words_append (r ∷ rs) ss =
    ap (λ (ws : List ℕ). map number (fields r) ++ ws) (words_append rs ss)
    ∙ sym (append_assoc (map number (fields r)) (words_of rs) (words_of ss))

module _ (xs t : List ℕ) (e : Ends xs (cr ∷ lf ∷ [])) where
  records-parts : records (xs ++ t) ≡ records xs ++ records t
  records-parts =
      ap (λ (ys : List ℕ). records (ys ++ t)) e.is
      ∙ ap records (append_assoc e.front line t)
      ∙ line-parts e.front [] t
      ∙ ap (λ (ys : List ℕ). records ys ++ records t) (sym e.is)

  pub sound-parts : (w : ℕ) → all_of (is_record w) (records xs) ≡ true
      → all_of (is_record w) (records (xs ++ t)) ≡ all_of (is_record w) (records t)
  sound-parts w h =
      ap (all_of (is_record w)) records-parts ∙ all_append (is_record w) (records xs) (records t) ∙ rw h

  pub words-parts : text_words (xs ++ t) ≡ text_words xs ++ text_words t
  unfolding text_words
  words-parts = ap words_of records-parts ∙ words_append (records xs) (records t)

-- ---- the limit

module _ (w n : ℕ) (text : List ℕ) where
  pub text-sound : is_text w n text ≡ true → all_of (is_record w) (records text) ≡ true
  unfolding is_text
  text-sound h = and_right (leb (length (records text)) n) (all_of (is_record w) (records text)) h

  pub text_unsound : length text ≤ n → is_text w n text ≡ false → all_of (is_record w) (records text) ≡ false
  unfolding is_text
  text_unsound l h = go (all_of (is_record w) (records text)) refl
    where
      go : (b : Bool) → all_of (is_record w) (records text) ≡ b → b ≡ false
      go true g =
          let m : length (records text) ≤ length text =
          leb-true (length (records text)) (length text)
          (and_left (leb (length (records text)) (length text)) (all_of (is_record w) (records text))
          (any-number w text ∙ g)) in
          absurd (true-not-false (text-good w n text (omega arith) g) h)
      go false g = refl
