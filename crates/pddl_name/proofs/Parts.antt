-- Parts of texts in small letters: byte by byte, and the loops over them.
use mathlib.Core.Path.{◌≡◌, refl, sym, ap, ◌∙◌}
use mathlib.Core.Bool.{Bool, true, false, not, ◌&&◌}
use mathlib.Core.List.{List, [], ◌∷◌}
use Prim.Native.Nat.{ℕ, ◌+◌, ◌-◌, ◌≤◌, ◌<◌}
use native.Mathlib.Nat.{add-zero}
use native.Mathlib.Numerals.{add-one}
use native.Mathlib.Omega.{arith}
use lib.ListN.{length, take, get_or, length-map, get_or-map, drop_of_length-le, length-take}
use lib.Dec.{eqb, leb}
use lib.Seq.{slice, slice-cons, length-slice, get_or-take, get_or-drop}
use borrow.Author.Tests.{eq-eqb, ne_eqb, leb-true, leb-false, le-leb, lt-leb}
use Rattle.std.specs.Char.{LowercasesTo}
use Rattle.std.specs.Int.{IsInRange, IsOutOfRange}
use mathlib.Core.Logic.{⊎_elim}
use Rattle.semantics.specs.Base.{all_of}
use Rattle.semantics.specs.Pddl.{small, same, is_letter, is_name, and', not'}
use Rattle.theory.proofs.Lists.{not-true-false}
use Rattle.pddl_theory.specs.Inner.Place.{span}
use Rattle.pddl_theory.proofs.Sets.{same-eq}

pub lowered : (b r : ℕ) → LowercasesTo b r → r ≡ small b
unfolding small
lowered b r h =
    ⊎_elim
    (λ (p : IsInRange 65 90 b × (r ≡ b + 32)).
    p.1 ∙ rw (le-leb 65 b (omega (arith, p.0)), le-leb b 90 (omega (arith, p.0))))
    (λ (p : IsOutOfRange 65 90 b × (r ≡ b)).
    p.1
    ∙ ⊎_elim (λ (l : b < 65). rw (lt-leb 65 b l)) (λ (l : 90 < b). rw (le-leb 65 b (omega arith), lt-leb b 90 l)) p.0)
    h

pub span_nil : (text : List ℕ) (i e : ℕ) → e ≤ i → span text i e ≡ []
span_nil text i e h =
    let l : length (take e text) ≤ i = omega (arith, length-take e text) in
    rw (drop_of_length-le (take e text) l)

pub span-cons : (text : List ℕ) (i e : ℕ) → i < e → e ≤ length text
    → span text i e ≡ small (get_or text i 0) ∷ span text (i + 1) e
span-cons text i e h l = rw (add-one, slice-cons i e text 0 h l)

-- ---- two parts

end_test : (text : List ℕ) (j u : ℕ) → u ≤ length text → (t : Bool) → leb u j ≡ t → t ≡ same [] (span text j u)
unfolding same
end_test text j u l true q = rw (span_nil text j u (leb-true u j q))
end_test text j u l false q = rw (span-cons text j u (leb-false u j q) l)

-- the two parts agree in their first i bytes
pub record Agree (text : List ℕ) (s e : ℕ) (other : List ℕ) (t u i : ℕ) : Type 0 where
  pub whole : same (span text s e) (span other t u) ≡ same (span text (s + i) e) (span other (t + i) u)

pub agree-begin : (text : List ℕ) (s e : ℕ) (other : List ℕ) (t u : ℕ) → Agree text s e other t u 0
agree-begin text s e other t u = record { whole = rw (add-zero s, add-zero t) }

module _ {text : List ℕ} {s e : ℕ} {other : List ℕ} {t u i : ℕ} (g : Agree text s e other t u i) (le : e ≤ length text)
    (lu : u ≤ length other) (same-long : e - s ≡ u - t) where
  module _ (h : i < e - s) (a b : ℕ) (is-a : a ≡ small (get_or text (s + i) 0))
      (is_b : b ≡ small (get_or other (t + i) 0)) where
    both : same (span text s e) (span other t u)
        ≡ (eqb a b && same (span text (s + i + 1) e) (span other (t + i + 1) u))
    unfolding same
    both =
        let hi : s + i < e = omega arith in
        let hj : t + i < u = omega arith in
        rw (g.whole, span-cons text (s + i) e hi le, span-cons other (t + i) u hj lu, is-a, is_b)

    pub differ : (a ≡ b → ⊥) → false ≡ same (span text s e) (span other t u)
    differ n = rw (both, ne_eqb a b n)

    pub agree_on : a ≡ b → Agree text s e other t u (i + 1)
    agree_on q =
        let l : s + (i + 1) ≡ s + i + 1 = omega arith in
        let m : t + (i + 1) ≡ t + i + 1 = omega arith in
        record { whole = rw (both, eq-eqb a b q, l, m) }

  pub agree-end : e - s ≤ i → true ≡ same (span text s e) (span other t u)
  unfolding same
  agree-end h =
      let hi : e ≤ s + i = omega arith in
      let hj : u ≤ t + i = omega arith in
      rw (g.whole, span_nil text (s + i) e hi, span_nil other (t + i) u hj)

-- parts are told apart by their lengths, or by their last bytes

span-length : (text : List ℕ) (s e : ℕ) → e ≤ length text → length (span text s e) ≡ e - s
span-length text s e l = length-map (slice s e text) small ∙ length-slice s e text l

span_last : (text : List ℕ) (s e : ℕ) → s < e → get_or (span text s e) (e - s - 1) (small 0)
    ≡ small (get_or text (e - 1) 0)
span_last text s e h =
    let k : s + (e - s - 1) ≡ e - 1 = omega arith in
    let l : e - 1 < e = omega arith in
    get_or-map small (slice s e text) (e - s - 1) 0
    ∙ ap small (get_or-drop s (take e text) (e - s - 1) 0 ∙ rw k (get_or-take e text (e - 1) 0 l))

module _ (text : List ℕ) (s e : ℕ) (other : List ℕ) (t u : ℕ) where
  apart_by : (same (span text s e) (span other t u) ≡ true → ⊥) → false ≡ same (span text s e) (span other t u)
  apart_by n = sym (not-true-false (same (span text s e) (span other t u)) n)

  -- the first part is empty, or only the second is
  pub none_here : e ≤ s → u ≤ length other → leb u t ≡ same (span text s e) (span other t u)
  none_here h l = rw (span_nil text s e h) (end_test other t u l (leb u t) refl)

  module _ (h : s < e) (le : e ≤ length text) where
    pub none-there : u ≤ t → false ≡ same (span text s e) (span other t u)
    unfolding same
    none-there k = rw (span_nil other t u k, span-cons text s e h le)

    module _ (k : t < u) (lu : u ≤ length other) where
      pub lengths_differ : (e - s ≡ u - t → ⊥) → false ≡ same (span text s e) (span other t u)
      lengths_differ n = apart_by λ q.
          n (sym (span-length text s e le) ∙ ap length (same-eq (span text s e) (span other t u) q)
          ∙ span-length other t u lu)

      pub lasts_differ : e - s ≡ u - t → (a b : ℕ) → a ≡ small (get_or text (e - 1) 0)
          → b ≡ small (get_or other (u - 1) 0)
          → (a ≡ b → ⊥) → false ≡ same (span text s e) (span other t u)
      lasts_differ p a b is-a is_b n = apart_by λ q.
          let i : e - s - 1 ≡ u - t - 1 = omega arith in
          n (is-a ∙ sym (span_last text s e h)
          ∙ ap (λ (w : List ℕ). get_or w (e - s - 1) (small 0)) (same-eq (span text s e) (span other t u) q)
          ∙ ap (λ (j : ℕ). get_or (span other t u) j (small 0)) i
          ∙ span_last other t u k ∙ sym is_b)

-- ---- a part without a colon

abbrev pub no_colon : ℕ → Bool
no_colon c = not (eqb c 58)

pub record Plain (text : List ℕ) (s e i : ℕ) : Type 0 where
  pub whole : all_of no_colon (span text s e) ≡ all_of no_colon (span text i e)

pub plain-begin : (text : List ℕ) (s e : ℕ) → Plain text s e s
plain-begin text s e = record { whole = refl }

module _ {text : List ℕ} {s e i : ℕ} (g : Plain text s e i) where
  module _ (hi : i < e) (le : e ≤ length text) (a : ℕ) (is-a : a ≡ small (get_or text i 0)) where
    plain_turn : all_of no_colon (span text s e) ≡ (no_colon a && all_of no_colon (span text (i + 1) e))
    unfolding all_of
    plain_turn = rw (g.whole, span-cons text i e hi le, is-a)

    pub colon : a ≡ 58 → false ≡ all_of no_colon (span text s e)
    colon q = rw (plain_turn, q)

    pub plain-on : (a ≡ 58 → ⊥) → Plain text s e (i + 1)
    plain-on n = record { whole = rw (plain_turn, ne_eqb a 58 n) }

  pub plain_end : e ≤ i → true ≡ all_of no_colon (span text s e)
  unfolding all_of
  plain_end h = rw (g.whole, span_nil text i e h)

-- ---- names

pub no_name : (text : List ℕ) (s e : ℕ) → e ≤ s → false ≡ is_name (span text s e)
unfolding is_name
no_name text s e h = rw (span_nil text s e h)

and-spelt : span and' 0 3 ≡ and'
unfolding small
and-spelt = refl

not-spelt : span not' 0 3 ≡ not'
unfolding small
not-spelt = refl

pub is_name_lem : (text : List ℕ) (s e : ℕ) → s < e → e ≤ length text → (x : ℕ) (a b c d : Bool)
    → x ≡ small (get_or text s 0) → a ≡ is_letter x → b ≡ all_of no_colon (span text (s + 1) e)
    → c ≡ same (span text s e) (span and' 0 3) → d ≡ same (span text s e) (span not' 0 3)
    → (((a && b) && not c) && not d) ≡ is_name (span text s e)
unfolding is_name
is_name_lem text s e h l x a b c d is_x is-a is_b is_c is-d =
    rw (is-a, is_x, is_b, is_c, is-d, and-spelt, not-spelt, span-cons text s e h l)
