-- What a token says of the tokens from its offset on.
use mathlib.Core.Path.{◌≡◌, refl, sym, ◌∙◌}
use mathlib.Core.Bool.{Bool, true, false, cond, true≢false}
use mathlib.Core.List.{List}
use Prim.Native.Nat.{ℕ, ◌-◌, ◌≤◌, ◌<◌}
use native.Mathlib.Omega.{arith}
use lib.ListN.{length}
use Rattle.semantics.specs.Pddl as Pddl
use Rattle.semantics.specs.Pddl.{outside, is_name}
use Rattle.pddl_theory.specs.Inner.Place.{rest, span}
use Rattle.pddl_token.specs.Inner.Next.{Next}
use Rattle.pddl_token.specs.declared.Token.{Token}
use Rattle.pddl_token.specs.declared.Token.TheVariants as T
use Rattle.pddl_form.specs.Inner.Place.{behind_of, agreed, offset_of, Opens, Closes, Expects, Names, Atoms}
use Rattle.std.specs.Prelude.{Option}
use Rattle.std.specs.Prelude.{Some, None}
use Rattle.pddl_form.specs.declared.Word.{Word}

module _ {text : List ℕ} {n : ℕ} where
  pub opens_open : (m : ℕ) → Next text n (T.Open m) → Opens text n (Some m)
  unfolding Pddl.expect Pddl.same_token
  opens_open m x = record { same = rw x.same; onward = x.onward }

  pub opens_none : (t : Token) → Next text n t → ((m : ℕ) → t ≡ T.Open m → ⊥) → Opens text n None
  unfolding Pddl.expect Pddl.same_token
  opens_none (T.Open m) x h = absurd (h m refl)
  opens_none (T.Close m) x h = record { same = rw x.same; onward = tt }
  opens_none (T.Word s e) x h = record { same = rw x.same; onward = tt }
  opens_none T.End x h = record { same = rw x.same; onward = tt }
  opens_none T.Stray x h = record { same = rw x.same; onward = tt }

  pub closes_close : (m : ℕ) → Next text n (T.Close m) → Closes text n (Some m)
  unfolding Pddl.expect Pddl.same_token
  closes_close m x = record { same = rw x.same; onward = x.onward }

  pub closes_none : (t : Token) → Next text n t → ((m : ℕ) → t ≡ T.Close m → ⊥) → Closes text n None
  unfolding Pddl.expect Pddl.same_token
  closes_none (T.Open m) x h = record { same = rw x.same; onward = tt }
  closes_none (T.Close m) x h = absurd (h m refl)
  closes_none (T.Word s e) x h = record { same = rw x.same; onward = tt }
  closes_none T.End x h = record { same = rw x.same; onward = tt }
  closes_none T.Stray x h = record { same = rw x.same; onward = tt }

  pub no_word : (t : Token) → Next text n t → ((s e : ℕ) → t ≡ T.Word s e → ⊥) → Names text n None
  unfolding Pddl.name
  no_word (T.Open m) x h = record { same = rw x.same; onward = tt }
  no_word (T.Close m) x h = record { same = rw x.same; onward = tt }
  no_word (T.Word s e) x h = absurd (h s e refl)
  no_word T.End x h = record { same = rw x.same; onward = tt }
  no_word T.Stray x h = record { same = rw x.same; onward = tt }

  module _ (s e : ℕ) (x : Next text n (T.Word s e)) (b : Bool) (is : b ≡ is_name (span text s e)) where
    pub word-within : e ≤ length text
    word-within = x.onward.2

    pub named : b ≡ true → Names text n (Some (record { first = s; end = e; next = e }))
    unfolding Pddl.name
    named h =
        let k : is_name (span text s e) ≡ true = sym is ∙ h in
        record {
          same = rw (x.same, k);
          onward = (omega (arith, x.onward.0, x.onward.1), x.onward.2, x.onward.2);
        }

    pub unnamed : b ≡ false → Names text n None
    unfolding Pddl.name
    unnamed h =
        let k : is_name (span text s e) ≡ false = sym is ∙ h in
        record { same = rw (x.same, k); onward = tt }

-- ---- an atom

module _ {text : List ℕ} {at : ℕ} where
  pub no_opening : Opens text at None → Atoms text at None
  unfolding Pddl.atom
  no_opening o = record { same = rw (← o.same); onward = tt }

  module _ {n : ℕ} (o : Opens text at (Some n)) where
    pub no-name : Names text n None → Atoms text at None
    unfolding Pddl.atom
    no-name m = record { same = rw (← o.same, ← m.same); onward = tt }

    module _ {w : Word} (m : Names text n (Some w)) where
      pub no_closing : Closes text w.next None → Atoms text at None
      unfolding Pddl.atom
      no_closing c = record { same = rw (← o.same, ← m.same, ← c.same); onward = tt }

      pub an_atom : {z : ℕ} → Closes text w.next (Some z)
          → Atoms text at (Some (record { first = w.first; end = w.end; next = z }))
      unfolding Pddl.atom
      an_atom c =
          record {
            same = rw (← o.same, ← m.same, ← c.same);
            onward = (omega (arith, o.onward.0, m.onward.0, c.onward.0), c.onward.1, m.onward.2);
          }

-- ---- a pattern

expect-of : (text pattern : List ℕ) (i j : ℕ) (t w : Token) → Next text i t → Next pattern j w → (w ≡ T.End → ⊥)
    → Pddl.expect (rest pattern j) (rest text i)
    ≡ cond (agreed text t pattern w)
    (Pddl.expect (rest pattern (offset_of (behind_of w))) (rest text (offset_of (behind_of t)))) outside
unfolding Pddl.expect Pddl.same_token
expect-of text pattern i j (T.Open n) (T.Open m) x y h = rw (x.same, y.same)
expect-of text pattern i j (T.Close n) (T.Open m) x y h = rw (x.same, y.same)
expect-of text pattern i j (T.Word s e) (T.Open m) x y h = rw (x.same, y.same)
expect-of text pattern i j T.End (T.Open m) x y h = rw (x.same, y.same)
expect-of text pattern i j T.Stray (T.Open m) x y h = rw (x.same, y.same)
expect-of text pattern i j (T.Open n) (T.Close m) x y h = rw (x.same, y.same)
expect-of text pattern i j (T.Close n) (T.Close m) x y h = rw (x.same, y.same)
expect-of text pattern i j (T.Word s e) (T.Close m) x y h = rw (x.same, y.same)
expect-of text pattern i j T.End (T.Close m) x y h = rw (x.same, y.same)
expect-of text pattern i j T.Stray (T.Close m) x y h = rw (x.same, y.same)
expect-of text pattern i j (T.Open n) (T.Word a b) x y h = rw (x.same, y.same)
expect-of text pattern i j (T.Close n) (T.Word a b) x y h = rw (x.same, y.same)
expect-of text pattern i j (T.Word s e) (T.Word a b) x y h = rw (x.same, y.same)
expect-of text pattern i j T.End (T.Word a b) x y h = rw (x.same, y.same)
expect-of text pattern i j T.Stray (T.Word a b) x y h = rw (x.same, y.same)
expect-of text pattern i j t T.End x y h = absurd (h refl)
expect-of text pattern i j (T.Open n) T.Stray x y h = rw (x.same, y.same)
expect-of text pattern i j (T.Close n) T.Stray x y h = rw (x.same, y.same)
expect-of text pattern i j (T.Word s e) T.Stray x y h = rw (x.same, y.same)
expect-of text pattern i j T.End T.Stray x y h = rw (x.same, y.same)
expect-of text pattern i j T.Stray T.Stray x y h = rw (x.same, y.same)

-- what stands behind a token
pub behind-within : (text : List ℕ) (i : ℕ) (t : Token) → Next text i t → offset_of (behind_of t) ≤ length text
behind-within text i (T.Open n) x = x.onward.1
behind-within text i (T.Close n) x = x.onward.1
behind-within text i (T.Word s e) x = x.onward.2
behind-within text i T.End x = omega arith
behind-within text i T.Stray x = omega arith

agreed-onward : (text pattern : List ℕ) (i j : ℕ) (t w : Token) → Next text i t → Next pattern j w
    → agreed text t pattern w ≡ true → (i < offset_of (behind_of t)) × (j < offset_of (behind_of w))
agreed-onward text pattern i j (T.Open n) (T.Open m) x y h = (x.onward.0, y.onward.0)
agreed-onward text pattern i j (T.Close n) (T.Close m) x y h = (x.onward.0, y.onward.0)
agreed-onward text pattern i j (T.Word s e) (T.Word a b) x y h = (
  omega (arith, x.onward.0, x.onward.1),
  omega (arith, y.onward.0, y.onward.1),
)
agreed-onward text pattern i j (T.Close n) (T.Open m) x y h = absurd (true≢false (sym h))
agreed-onward text pattern i j (T.Word s e) (T.Open m) x y h = absurd (true≢false (sym h))
agreed-onward text pattern i j T.End (T.Open m) x y h = absurd (true≢false (sym h))
agreed-onward text pattern i j T.Stray (T.Open m) x y h = absurd (true≢false (sym h))
agreed-onward text pattern i j (T.Open n) (T.Close m) x y h = absurd (true≢false (sym h))
agreed-onward text pattern i j (T.Word s e) (T.Close m) x y h = absurd (true≢false (sym h))
agreed-onward text pattern i j T.End (T.Close m) x y h = absurd (true≢false (sym h))
agreed-onward text pattern i j T.Stray (T.Close m) x y h = absurd (true≢false (sym h))
agreed-onward text pattern i j (T.Open n) (T.Word a b) x y h = absurd (true≢false (sym h))
agreed-onward text pattern i j (T.Close n) (T.Word a b) x y h = absurd (true≢false (sym h))
agreed-onward text pattern i j T.End (T.Word a b) x y h = absurd (true≢false (sym h))
agreed-onward text pattern i j T.Stray (T.Word a b) x y h = absurd (true≢false (sym h))
agreed-onward text pattern i j t T.End x y h = absurd (true≢false (sym h))
agreed-onward text pattern i j t T.Stray x y h = absurd (true≢false (sym h))

-- up to i and j the text agrees with the pattern
pub record Expecting (text : List ℕ) (at : ℕ) (pattern : List ℕ) (i j : ℕ) : Type 0 where
  pub low : at ≤ i
  pub within : j ≤ length pattern
  pub whole : Pddl.expect (rest pattern 0) (rest text at) ≡ Pddl.expect (rest pattern j) (rest text i)

pub expecting_begin : (text : List ℕ) (at : ℕ) (pattern : List ℕ) → Expecting text at pattern at 0
expecting_begin text at pattern = record { low = omega arith; within = omega arith; whole = refl }

module _ {text : List ℕ} {at : ℕ} {pattern : List ℕ} {i j : ℕ} (g : Expecting text at pattern i j) where
  pub expecting_end : Next pattern j T.End → Expects text at pattern (Some i)
  unfolding Pddl.expect
  expecting_end y = record { same = sym (g.whole ∙ rw y.same); onward = g.low }

  module _ (w : Token) (y : Next pattern j w) (h : w ≡ T.End → ⊥) (t : Token) (x : Next text i t) (s : Bool)
      (same : s ≡ agreed text t pattern w) where
    turn : Pddl.expect (rest pattern 0) (rest text at)
        ≡ cond s (Pddl.expect (rest pattern (offset_of (behind_of w))) (rest text (offset_of (behind_of t)))) outside
    turn = g.whole ∙ expect-of text pattern i j t w x y h ∙ rw (← same)

    pub expecting_out : s ≡ false → Expects text at pattern None
    expecting_out k = record { same = sym (rw k at turn); onward = tt }

    module _ (k : s ≡ true) (p q : Option ℕ) (is-p : p ≡ behind_of t) (is-q : q ≡ behind_of w) where
      both-onward : (i < offset_of (behind_of t)) × (j < offset_of (behind_of w))
      both-onward = agreed-onward text pattern i j t w x y (sym same ∙ k)

      pub expecting_less : (m : ℕ) → m ≡ offset_of q → length pattern - m < length pattern - j
      expecting_less m em =
          let l : m ≤ length pattern = rw (em, is-q) (behind-within pattern j w y) in
          let h : j < m = rw (em, is-q) both-onward.1 in
          omega arith

      pub expecting_on : (n m : ℕ) → n ≡ offset_of p → m ≡ offset_of q → Expecting text at pattern n m
      expecting_on n m en em =
          rw (en, em, is-p, is-q)
          (record {
            low = omega (arith, both-onward.0, g.low);
            within = behind-within pattern j w y;
            whole = rw k at turn;
          })
