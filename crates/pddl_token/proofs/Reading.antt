-- The loops' invariants: from where a loop stands the same tokens are read as from where it began. Assumes nothing.
use mathlib.Core.Path.{◌≡◌, refl, sym, ◌∙◌}
use mathlib.Core.Bool.{Bool, true, false}
use mathlib.Core.List.{List, [], ◌∷◌, ◌++◌, map-append}
use Prim.Native.Nat.{ℕ, ◌+◌, ◌-◌, ◌≤◌, ◌<◌}
use native.Mathlib.Numerals.{add-one}
use native.Mathlib.Omega.{arith}
use lib.ListN.{length, take, drop, get_or, drop_of_length-le}
use lib.Seq.{slice_empty, drop-cons, take-suc, drop-append-le, length-take-le}
use borrow.Author.Tests.{ne_eqb}
use Rattle.semantics.specs.Pddl.{small, in_word, is_blank, Where, outer, comment, inner, tokens_from}
use Rattle.pddl_theory.specs.Inner.Place.{rest, span}
use Rattle.pddl_token.specs.Inner.Next.{LineEnd, Skipped, WordEnd, Next}
use Rattle.pddl_token.specs.declared.Token.TheVariants.{Open, Close, Word, End, Stray}
use Rattle.pddl_token.proofs.Bytes.{comment-on, comment-ends, blank_on, comment-begins}
use Rattle.pddl_token.proofs.Bytes.{first_opening, first-closing, first-stray, first_in_word}
use Rattle.pddl_token.proofs.Bytes.{word-goes-on, word-ends, end_none, end-comment, end-word}

-- the tokens from an offset within the text on, by its byte
pub byte-first : (p : Where) (text : List ℕ) (i : ℕ) → i < length text
    → tokens_from p (drop i text) ≡ tokens_from p (get_or text i 0 ∷ drop (i + 1) text)
byte-first p text i h = rw (add-one, drop-cons text i 0 h)

-- at the text's end no token is left
pub rest_end : (text : List ℕ) (at : ℕ) → length text ≤ at → rest text at ≡ []
rest_end text at h = rw (drop_of_length-le text h) end_none

-- ---- comments

pub record Noting (text : List ℕ) (at i : ℕ) : Type 0 where
  pub low : at ≤ i
  pub high : i ≤ length text
  pub same : tokens_from comment (drop at text) ≡ tokens_from comment (drop i text)

pub note_begin : (text : List ℕ) (at : ℕ) → at ≤ length text → Noting text at at
note_begin text at h = record { low = omega arith; high = h; same = refl }

module _ {text : List ℕ} {at i : ℕ} (s : Noting text at i) where
  module _ (h : i < length text) where
    pub note_onward : (get_or text i 0 ≡ 10 → ⊥) → Noting text at (i + 1)
    note_onward n =
        record {
          low = omega (arith, s.low);
          high = omega arith;
          same =
              s.same ∙ byte-first comment text i h
              ∙ comment-on (drop (i + 1) text) (get_or text i 0) (ne_eqb (get_or text i 0) 10 n);
        }

    pub note_out : get_or text i 0 ≡ 10 → LineEnd text at i
    note_out e =
        let bs : List ℕ = get_or text i 0 ∷ drop (i + 1) text in
        let f : tokens_from comment bs ≡ tokens_from outer bs = rw e (comment-ends (drop (i + 1) text)) in
        record {
          low = s.low;
          high = s.high;
          same = s.same ∙ byte-first comment text i h ∙ f ∙ sym (byte-first outer text i h);
        }

  pub note_end : length text ≤ i → LineEnd text at i
  note_end h =
      record { low = s.low; high = s.high; same = s.same ∙ rw (drop_of_length-le text h) end-comment }

-- ---- blanks and comments

pub record Skipping (text : List ℕ) (at i : ℕ) : Type 0 where
  pub low : at ≤ i
  pub high : i ≤ length text
  pub same : rest text at ≡ rest text i

pub skip-begin : (text : List ℕ) (at : ℕ) → at ≤ length text → Skipping text at at
skip-begin text at h = record { low = omega arith; high = h; same = refl }

module _ {text : List ℕ} {at i : ℕ} (s : Skipping text at i) where
  module _ (h : i < length text) where
    pub skip_note : get_or text i 0 ≡ 59 → (n : ℕ) → LineEnd text (i + 1) n → Skipping text at n
    skip_note e n l =
        record {
          low = omega (arith, s.low, l.low);
          high = l.high;
          same = s.same ∙ byte-first outer text i h ∙ rw e (comment-begins (drop (i + 1) text)) ∙ l.same;
        }

    pub skip-less : (n : ℕ) → LineEnd text (i + 1) n → length text - n < length text - i
    skip-less n l = omega (arith, l.low)

    module _ (t : Bool) (is : t ≡ is_blank (get_or text i 0)) where
      pub skip_blank : t ≡ true → Skipping text at (i + 1)
      skip_blank e =
          record {
            low = omega (arith, s.low);
            high = omega arith;
            same =
                s.same ∙ byte-first outer text i h ∙ blank_on (drop (i + 1) text) (get_or text i 0) (sym is ∙ e);
          }

      pub skip-out : (get_or text i 0 ≡ 59 → ⊥) → t ≡ false → Skipped text at i
      skip-out n e =
          record {
            low = s.low;
            high = s.high;
            same = s.same;
            no_blank = λ _. sym is ∙ e;
            no-comment = λ _. ne_eqb (get_or text i 0) 59 n;
          }

  pub skip-end : length text ≤ i → Skipped text at i
  skip-end h =
      record {
        low = s.low;
        high = s.high;
        same = s.same;
        no_blank = λ l. absurd (omega (arith, l));
        no-comment = λ l. absurd (omega (arith, l));
      }

-- ---- words

pub span-onward : (text : List ℕ) (s i : ℕ) → s ≤ i → i < length text
    → span text s (i + 1) ≡ span text s i ++ (small (get_or text i 0) ∷ [])
span-onward text s i h l =
    let n : length (take i text) ≡ i = length-take-le i text (omega arith) in
    let f : s ≤ length (take i text) = omega arith in
    rw (add-one, take-suc text i 0 l, drop-append-le s (take i text) (get_or text i 0 ∷ []) f, map-append)

pub span-one : (text : List ℕ) (f : ℕ) → f < length text → span text f (f + 1) ≡ small (get_or text f 0) ∷ []
span-one text f h = span-onward text f f (omega arith) h ∙ rw (slice_empty f text)

pub record Wording (text : List ℕ) (start at i : ℕ) : Type 0 where
  pub low : at ≤ i
  pub high : i ≤ length text
  pub same : tokens_from (inner (span text start at)) (drop at text)
      ≡ tokens_from (inner (span text start i)) (drop i text)

pub word-begin : (text : List ℕ) (start at : ℕ) → at ≤ length text → Wording text start at at
word-begin text start at h = record { low = omega arith; high = h; same = refl }

module _ {text : List ℕ} {start at i : ℕ} (s : Wording text start at i) (l : start ≤ at) where
  module _ (h : i < length text) (t : Bool) (is : t ≡ in_word (get_or text i 0)) where
    next-byte : tokens_from (inner (span text start i)) (drop i text)
        ≡ tokens_from (inner (span text start i)) (get_or text i 0 ∷ drop (i + 1) text)
    next-byte = byte-first (inner (span text start i)) text i h

    pub word-onward : t ≡ true → Wording text start at (i + 1)
    word-onward e =
        let f : start ≤ i = omega (arith, s.low) in
        let g = word-goes-on (drop (i + 1) text) (get_or text i 0) (span text start i) (sym is ∙ e) in
        record {
          low = omega (arith, s.low);
          high = omega arith;
          same = s.same ∙ next-byte ∙ (rw (span-onward text start i f h) g);
        }

    pub word_out : t ≡ false → WordEnd text start at i
    word_out e =
        let g = word-ends (drop (i + 1) text) (get_or text i 0) (span text start i) (sym is ∙ e) in
        record { low = s.low; high = s.high; same = s.same ∙ next-byte ∙ (rw (byte-first outer text i h) g) }

  pub word_end : length text ≤ i → WordEnd text start at i
  word_end h =
      record {
        low = s.low;
        high = s.high;
        same = s.same ∙ rw (drop_of_length-le text h) (end-word (span text start i));
      }

-- ---- the next token

pub next-end : (text : List ℕ) (at : ℕ) → length text ≤ at → Next text at End
next-end text at h = record { same = rest_end text at h; onward = tt }

module _ {text : List ℕ} {at f : ℕ} (s : Skipped text at f) where
  pub next-none : length text ≤ f → Next text at End
  next-none h = record { same = s.same ∙ rest_end text f h; onward = tt }

  module _ (h : f < length text) where
    first_byte : rest text at ≡ tokens_from outer (get_or text f 0 ∷ drop (f + 1) text)
    first_byte = s.same ∙ byte-first outer text f h

    pub next_open : get_or text f 0 ≡ 40 → Next text at (Open (f + 1))
    next_open e =
        record {
          same = first_byte ∙ rw e (first_opening (drop (f + 1) text));
          onward = (omega (arith, s.low), omega arith);
        }

    pub next_close : get_or text f 0 ≡ 41 → Next text at (Close (f + 1))
    next_close e =
        record {
          same = first_byte ∙ rw e (first-closing (drop (f + 1) text));
          onward = (omega (arith, s.low), omega arith);
        }

    module _ (t : Bool) (is : t ≡ in_word (get_or text f 0)) where
      pub next_word : {e : ℕ} → t ≡ true → WordEnd text f (f + 1) e → Next text at (Word f e)
      next_word l w =
          let g = first_in_word (drop (f + 1) text) (get_or text f 0) (sym is ∙ l) in
          record {
            same = first_byte ∙ (rw (span-one text f h) g) ∙ w.same;
            onward = (s.low, omega (arith, w.low), w.high);
          }

      pub next-stray : (get_or text f 0 ≡ 40 → ⊥) → (get_or text f 0 ≡ 41 → ⊥) → t ≡ false → Next text at Stray
      next-stray o c l =
          let b : ℕ = get_or text f 0 in
          record {
            same =
                first_byte
                ∙ first-stray (drop (f + 1) text) b (sym is ∙ l) (s.no_blank h) (s.no-comment h) (ne_eqb b 40 o)
                (ne_eqb b 41 c);
            onward = tt;
          }
