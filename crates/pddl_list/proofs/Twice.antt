-- The loop that looks for each name of a table among those behind it.
use mathlib.Core.Path.{◌≡◌, sym}
use mathlib.Core.Bool.{Bool, true, false}
use mathlib.Core.List.{List}
use Prim.Native.Nat.{ℕ, ◌+◌, ◌-◌, ◌≤◌, ◌<◌}
use native.Mathlib.Omega.{arith}
use lib.ListN.{length, take, drop, get_or, length-drop}
use lib.Seq.{take_all}
use Rattle.std.proofs.lemmas.List.Elements.{All-drop}
use Rattle.std.specs.Prelude.{Option, Some, None, is_some}
use Rattle.semantics.specs.Pddl.{is_in, none_twice}
use Rattle.pddl_theory.proofs.Turns.{Asked, asked-begin, twice_found, twice-on, twice-end}
use Rattle.pddl_name.specs.declared.Span.{Span}
use Rattle.pddl_name.specs.Inner.Table.{names_in, Spans, Looked}
use Rattle.pddl_name.proofs.Looking.{named, names-next, names-none}

abbrev pub Asking : List ℕ → List Span → ℕ → Type 0
Asking text spans k = Asked none_twice (λ j. names_in text (drop j spans)) 0 k

pub asking_begin : (text : List ℕ) (spans : List Span) → Asking text spans 0
asking_begin text spans = asked-begin none_twice (λ j. names_in text (drop j spans)) 0

-- the part of a table from k on
abbrev pub part : ℕ → List Span → List Span
part k spans = take (length spans - k) (drop k spans)

part-is : (k : ℕ) (spans : List Span) → part k spans ≡ drop k spans
part-is k spans = take_all (length spans - k) (drop k spans) (omega (arith, length-drop k spans))

-- it lies in the text too
pub part_in : (most : ℕ) (spans : List Span) (k : ℕ) → Spans most spans → Spans most (part k spans)
part_in most spans k s = rw (part-is k spans) record { below = All-drop (λ p. p.end ≤ most) k spans s.below }

-- a look says whether the word is there
there : (names : List (List ℕ)) (w : List ℕ) (f : Option ℕ) → Looked names w f → is_some f ≡ is_in names w
there names w (Some k) l = sym l.there
there names w None l = sym l.not_there

module _ {text : List ℕ} {spans : List Span} {k : ℕ} (g : Asking text spans k) where
  module _ (h : k < length spans) (d : Span) (f : Option ℕ)
      (l : Looked (names_in text (part (k + 1) spans)) (named text (get_or spans k d)) f) (b : Bool)
      (is : b ≡ is_some f) where
    found : b ≡ is_in (names_in text (drop (k + 1) spans)) (named text (get_or spans k d))
    found =
        rw (part-is (k + 1) spans) at
        rw (there (names_in text (part (k + 1) spans)) (named text (get_or spans k d)) f l) at is

    pub asking_found : b ≡ true → false ≡ none_twice (names_in text spans)
    asking_found e = twice_found g (k + 1) (names-next text spans k h d) b found e

    pub asking_on : b ≡ false → Asking text spans (k + 1)
    asking_on e = twice-on g (k + 1) (names-next text spans k h d) b found e

  pub asking_end : length spans ≤ k → true ≡ none_twice (names_in text spans)
  asking_end h = twice-end g (names-none text spans k h)
