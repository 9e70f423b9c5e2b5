-- The loop of a look into a table: the word is at none of the places before k.
use mathlib.Core.Path.{◌≡◌, refl}
use mathlib.Core.Bool.{Bool, true, false, cond, ◌||◌}
use mathlib.Core.List.{List, [], ◌∷◌}
use Prim.Native.Nat.{ℕ, ◌+◌, ◌*◌, ◌^◌, ◌≤◌, ◌<◌}
use native.Mathlib.Nat.{pow-succ'}
use native.Mathlib.Numerals.{add-one}
use lib.ListN.{length, drop, get_or, length-map, drop_of_length-le}
use lib.Seq.{drop-cons}
use Rattle.std.specs.Prelude.{Some, None}
use Rattle.semantics.specs.Base.{any_of}
use Rattle.semantics.specs.Pddl.{same, is_in, bit_from}
use Rattle.pddl_theory.specs.Inner.Place.{span}
use Rattle.pddl_name.specs.Inner.Table.{names_in, Looked}
use Rattle.pddl_name.specs.declared.Span.{Span}

abbrev pub named : List ℕ → Span → List ℕ
named text p = span text p.first p.end

-- the words of a table from a place on
module _ (text : List ℕ) (spans : List Span) (k : ℕ) where
  pub names-next : k < length spans → (d : Span) → names_in text (drop k spans)
      ≡ named text (get_or spans k d) ∷ names_in text (drop (k + 1) spans)
  names-next h d = rw (add-one, drop-cons spans k d h)

  pub names-none : length spans ≤ k → names_in text (drop k spans) ≡ []
  names-none h = rw (drop_of_length-le spans h)

-- the word is none of those before k
pub record Looking (text : List ℕ) (spans : List Span) (w : List ℕ) (k : ℕ) : Type 0 where
  pub bit : bit_from 1 (names_in text spans) w ≡ bit_from (2 ^ k) (names_in text (drop k spans)) w
  pub there : is_in (names_in text spans) w ≡ is_in (names_in text (drop k spans)) w

pub look_begin : (text : List ℕ) (spans : List Span) (w : List ℕ) → Looking text spans w 0
look_begin text spans w = record { bit = refl; there = refl }

module _ {text : List ℕ} {spans : List Span} {w : List ℕ} {k : ℕ} (g : Looking text spans w k) where
  module _ (h : k < length spans) (d : Span) (t : Bool) (is : t ≡ same w (named text (get_or spans k d))) where
    bit-turn : bit_from 1 (names_in text spans) w
        ≡ cond t (2 ^ k) (bit_from (2 * 2 ^ k) (names_in text (drop (k + 1) spans)) w)
    unfolding bit_from
    bit-turn = rw (g.bit, names-next text spans k h d, is)

    there-turn : is_in (names_in text spans) w ≡ (t || is_in (names_in text (drop (k + 1) spans)) w)
    unfolding any_of
    there-turn = rw (g.there, names-next text spans k h d, is)

    pub look_found : t ≡ true → Looked (names_in text spans) w (Some k)
    look_found e =
        record { in_range = rw (length-map spans (named text)) h; bit = rw e at bit-turn; there = rw e at there-turn }

    twice_as_much : 2 ^ (k + 1) ≡ 2 * 2 ^ k
    twice_as_much = rw (add-one k, pow-succ')

    pub look_on : t ≡ false → Looking text spans w (k + 1)
    look_on e = record { bit = rw twice_as_much (rw e at bit-turn); there = rw e at there-turn }

  pub look_end : length spans ≤ k → Looked (names_in text spans) w None
  unfolding bit_from any_of
  look_end h =
      record { no-bit = rw (g.bit, names-none text spans k h); not_there = rw (g.there, names-none text spans k h) }
