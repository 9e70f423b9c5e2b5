-- The loops that look for a name among the actions from an offset on, and in the table of their names.
use mathlib.Core.Path.{◌≡◌, ap}
use mathlib.Core.Bool.{Bool, true, false}
use mathlib.Core.List.{List, [], ◌∷◌, map}
use Prim.Native.Nat.{ℕ}
use Rattle.semantics.specs.Pddl as Pddl
use Rattle.semantics.specs.Base.{any_of}
use Rattle.semantics.specs.Pddl.{same, is_in, none_twice}
use Rattle.pddl_theory.specs.Inner.Place.{span}
use Rattle.pddl_theory.proofs.Turns.{Asked}
use Rattle.pddl_theory.proofs.Turns.{any_found, any-on, any-end}
use Rattle.pddl_theory.proofs.Turns.{twice_found, twice-on, twice-end}
use Rattle.std.specs.Prelude.{Some, None}
use Rattle.pddl_section.specs.Inner.Section.{Acts}
use Rattle.pddl_section.specs.declared.Act.{Act}
use Rattle.pddl_section.proofs.Lists.{actions-next, actions-none}
use Rattle.pddl_acts.specs.Inner.Names.{called_from}

module _ {text : List ℕ} {i : ℕ} {a : Act} (x : Acts text i (Some a)) where
  pub called-next : called_from text i ≡ span text a.first a.end ∷ called_from text a.next
  called-next = ap (λ (xs : List Pddl.Action). map (λ a. a.called) xs) (actions-next x)

pub called-none : {text : List ℕ} {i : ℕ} → Acts text i None → called_from text i ≡ []
called-none x = ap (λ (xs : List Pddl.Action). map (λ a. a.called) xs) (actions-none x)

-- ---- is a word a name, is a name there twice

module _ {text : List ℕ} {at i : ℕ} where
  module _ (w : List ℕ) (g : Asked (any_of (same w)) (called_from text) at i) where
    module _ {a : Act} (x : Acts text i (Some a)) (b : Bool) (is : b ≡ same w (span text a.first a.end)) where
      pub called-found : b ≡ true → true ≡ is_in (called_from text at) w
      called-found h = any_found (same w) g a.next (called-next x) b is h

      pub called_on : b ≡ false → Asked (any_of (same w)) (called_from text) at a.next
      called_on h = any-on (same w) g a.next (called-next x) b is h

    pub called-end : Acts text i None → false ≡ is_in (called_from text at) w
    called-end x = any-end (same w) g (called-none x)

  module _ (g : Asked none_twice (called_from text) at i) where
    module _ {a : Act} (x : Acts text i (Some a)) (b : Bool)
        (is : b ≡ is_in (called_from text a.next) (span text a.first a.end)) where
      pub distinct-not : b ≡ true → false ≡ none_twice (called_from text at)
      distinct-not h = twice_found g a.next (called-next x) b is h

      pub distinct-on : b ≡ false → Asked none_twice (called_from text) at a.next
      distinct-on h = twice-on g a.next (called-next x) b is h

    pub distinct-end : Acts text i None → true ≡ none_twice (called_from text at)
    distinct-end x = twice-end g (called-none x)
