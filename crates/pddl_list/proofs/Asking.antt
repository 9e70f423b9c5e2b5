-- Loops over lists of atoms: what is asked of the whole is what is asked of the atoms from i on.
use mathlib.Core.Path.{◌≡◌, refl, sym}
use mathlib.Core.Bool.{Bool, true, false, ◌&&◌}
use mathlib.Core.List.{List}
use Prim.Native.Nat.{ℕ, ◌+◌, ◌≤◌}
use native.Mathlib.Omega.{arith}
use lib.ListN.{length}
use Rattle.semantics.specs.Base.{all_of}
use Rattle.semantics.specs.Pddl.{same, is_in, same_names, none_twice}
use Rattle.pddl_theory.specs.Inner.Place.{span}
use Rattle.pddl_theory.proofs.Sizes.{atoms-few}
use Rattle.pddl_theory.proofs.Turns.{Numbered, numbered_below, numbered-on, numbered-end}
use Rattle.pddl_theory.proofs.Turns.{Asked, all-not, all-on, all_end, twice_found, twice-on, twice-end}
use Rattle.pddl_form.specs.Inner.Place.{atoms_from, Atoms}
use Rattle.std.specs.Prelude.{Some, None}
use Rattle.pddl_form.specs.declared.Word.{Word}
use Rattle.pddl_form.proofs.Lists.{atoms-next, atoms-none}

-- ---- how many

module _ {text : List ℕ} {at n i : ℕ} (g : Numbered (atoms_from text) at n i) where
  module _ {a : Word} (x : Atoms text i (Some a)) where
    pub counting-below : n + 1 ≤ length text
    counting-below = omega (arith, numbered_below g a.next (atoms-next x), atoms-few text at)

    pub counting-on : Numbered (atoms_from text) at (n + 1) a.next
    counting-on = numbered-on g a.next (atoms-next x)

  pub counting-end : Atoms text i None → n ≡ length (atoms_from text at)
  counting-end x = numbered-end g (atoms-none x)

-- ---- a question to one list

module _ {text : List ℕ} {at i : ℕ} where
  module _ (g : Asked none_twice (atoms_from text) at i) where
    module _ {a : Word} (x : Atoms text i (Some a)) (b : Bool)
        (is : b ≡ is_in (atoms_from text a.next) (span text a.first a.end)) where
      pub distinct-not : b ≡ true → false ≡ none_twice (atoms_from text at)
      distinct-not h = twice_found g a.next (atoms-next x) b is h

      pub distinct-on : b ≡ false → Asked none_twice (atoms_from text) at a.next
      distinct-on h = twice-on g a.next (atoms-next x) b is h

    pub distinct-end : Atoms text i None → true ≡ none_twice (atoms_from text at)
    distinct-end x = twice-end g (atoms-none x)

  module _ (ws : List (List ℕ)) (g : Asked (all_of (is_in ws)) (atoms_from text) at i) where
    module _ {a : Word} (x : Atoms text i (Some a)) (b : Bool) (is : b ≡ is_in ws (span text a.first a.end)) where
      pub covered_not : b ≡ false → false ≡ all_of (is_in ws) (atoms_from text at)
      covered_not h = all-not (is_in ws) g a.next (atoms-next x) b is h

      pub covered_on : b ≡ true → Asked (all_of (is_in ws)) (atoms_from text) at a.next
      covered_on h = all-on (is_in ws) g a.next (atoms-next x) b is h

    pub covered_end : Atoms text i None → true ≡ all_of (is_in ws) (atoms_from text at)
    covered_end x = all_end (is_in ws) g (atoms-none x)

-- ---- two lists

pub record Comparing (text : List ℕ) (a b i j : ℕ) : Type 0 where
  pub whole : same_names (atoms_from text a) (atoms_from text b) ≡ same_names (atoms_from text i) (atoms_from text j)

pub comparing_begin : (text : List ℕ) (a b : ℕ) → Comparing text a b a b
comparing_begin text a b = record { whole = refl }

module _ {text : List ℕ} {a b i j : ℕ} (g : Comparing text a b i j) where
  module _ {x : Word} (p : Atoms text i (Some x)) where
    module _ {y : Word} (q : Atoms text j (Some y)) (t : Bool)
        (is : t ≡ same (span text x.first x.end) (span text y.first y.end)) where
      alike_turn : same_names (atoms_from text a) (atoms_from text b)
          ≡ (t && same_names (atoms_from text x.next) (atoms_from text y.next))
      unfolding same_names
      alike_turn = rw (g.whole, atoms-next p, atoms-next q, is)

      pub alike_on : t ≡ true → Comparing text a b x.next y.next
      alike_on h = record { whole = rw h at alike_turn }

      pub alike_not : t ≡ false → false ≡ same_names (atoms_from text a) (atoms_from text b)
      alike_not h = sym (rw h at alike_turn)

    pub alike_longer : Atoms text j None → false ≡ same_names (atoms_from text a) (atoms_from text b)
    unfolding same_names
    alike_longer q = rw (g.whole, atoms-next p, atoms-none q)

  module _ (p : Atoms text i None) where
    pub alike_shorter : {y : Word} → Atoms text j (Some y)
        → false ≡ same_names (atoms_from text a) (atoms_from text b)
    unfolding same_names
    alike_shorter q = rw (g.whole, atoms-none p, atoms-next q)

    pub alike_end : Atoms text j None → true ≡ same_names (atoms_from text a) (atoms_from text b)
    unfolding same_names
    alike_end q = rw (g.whole, atoms-none p, atoms-none q)
