-- The loop over a list of atoms.
use mathlib.Core.Path.{◌≡◌, refl, sym}
use mathlib.Core.Bool.{Bool, true, false, ◌||◌}
use mathlib.Core.List.{List, [], ◌∷◌}
use Prim.Native.Nat.{ℕ, ◌≤◌, ◌<◌}
use lib.ListN.{length}
use Rattle.std.specs.Prelude.{Some, None}
use Rattle.semantics.specs.Pddl as Pddl
use Rattle.semantics.specs.Base.{any_of}
use Rattle.semantics.specs.Pddl.{outside, parsed, same, is_in}
use Rattle.pddl_theory.specs.Inner.Place.{rest, span}
use Rattle.pddl_theory.proofs.Shorter.{atom-shorter}
use Rattle.pddl_theory.proofs.Chain.{items-on, items-out}
use Rattle.pddl_theory.proofs.Walk.{Walked, walked-begin, walked_on, walked_end}
use Rattle.pddl_form.specs.Inner.Place.{atoms_from, Atoms, AtomsEnd}
use Rattle.pddl_form.specs.declared.Word.{Word}

-- an atom: the atoms from there on
module _ {text : List ℕ} {i : ℕ} {a : Word} (x : Atoms text i (Some a)) where
  pub atom-onward : (i < a.next) × (a.next ≤ length text)
  atom-onward = (x.onward.0, x.onward.1)

  pub atoms-next : atoms_from text i ≡ span text a.first a.end ∷ atoms_from text a.next
  atoms-next = items-on Pddl.atom atom-shorter (rest text i) _ (rest text a.next) (sym x.same)

-- none
pub atoms-none : {text : List ℕ} {i : ℕ} → Atoms text i None → atoms_from text i ≡ []
atoms-none {text} {i} x = items-out Pddl.atom atom-shorter (rest text i) (sym x.same)

-- from i on the same is left as from the first atom on
abbrev pub Passing : List ℕ → ℕ → ℕ → Type 0
Passing text at i = Walked Pddl.atom atom-shorter text at i

pub passing_begin : (text : List ℕ) (at : ℕ) → Passing text at at
passing_begin text at = walked-begin Pddl.atom atom-shorter text at

module _ {text : List ℕ} {at i : ℕ} (g : Passing text at i) where
  pub passing_on : {a : Word} → Atoms text i (Some a) → Passing text at a.next
  passing_on {a} x =
      walked_on Pddl.atom atom-shorter text at i g (span text a.first a.end) a.next x.onward.0 (sym x.same)

  pub passing_end : Atoms text i None → AtomsEnd text at (Some i)
  passing_end x = record { same = sym (walked_end Pddl.atom atom-shorter text at i g (sym x.same)); onward = g.low }

-- ---- a word among the atoms

-- it is none of those before i
pub record Seeking (text : List ℕ) (at : ℕ) (w : List ℕ) (i : ℕ) : Type 0 where
  pub whole : is_in (atoms_from text at) w ≡ is_in (atoms_from text i) w

pub seeking_begin : (text : List ℕ) (at : ℕ) (w : List ℕ) → Seeking text at w at
seeking_begin text at w = record { whole = refl }

module _ {text : List ℕ} {at : ℕ} {w : List ℕ} {i : ℕ} (g : Seeking text at w i) where
  module _ {a : Word} (x : Atoms text i (Some a)) (b : Bool) (is : b ≡ same w (span text a.first a.end)) where
    seeking_turn : is_in (atoms_from text at) w ≡ (b || is_in (atoms_from text a.next) w)
    unfolding any_of
    seeking_turn = rw (g.whole, atoms-next x, is)

    pub seeking_found : b ≡ true → true ≡ is_in (atoms_from text at) w
    seeking_found h = sym (rw h at seeking_turn)

    pub seeking_on : b ≡ false → Seeking text at w a.next
    seeking_on h = record { whole = rw h at seeking_turn }

  pub seeking_end : Atoms text i None → false ≡ is_in (atoms_from text at) w
  unfolding any_of
  seeking_end x = rw (g.whole, atoms-none x)
