-- A list of atoms as facts, and the actions of all members.
use mathlib.Core.Path.{◌≡◌, sym, ap, ◌∙◌}
use mathlib.Core.Bool.{Bool, true, ◌&&◌}
use mathlib.Core.List.{List, ◌++◌, flatten}
use Prim.Native.Nat.{ℕ, ◌+◌, ◌≤◌}
use native.Mathlib.Omega.{arith}
use lib.ListN.{length, length-append}
use lib.Bits.{bit_or, or_zero_l, or_zero_r}
use Rattle.semantics.specs.Pddl.{is_in, mask_of, actions_of}
use Rattle.mask.specs.declared.Mask.{Mask}
use Rattle.mask.specs.Number.{number}
use Rattle.pddl_theory.proofs.Sets.{or_bits_assoc}
use Rattle.pddl_theory.proofs.Sizes.{actions-few}
use Rattle.pddl_theory.proofs.Turns.{Held, held-begin, held_on, held-end}
use Rattle.pddl_name.specs.declared.Span.{Span}
use Rattle.pddl_name.specs.Inner.Table.{names_in}
use Rattle.std.specs.Prelude.{Some, None}
use Rattle.pddl_form.specs.declared.Word.{Word}
use Rattle.pddl_form.specs.Inner.Place.{atoms_from, Atoms}
use Rattle.pddl_form.proofs.Lists.{atoms-next, atoms-none}
use Rattle.pddl_formula.specs.declared.Fact.{Fact}
use Rattle.pddl_formula.specs.Inner.Formula.{FactOf}
use Rattle.pddl_section.specs.Inner.Section.{actions_from, members_from, Members}
use Rattle.pddl_section.specs.declared.Member.{Member}
use Rattle.pddl_section.proofs.Lists.{members-next, members-none}
use Rattle.pddl_named.specs.Inner.Common.{FactsOf}

-- ---- atoms as facts

-- the mask of the atoms before i, and whether they are known
pub record Gathering (text : List ℕ) (spans : List Span) (more at : ℕ) (mask : Mask) (known : Bool) (i : ℕ)
    : Type 0 where
  pub masks : mask_of (names_in text spans) (atoms_from text at) ≡ bit_or (number mask)
      (mask_of (names_in text spans) (atoms_from text i))
  pub names : Held (is_in (names_in text spans ++ atoms_from text more)) (atoms_from text) at known i

pub gathering_begin : (text : List ℕ) (spans : List Span) (more at : ℕ) (mask : Mask) → number mask ≡ 0
    → Gathering text spans more at mask true at
gathering_begin text spans more at mask z =
    record {
      masks = sym (ap (λ (m : ℕ). bit_or m (mask_of (names_in text spans) (atoms_from text at))) z ∙ or_zero_l _);
      names = held-begin (is_in (names_in text spans ++ atoms_from text more)) (atoms_from text) at;
    }

module _ {text : List ℕ} {spans : List Span} {more at : ℕ} {mask : Mask} {known : Bool} {i : ℕ}
    (g : Gathering text spans more at mask known i) where
  pub gathering_on : {a : Word} → Atoms text i (Some a) → (f : Fact) → FactOf text spans more a.first a.end f
      → (m : Mask) → number m ≡ bit_or (number mask) (number f.bit)
      → Gathering text spans more at m (known && f.known) a.next
  unfolding mask_of
  gathering_on {a} x f y m is =
      record {
        masks = g.masks ∙ rw (atoms-next x, ← y.bit, is)
            (sym (or_bits_assoc (number mask) (number f.bit) _));
        names = held_on (is_in (names_in text spans ++ atoms_from text more)) g.names a.next (atoms-next x) f.known
            y.names;
      }

  pub gathered : Atoms text i None → FactsOf text spans more at (record { mask = mask; known = known })
  unfolding mask_of
  gathered x =
      record {
        mask = sym (g.masks ∙ rw (atoms-none x) (or_zero_r (number mask)));
        names = held-end (is_in (names_in text spans ++ atoms_from text more)) g.names (atoms-none x);
      }

-- ---- the actions of all members

pub record Adding (text : List ℕ) (count i : ℕ) : Type 0 where
  pub whole : length (actions_of (members_from text 0)) ≡ count + length (actions_of (members_from text i))

pub adding-begin : (text : List ℕ) → Adding text 0 0
adding-begin text = record { whole = omega arith }

module _ {text : List ℕ} {count i : ℕ} (g : Adding text count i) where
  module _ {m : Member} (x : Members text i (Some m)) (c : ℕ) (is : c ≡ length (actions_from text m.domain.actions))
    where
      next-actions : length (actions_of (members_from text i))
          ≡ c + length (actions_of (members_from text m.problem.next))
      unfolding flatten
      next-actions =
          rw (members-next x, is)
          (length-append (actions_from text m.domain.actions) (actions_of (members_from text m.problem.next)))

      pub adding-on : Adding text (count + c) m.problem.next
      adding-on = record { whole = omega (arith, g.whole, next-actions) }

      pub adding-below : count + c ≤ length text
      adding-below = omega (arith, g.whole, next-actions, actions-few text)

  pub adding-end : Members text i None → count ≡ length (actions_of (members_from text 0))
  unfolding flatten
  adding-end x =
      let none : length (actions_of (members_from text i)) ≡ 0 = rw (members-none x) in
      omega (arith, g.whole)
