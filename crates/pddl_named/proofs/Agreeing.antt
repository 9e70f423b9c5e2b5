-- Members that agree with what all share.
use mathlib.Core.Path.{◌≡◌, refl, sym, ap, ◌∙◌}
use mathlib.Core.Bool.{Bool, true, false, not, ◌&&◌, and_assoc}
use mathlib.Core.List.{List, ◌++◌, append-nil}
use Prim.Native.Nat.{ℕ, ◌≤◌}
use lib.Dec.{eqb}
use Rattle.semantics.specs.Base.{all_of}
use Rattle.semantics.specs.Pddl.{is_in, same_set, same_names, none_twice, same, well_named}
use Rattle.mask.specs.Number.{number}
use Rattle.pddl_theory.specs.Inner.Limits.{most_facts}
use Rattle.pddl_theory.specs.Inner.Place.{span}
use Rattle.pddl_theory.proofs.Sets.{same_set_lem, same_set-refl}
use Rattle.pddl_name.specs.declared.Span.{Span}
use Rattle.pddl_name.specs.Inner.Table.{names_in}
use Rattle.std.specs.Prelude.{Some, None}
use Rattle.pddl_form.specs.Inner.Place.{atoms_from}
use Rattle.pddl_section.specs.Inner.Section.{member_of, members_from, Members}
use Rattle.pddl_acts.specs.declared.Own.{Own}
use Rattle.pddl_acts.specs.Inner.Names.{called_from}
use Rattle.pddl_acts.specs.Inner.Own.{all_known, OwnIn}
use Rattle.pddl_section.specs.declared.Member.{Member}
use Rattle.pddl_section.proofs.Lists.{members-next, members-none}
use Rattle.pddl_named.specs.declared.Common.{Common}
use Rattle.pddl_named.specs.declared.Facts.{Facts}
use Rattle.pddl_named.specs.Inner.Common.{FactsOf, CommonIn}
use Rattle.pddl_named.specs.Inner.Rows.{GoalIn, MemberIn}

-- ---- a test that is turned round

pub not-false : (b : Bool) → not b ≡ false → b ≡ true
not-false true h = refl
not-false false h = sym h

pub not-true : (b : Bool) → not b ≡ true → b ≡ false
not-true true h = sym h
not-true false h = refl

-- ---- initial facts

abbrev agree : List ℕ → Common → ℕ → Bool
agree text c at =
    all_of (is_in (atoms_from text c.predicates)) (atoms_from text at)
    && same_set (atoms_from text at) (atoms_from text c.initially)

module _ {text : List ℕ} {spans : List Span} {c : Common} (x : CommonIn text spans c) (at : ℕ) (f : Facts)
    (y : FactsOf text spans c.more at f) where
  known-here : f.known ≡ all_of (is_in (atoms_from text c.predicates)) (atoms_from text at)
  known-here = y.names ∙ rw (← x.whole)

  pub facts_unknown : f.known ≡ false → false ≡ agree text c at
  facts_unknown h = rw (← known-here, h)

  module _ (h : f.known ≡ true) where
    names_in_table : c.facts ≤ most_facts → atoms_from text c.predicates ≡ names_in text spans
    names_in_table l =
        x.whole ∙ ap (λ (ws : List (List ℕ)). names_in text spans ++ ws) (x.all (rw x.facts at l)) ∙ append-nil _

    pub facts-by-mask : c.facts ≤ most_facts → (r : Bool) → r ≡ eqb (number f.mask) (number c.mask)
        → r ≡ agree text c at
    facts-by-mask l r is =
        let P : List (List ℕ) = names_in text spans in
        let here : all_of (is_in P) (atoms_from text at) ≡ true = rw (names_in_table l) at (sym known-here ∙ h) in
        let first : all_of (is_in P) (atoms_from text c.initially) ≡ true = rw (names_in_table l) at x.all_known in
        is ∙ rw (← known-here, h, y.mask, x.mask) (same_set_lem P (atoms_from text at)
        (atoms_from text c.initially) here first)

    pub facts-by-name : (a b : Bool) → a ≡ all_of (is_in (atoms_from text c.initially)) (atoms_from text at)
        → b ≡ all_of (is_in (atoms_from text at)) (atoms_from text c.initially) → (a && b) ≡ agree text c at
    facts-by-name a b is-a is_b = rw (← known-here, h, is-a, is_b)

-- the first member's own
pub facts-first : {text : List ℕ} {spans : List Span} {c : Common} → CommonIn text spans c → (at : ℕ) → at ≡ c.initially
    → true ≡ agree text c at
facts-first {text} {spans} {c} x at e = sym (rw (e, x.all_known, same_set-refl (atoms_from text c.initially)))

-- ---- a member

regroup : (a s e f g : Bool) → s ≡ (e && f) → ((a && s) && g) ≡ (((a && e) && f) && g)
regroup a s e f g is = rw is (ap (λ (b : Bool). b && g) (sym (and_assoc a e f)))

module _ {text : List ℕ} {spans : List Span} {c : Common} (x : CommonIn text spans c) (m : Member) where
  abbrev P : List (List ℕ)
  P = atoms_from text c.predicates

  pub well-named : {masks table₀ : List ℕ} {owner first : ℕ} {table goals₀ goals : List ℕ} (o : Own)
      → OwnIn text spans c.more masks table₀ m.domain.actions owner first table o
      → (a n s g : Bool) → a ≡ same_names (atoms_from text m.domain.predicates) P
      → n ≡ same (span text m.problem.first m.problem.end) (span text m.domain.first m.domain.end)
      → s ≡ agree text c m.problem.initially → GoalIn text spans c.more m.problem.goal goals₀ owner goals g
      → MemberIn text spans c m masks table₀ goals₀ owner first table goals
      (record { count = o.count; named = (((a && o.named) && n) && s) && g })
  unfolding well_named
  well-named o y a n s g is-a is-n is-s z =
      let acts : Bool = none_twice (called_from text m.domain.actions) in
      let known : Bool = all_known text spans c.more m.domain.actions in
      record {
        number = y.number;
        names = regroup ((a && o.named) && n) s (all_of (is_in P) (atoms_from text m.problem.initially))
            (same_set (atoms_from text m.problem.initially) (atoms_from text c.initially)) g is-s
            ∙ rw (
              is-a,
              y.names,
              sym (and_assoc (same_names (atoms_from text m.domain.predicates) P) acts known),
              is-n,
              z.names,
              ← x.whole,
            );
        rows_in = y.rows_in;
        goal = g;
        goal_in = z;
      }

-- ---- all members

pub record Agreeing (text : List ℕ) (P I : List (List ℕ)) (i : ℕ) : Type 0 where
  pub whole : all_of (well_named P I) (members_from text 0) ≡ all_of (well_named P I) (members_from text i)

pub agreeing-begin : (text : List ℕ) (P I : List (List ℕ)) → Agreeing text P I 0
agreeing-begin text P I = record { whole = refl }

module _ {text : List ℕ} {P I : List (List ℕ)} {i : ℕ} (g : Agreeing text P I i) where
  module _ {m : Member} (x : Members text i (Some m)) (b : Bool) (named : b ≡ well_named P I (member_of text m)) where
    turn : all_of (well_named P I) (members_from text 0)
        ≡ (b && all_of (well_named P I) (members_from text m.problem.next))
    unfolding all_of
    turn = rw (g.whole, members-next x, named)

    pub agreeing-not : b ≡ false → false ≡ all_of (well_named P I) (members_from text 0)
    agreeing-not h = sym (rw h at turn)

    pub agreeing-on : b ≡ true → Agreeing text P I m.problem.next
    agreeing-on h = record { whole = rw h at turn }

  pub agreeing-end : Members text i None → true ≡ all_of (well_named P I) (members_from text 0)
  unfolding all_of
  agreeing-end x = rw (g.whole, members-none x)
