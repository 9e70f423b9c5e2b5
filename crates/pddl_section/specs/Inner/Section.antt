-- What the readers of sections say: what is read, by the offsets of its parts, or that none is there.
use Rattle.std.specs.Prelude.{◌≡◌, Bool, true, false, List, ◌++◌, ℕ, ◌≤◌, ◌<◌, length, Option, Some, None}
use Rattle.semantics.specs.Pddl as Pddl
use Rattle.semantics.specs.Pddl.{Parsed, outside, parsed, many, formula, depth, Literal}
use Rattle.semantics.specs.Pddl.{mask_of, facts_of, known_action}
use Rattle.mask.specs.Number.{number}
use Rattle.pddl_theory.specs.Inner.Place.{rest, span, leaves, items}
use Rattle.pddl_name.specs.declared.Span.{Span}
use Rattle.pddl_name.specs.Inner.Table.{names_in}
use Rattle.pddl_form.specs.Inner.Place.{atoms_from}
use Rattle.pddl_section.specs.declared.Act.{Act}
use Rattle.pddl_section.specs.declared.Domain.{Domain}
use Rattle.pddl_section.specs.declared.Problem.{Problem}
use Rattle.pddl_section.specs.declared.Member.{Member}

-- the literals of the formula at an offset
abbrev pub literals_at : List ℕ → Bool → ℕ → List Literal
literals_at text negations at = items (formula negations depth (rest text at))

-- an offset behind another, within the text, and the end of a name in it
abbrev pub Onward : ℕ → ℕ → ℕ → ℕ → Type 0
Onward most at end next = (at < next) × (next ≤ most) × (end ≤ most)

-- ---- actions

abbrev pub action_of : List ℕ → Act → Pddl.Action
action_of text a =
    record {
      called = span text a.first a.end;
      precondition = literals_at text false a.precondition;
      effects = literals_at text true a.effect;
    }

abbrev pub action_in : List ℕ → Option Act → Parsed Pddl.Action
action_in text None = outside
action_in text (Some a) = parsed (action_of text a) (rest text a.next)

abbrev pub ActBehind : ℕ → ℕ → Option Act → Type 0
ActBehind most at None = Unit {0}
ActBehind most at (Some a) = Onward most at a.end a.next

pub record Acts (text : List ℕ) (at : ℕ) (r : Option Act) : Type 0 where
  pub same : action_in text r ≡ Pddl.action (rest text at)
  pub onward : ActBehind (length text) at r

-- its facts as masks over a table of names; they are known where they are names of the table or atoms from `more` on
pub record Masks (text : List ℕ) (spans : List Span) (more : ℕ) (a : Act) : Type 0 where
  pub needs : number a.needs ≡ mask_of (names_in text spans) (facts_of false (literals_at text false a.precondition))
  pub adds : number a.adds ≡ mask_of (names_in text spans) (facts_of false (literals_at text true a.effect))
  pub dels : number a.dels ≡ mask_of (names_in text spans) (facts_of true (literals_at text true a.effect))
  pub names : a.known ≡ known_action (names_in text spans ++ atoms_from text more) (action_of text a)

abbrev pub Masked : List ℕ → List Span → ℕ → Option Act → Type 0
Masked text spans more None = Unit {0}
Masked text spans more (Some a) = Masks text spans more a

-- the actions from an offset on
abbrev pub actions_from : List ℕ → ℕ → List Pddl.Action
actions_from text at = items (many Pddl.action (rest text at))

pub record ActionsEnd (text : List ℕ) (at r : ℕ) : Type 0 where
  pub same : parsed tt (rest text r) ≡ leaves (many Pddl.action (rest text at))
  pub onward : at ≤ r

-- ---- domains and problems

abbrev pub domain_of : List ℕ → Domain → Pddl.Domain
domain_of text d =
    record {
      domain = span text d.first d.end;
      predicates = atoms_from text d.predicates;
      actions = actions_from text d.actions;
    }

abbrev pub domain_in : List ℕ → Option Domain → Parsed Pddl.Domain
domain_in text None = outside
domain_in text (Some d) = parsed (domain_of text d) (rest text d.next)

abbrev pub DomainBehind : ℕ → ℕ → Option Domain → Type 0
DomainBehind most at None = Unit {0}
DomainBehind most at (Some d) = Onward most at d.end d.next

pub record Domains (text : List ℕ) (at : ℕ) (r : Option Domain) : Type 0 where
  pub same : domain_in text r ≡ Pddl.domain (rest text at)
  pub onward : DomainBehind (length text) at r

abbrev pub problem_of : List ℕ → Problem → Pddl.Problem
problem_of text p =
    record {
      of = span text p.first p.end;
      initially = atoms_from text p.initially;
      goals = literals_at text false p.goal;
    }

abbrev pub problem_in : List ℕ → Option Problem → Parsed Pddl.Problem
problem_in text None = outside
problem_in text (Some p) = parsed (problem_of text p) (rest text p.next)

abbrev pub ProblemBehind : ℕ → ℕ → Option Problem → Type 0
ProblemBehind most at None = Unit {0}
ProblemBehind most at (Some p) = Onward most at p.end p.next

pub record Problems (text : List ℕ) (at : ℕ) (r : Option Problem) : Type 0 where
  pub same : problem_in text r ≡ Pddl.problem (rest text at)
  pub onward : ProblemBehind (length text) at r

-- ---- members

abbrev pub member_of : List ℕ → Member → Pddl.Member
member_of text m = record { its = domain_of text m.domain; own = problem_of text m.problem }

abbrev pub member_in : List ℕ → Option Member → Parsed Pddl.Member
member_in text None = outside
member_in text (Some m) = parsed (member_of text m) (rest text m.problem.next)

abbrev pub MemberBehind : ℕ → ℕ → Option Member → Type 0
MemberBehind most at None = Unit {0}
MemberBehind most at (Some m) = Onward most at m.problem.end m.problem.next × (m.domain.end ≤ most)

pub record Members (text : List ℕ) (at : ℕ) (r : Option Member) : Type 0 where
  pub same : member_in text r ≡ Pddl.member (rest text at)
  pub onward : MemberBehind (length text) at r

-- the members from an offset on
abbrev pub members_from : List ℕ → ℕ → List Pddl.Member
members_from text at = items (many Pddl.member (rest text at))
