-- The pass over the members: their actions are counted, and rows of actions and goals go into tables, if there is room
-- for those of all.
use mathlib.Core.Path.{◌≡◌, refl, sym, ap, ap₂, subst, ◌∙◌}
use mathlib.Core.Bool.{true, false}
use mathlib.Core.List.{List, [], ◌∷◌}
use Prim.Native.Nat.{ℕ, suc, ◌+◌, ◌*◌, ◌^◌, ◌≤◌, ◌<◌}
use native.Mathlib.Numerals.{add-one}
use native.Mathlib.Omega.{arith}
use lib.ListN.{length}
use mir.Syntax.{w64}
use mir.Val.{Fits}
use Rattle.semantics.specs.Pddl as Pddl
use Rattle.semantics.specs.Pddl.{own_rows, action_rows, actions_of, goal_rows, mask_of, facts_of}
use Rattle.semantics.specs.Base.{all_of, collect}
use Rattle.semantics.specs.Words.{row_words}
use Rattle.semantics.specs.Task.{row_width}
use Rattle.mask.specs.declared.Mask.{Mask}
use Rattle.mask.specs.Number.{number}
use Rattle.theory.proofs.Lists.{true-not-false}
use Rattle.pddl_theory.proofs.Sizes.{members-few}
use Rattle.pddl_theory.specs.Inner.Appended.{Appended}
use Rattle.pddl_name.specs.declared.Span.{Span}
use Rattle.pddl_name.specs.Inner.Table.{names_in}
use Rattle.std.specs.Prelude.{Option, Some, None, is_some, unwrap_or}
use Rattle.pddl_form.specs.Inner.Place.{atoms_from}
use Rattle.pddl_formula.specs.declared.Literals.{Literals}
use Rattle.pddl_formula.specs.Inner.Formula.{Goes}
use Rattle.pddl_section.specs.declared.Member.{Member}
use Rattle.pddl_section.specs.Inner.Section.{actions_from, literals_at, members_from, Members}
use Rattle.pddl_section.proofs.Lists.{members-next, members-none}
use Rattle.pddl_words.specs.Inner.Built.{Waits}
use Rattle.pddl_theory.proofs.Appending.{Still, still-begin, still-on, still-end}
use Rattle.pddl_acts.specs.declared.Own.{Own}
use Rattle.pddl_named.specs.declared.Common.{Common}
use Rattle.pddl_named.specs.declared.Facts.{Facts}
use Rattle.pddl_named.specs.Inner.Common.{GoalOf}
use Rattle.pddl_named.specs.Inner.Rows.{GoalIn, MemberIn, MembersIn}
use Rattle.pddl_named.proofs.Agreeing.{Agreeing, agreeing-begin, agreeing-on, agreeing-not, agreeing-end}
use Rattle.pddl_named.proofs.Gathering.{Adding, adding-begin, adding-on, adding-below, adding-end}

pub own-length : (P : List (List ℕ)) (waits : List ℕ) (i a : ℕ) (xs : List Pddl.Action)
    → length (own_rows P waits i a xs) ≡ row_width * length xs
unfolding own_rows
own-length P waits i a [] = refl
own-length P waits i a (x ∷ xs) = omega (arith, own-length P waits i (suc a) xs)

abbrev all_from : List ℕ → List Span → List ℕ → ℕ → ℕ → ℕ → List ℕ
all_from text spans waits owner a i = action_rows (names_in text spans) waits owner a (members_from text i)

abbrev goals_from : List ℕ → List Span → ℕ → ℕ → List ℕ
goals_from text spans k i = goal_rows (names_in text spans) k (members_from text i)

abbrev predicates : List ℕ → Common → List (List ℕ)
predicates text c = atoms_from text c.predicates

abbrev initially : List ℕ → Common → List (List ℕ)
initially text c = atoms_from text c.initially

-- one member, and those behind it
fewer : {text : List ℕ} {i : ℕ} {m : Member} → Members text i (Some m)
    → length (members_from text i) ≡ 1 + length (members_from text m.problem.next)
fewer {text} {i} {m} x =
    let s : length (members_from text i) ≡ suc (length (members_from text m.problem.next)) =
    ap length (members-next x) in
    omega arith

-- ---- a goal row

module _ {text : List ℕ} {spans : List Span} {more goal : ℕ} where
  pub goal_read : {g : Literals} → Goes text spans more false goal (Some g)
      → GoalOf text spans more goal (record { mask = g.adds; known = g.known })
  goal_read x = record { mask = x.means.adds; names = x.means.names }

  pub goal_none : Goes text spans more false goal None → (m : Mask) → number m ≡ 0
      → GoalOf text spans more goal (record { mask = m; known = true })
  unfolding mask_of collect all_of
  goal_none x m z = record { mask = z ∙ rw x.means; names = rw x.means }

  module _ (g : Facts) (x : GoalOf text spans more goal g) (owner : ℕ) where
    pub goal_placed : (before after : List ℕ) (z : ℕ) → z ≡ 0
        → Appended before (row_width * owner) (row_words owner (number g.mask) z z z) after
        → GoalIn text spans more goal before owner after g.known
    goal_placed before after z none y =
        let facts : ℕ = mask_of (names_in text spans) (facts_of false (literals_at text false goal)) in
        let words : row_words owner (number g.mask) z z z ≡ row_words owner facts 0 0 0 =
        ap₂ (λ (m n : ℕ). row_words owner m n n n) x.mask none in
        record {
          names = x.names;
          stored = λ _. subst (λ (w : List ℕ). Appended before (row_width * owner) w after) words y;
        }

    pub goal-full : (goals : List ℕ) → 8 ≤ owner → GoalIn text spans more goal goals owner goals g.known
    goal-full goals h = record { names = x.names; stored = λ l. absurd (omega (arith, l)) }

-- ---- the pass

-- `owner` members with `count` actions stand before i, all well named; the members from i on are left
pub record Passing (text : List ℕ) (spans : List Span) (c : Common) (masks table₀ goals₀ table goals : List ℕ)
    (owner count i : ℕ)
    : Type 0 where
  pub small : length text < 2 ^ 63
  pub table_kept : length table ≡ length table₀
  pub goals-kept : length goals ≡ length goals₀
  number : owner + length (members_from text i) ≡ length (members_from text 0)
  agreeing : Agreeing text (predicates text c) (initially text c) i
  adding : Adding text count i
  rows : length (actions_of (members_from text 0)) ≤ 256 → (waits : List ℕ) → Waits waits masks
      → Still table₀ 0 (all_from text spans waits 0 0 0) table (row_width * count)
      (all_from text spans waits owner count i)
  goal-rows : length (members_from text 0) ≤ 8
      → Still goals₀ 0 (goals_from text spans 0 0) goals (row_width * owner) (goals_from text spans owner i)

pub passing_begin : (text : List ℕ) (spans : List Span) (c : Common) (masks table goals : List ℕ) → length text < 2 ^ 63
    → Passing text spans c masks table goals table goals 0 0 0
passing_begin text spans c masks table goals h =
    record {
      small = h;
      table_kept = refl;
      goals-kept = refl;
      number = omega arith;
      agreeing = agreeing-begin text (predicates text c) (initially text c);
      adding = adding-begin text;
      rows = λ _ waits w. still-begin table 0 (all_from text spans waits 0 0 0);
      goal-rows = λ _. still-begin goals 0 (goals_from text spans 0 0);
    }

-- no answer is no number
pub none-some : {n : ℕ} → None ≡ Some n → ⊥
none-some e = true-not-false refl (ap is_some (sym e))

module _ {text : List ℕ} {spans : List Span} {c : Common} {masks table₀ goals₀ table goals : List ℕ} {owner count i : ℕ}
    (g : Passing text spans c masks table₀ goals₀ table goals owner count i) where
  module _ {m : Member} (x : Members text i (Some m)) where
    one_less : length (members_from text i) ≡ 1 + length (members_from text m.problem.next)
    one_less = fewer x

    pub passing_owner : Fits w64 (owner + 1)
    passing_owner = record { fits = omega (arith, g.number, one_less, members-few text, g.small) }

    pub passing_room : count + length (actions_from text m.domain.actions) ≤ length text
    passing_room = adding-below g.adding x _ refl

    module _ (u v : List ℕ) (l : length u ≡ length table) (k : length v ≡ length goals) (o : Own)
        (y : MemberIn text spans c m masks table goals owner count u v o) where
      pub passing_count : Fits w64 (count + o.count)
      passing_count = record { fits = omega (arith, passing_room, y.number, g.small) }

      pub passing_on : o.named ≡ true
          → Passing text spans c masks table₀ goals₀ u v (owner + 1) (count + o.count) m.problem.next
      unfolding action_rows goal_rows
      passing_on h =
          let n : ℕ = m.problem.next in
          let next : Adding text (count + o.count) n = adding-on g.adding x o.count y.number in
          let goal : ℕ = mask_of (names_in text spans) (facts_of false (literals_at text false m.problem.goal)) in
          record {
            small = g.small;
            table_kept = l ∙ g.table_kept;
            goals-kept = k ∙ g.goals-kept;
            number = omega (arith, g.number, one_less);
            agreeing = agreeing-on g.agreeing x o.named y.names h;
            adding = next;
            rows = λ below waits w.
                let fits : count + length (actions_from text m.domain.actions) ≤ 256 =
                omega (arith, below, next.whole, y.number) in
                still-on (g.rows below waits w)
                (own_rows (names_in text spans) waits owner count (actions_from text m.domain.actions))
                (all_from text spans waits (owner + 1) (count + o.count) n) u (row_width * (count + o.count))
                (ap (action_rows (names_in text spans) waits owner count) (members-next x)
                ∙ rw (add-one owner, y.number))
                ((y.rows_in.rows fits).each waits w)
                (omega (
                  arith,
                  y.number,
                  own-length (names_in text spans) waits owner count (actions_from text m.domain.actions),
                ));
            goal-rows = λ few.
                still-on (g.goal-rows few) (row_words owner goal 0 0 0) (goals_from text spans (owner + 1) n) v
                (row_width * (owner + 1))
                (ap (goal_rows (names_in text spans) owner) (members-next x) ∙ rw (add-one owner))
                (y.goal_in.stored (omega (arith, few, g.number, one_less))) (omega arith);
          }

      pub passing_not : o.named ≡ false → MembersIn text spans c masks table₀ goals₀ u v None
      passing_not h =
          record {
            names = agreeing-not g.agreeing x o.named y.names h;
            number = λ n no. absurd (none-some no);
            rows = λ n no _. absurd (none-some no);
            goal-rows = λ n no _. absurd (none-some no);
          }

  module _ (x : Members text i None) where
    all : count ≡ length (actions_of (members_from text 0))
    all = adding-end g.adding x

    the-one : (n : ℕ) → Some count ≡ Some n → n ≡ count
    the-one n e = ap (λ (r : Option ℕ). unwrap_or r 0) (sym e)

    pub passing_end : MembersIn text spans c masks table₀ goals₀ table goals (Some count)
    unfolding action_rows goal_rows
    passing_end =
        record {
          names = agreeing-end g.agreeing x;
          number = λ n e. the-one n e ∙ all;
          rows = λ n e h. record {
            each = λ waits w.
                still-end (g.rows (omega (arith, h, all, the-one n e)) waits w)
                (ap (action_rows (names_in text spans) waits owner count) (members-none x));
          };
          goal-rows = λ n e few.
              still-end (g.goal-rows few) (ap (goal_rows (names_in text spans) owner) (members-none x));
        }
