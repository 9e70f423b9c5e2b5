-- The stages of the reader: each refusal in its turn, and what is known behind it.
use mathlib.Core.Path.{◌≡◌, refl, sym, ap, ◌∙◌}
use mathlib.Core.Bool.{Bool, true, false, ◌&&◌}
use mathlib.Core.List.{List, [], ◌∷◌, ◌++◌, map, append-nil}
use Prim.Native.Nat.{ℕ, ◌+◌, ◌≤◌}
use native.Mathlib.Omega.{arith}
use lib.ListN.{length, take}
use lib.Seq.{length-take-le}
use lib.Dec.{leb}
use borrow.Author.Tests.{leb-true}
use mir.Syntax.{w64}
use mir.Val.{Fits}
use Rattle.semantics.specs.Base.{all_of}
use Rattle.semantics.specs.Words.{states_in}
use Rattle.semantics.specs.Task.{check}
use Rattle.semantics.specs.Text.{records, is_record, text_words}
use Rattle.semantics.specs.Pddl as Pddl
use Rattle.semantics.specs.Pddl.{members_of, predicates_of, initially_of, first_of, actions_of, named, in_limits}
use Rattle.semantics.specs.Pddl.{words_of}
use Rattle.semantics.specs.Pddl.{is_in}
use Rattle.semantics.specs.Pddl.{well_named, none_twice, waits_known, same_names, known_action, same}
use Rattle.theory.proofs.Lists.{and_elim, not-true-false}
use Rattle.pddl_theory.specs.Inner.Limits.{most_facts}
use Rattle.refusal.specs.declared.Refusal.{Refusal}
use Rattle.refusal.specs.declared.Refusal.TheVariants as refusal
use Rattle.refusal.specs.Number.{number}
use Rattle.pddl_waits.specs.declared.Greatest.{Greatest}
use Rattle.pddl_waits.specs.Inner.Waits.{within_of, Read}
use Rattle.pddl_name.specs.declared.Span.{Span}
use Rattle.pddl_name.specs.Inner.Table.{names_in}
use Rattle.std.specs.Prelude.{Option, Some, None, Ok, Err}
use Rattle.pddl_form.specs.Inner.Place.{atoms_from}
use Rattle.pddl_list.specs.declared.Table.{Table}
use Rattle.pddl_list.specs.Inner.Table.{Tabled}
use Rattle.pddl_section.specs.declared.Member.{Member}
use Rattle.pddl_section.specs.Inner.Section.{member_of, members_from, Members}
use Rattle.pddl_section.proofs.Lists.{members-next, members-none}
use Rattle.pddl_members.specs.declared.Counts.{Counts}
use Rattle.pddl_members.specs.Inner.Kept.{Counted, CountedIn}
use Rattle.pddl_members.specs.declared.Entry.{Entry}
use Rattle.pddl_named.proofs.Passing.{none-some}
use Rattle.pddl_named.specs.declared.Common.{Common}
use Rattle.pddl_named.specs.declared.Facts.{Facts}
use Rattle.pddl_named.specs.Inner.Common.{FactsOf, CommonIn}
use Rattle.pddl_named.specs.Inner.Rows.{MembersIn}
use Rattle.pddl.specs.Inner.Law.{law_words, law_refusal, Begun, Naming, names_hold, NamedIn, rows_of, BuiltOf}
use Rattle.pddl.specs.Inner.Law.{LawIn, LawFor}
use Rattle.pddl.proofs.Building.{goals-rows, acts-rows}

-- the front of a list has as many entries as were taken
pub front_length : {A : Type 0} (n : ℕ) (xs : List A) → n ≤ length xs → n ≡ length (take n xs)
front_length n xs h = sym (length-take-le n xs h)

-- ---- refusals

refused-with : (text waits table : List ℕ) (e : Refusal) → number e ≡ law_refusal text waits
    → LawIn text waits table (Err e)
refused-with text waits table e is = record { refusal = is; law = tt }

module _ (text waits table : List ℕ) where
  pub no-waits : (e : Refusal) → (e ≡ refusal.Text) × (all_of (is_record 2) (records waits) ≡ false)
      → LawIn text waits table (Err e)
  no-waits e x = refused-with text waits table e (rw (x.0, x.1))

  module _ {masks : List ℕ} {w : Option Greatest} (x : Read waits masks w) (k : Counts) (places : List Entry)
      (y : CountedIn text k places) where
    pub no-members : k.members ≡ 0 → LawIn text waits table (Err refusal.Pddl)
    no-members z = refused-with text waits table refusal.Pddl (rw (x.good, ← y.counted.number, z))

    -- where there are members, the first one is read
    pub no-first : (k.members ≡ 0 → ⊥) → Members text 0 None → LawIn text waits table (Err refusal.Pddl)
    no-first some none =
        absurd (some (y.counted.number ∙ ap length (y.counted.from_start some ∙ members-none none)))

some-members : (n : ℕ) → (n ≡ 0 → ⊥) → leb n 0 ≡ false
some-members n h = not-true-false (leb n 0) (λ l. h (le-zero n (leb-true n 0 l)))
  where
    le-zero : (n : ℕ) → n ≤ 0 → n ≡ 0
    le-zero n l = omega arith

-- ---- limits

pub record Within (facts members actions : ℕ) : Type 0 where
  pub facts-few : facts ≤ most_facts
  pub members-few : members ≤ 8
  pub actions-few : actions ≤ 256
  pub members-fit : Fits w64 (1 + members)
  pub records-fit : Fits w64 (1 + members + actions)

pub within-limits : (facts members actions : ℕ) → (leb facts most_facts && leb members 8 && leb actions 256) ≡ true
    → Within facts members actions
within-limits facts members actions l =
    let both = and_elim (leb facts most_facts && leb members 8) (leb actions 256) l in
    let two = and_elim (leb facts most_facts) (leb members 8) both.0 in
    let m : members ≤ 8 = leb-true members 8 two.1 in
    let a : actions ≤ 256 = leb-true actions 256 both.1 in
    record {
      facts-few = leb-true facts most_facts two.0;
      members-few = m;
      actions-few = a;
      members-fit = record { fits = omega (arith, m) };
      records-fit = record { fits = omega (arith, m, a) };
    }

-- ---- a law

module _ {text : List ℕ} {spans : List Span} {more : ℕ} {places : List Entry} {m : Member} {members : ℕ}
    (x : Begun text spans more places m members) (facts : ℕ)
    (is-facts : facts ≡ length (atoms_from text m.domain.predicates))
    (f : Facts) (y : FactsOf text spans more m.problem.initially f) where
  abbrev common : Common
  common =
      record {
        predicates = m.domain.predicates;
        initially = m.problem.initially;
        facts = facts;
        more = more;
        mask = f.mask;
      }

  predicates-are : predicates_of (members_from text 0) ≡ atoms_from text m.domain.predicates
  predicates-are = x.the_predicates

  initial-are : initially_of (members_from text 0) ≡ atoms_from text m.problem.initially
  initial-are = x.the_initial

  whole : atoms_from text m.domain.predicates ≡ names_in text spans ++ atoms_from text more
  whole = x.whole

  all : length (atoms_from text m.domain.predicates) ≤ most_facts → atoms_from text more ≡ []
  all = x.all

  members-number : members ≡ length (members_from text 0)
  members-number = x.number ∙ ap length x.from_start

  pub naming : Naming text spans places common f.known
  naming =
      let known : f.known ≡ all_of (is_in (atoms_from text m.domain.predicates)) (atoms_from text m.problem.initially) =
      y.names ∙ rw (← whole) in
      record {
        held = x.held;
        some = λ z. x.some (members-number ∙ z);
        the_predicates = predicates-are;
        the_initial = initial-are;
        initially = known;
        common = λ h. record {
          ready = x.ready;
          facts = is-facts;
          whole = whole;
          all = all;
          all_known = sym known ∙ h;
          mask = y.mask;
        };
      }

  begun : leb (length (members_of text)) 0 ≡ false
  begun = rw (← x.number) (some-members members x.some)

  -- the names do not hold
  pub law-misnamed : {masks before goals₀ acts goals : List ℕ} → NamedIn text spans masks before goals₀ acts goals None
      → (w : Option Greatest) (table : List ℕ) → LawFor text w masks table (Err refusal.Name)
  unfolding named
  law-misnamed n w table =
      record {
        each = λ waits v.
            refused-with text waits table refusal.Name (rw (v.good, begun, x.from_start, ← n.names));
      }

  module _ {masks before goals₀ acts goals : List ℕ} (actions : ℕ)
      (n : NamedIn text spans masks before goals₀ acts goals (Some actions))
      (size : states_in (length masks) ≡ 256) (w : Option Greatest) (b : Bool)
      (is_b : b ≡ within_of w actions facts) where
    module _ {waits : List ℕ} (v : Read waits masks w) where
      names-are : b ≡ named (members_of text) (text_words waits)
      unfolding named
      names-are =
          rw (x.from_start, ← n.names)
          (is_b ∙ sym (v.known actions facts) ∙ rw (n.number actions refl, is-facts, ← predicates-are))

      pub unwaited : (table : List ℕ) → b ≡ false → LawIn text waits table (Err refusal.Name)
      unwaited table h = refused-with text waits table refusal.Name (rw (v.good, begun, ← names-are, h))

      module _ (h : b ≡ true) where
        well : named (members_of text) (text_words waits) ≡ true
        well = sym names-are ∙ h

        counted : actions ≡ length (actions_of (members_from text 0))
        counted = n.number actions refl

        limits : in_limits (members_of text) ≡ (leb facts most_facts && leb members 8 && leb actions 256)
        unfolding in_limits
        limits = rw (is-facts, ← predicates-are, counted, x.number, ← x.from_start)

        pub beyond : (table : List ℕ) → (leb facts most_facts && leb members 8 && leb actions 256) ≡ false
            → LawIn text waits table (Err refusal.Many)
        beyond table l = refused-with text waits table refusal.Many (rw (v.good, begun, well, limits, l))

        module _ (l : (leb facts most_facts && leb members 8 && leb actions 256) ≡ true) where
          -- the table has all predicates
          tabled : predicates_of (members_from text 0) ≡ names_in text spans
          tabled =
              let few : length (atoms_from text m.domain.predicates) ≤ most_facts =
              rw (← is-facts) (within-limits facts members actions l).facts-few in
              predicates-are ∙ whole ∙ ap (λ (ws : List (List ℕ)). names_in text spans ++ ws) (all few)
              ∙ append-nil (names_in text spans)

          the_words : rows_of common members actions goals acts ≡ law_words text waits
          unfolding words_of named
          the_words =
              let few-facts : length (predicates_of (members_from text 0)) ≤ most_facts =
              rw (predicates-are, ← is-facts) (within-limits facts members actions l).facts-few in
              let few : actions ≤ 256 = (within-limits facts members actions l).actions-few in
              let few-members : length (members_from text 0) ≤ 8 =
              rw (← members-number) (within-limits facts members actions l).members-few in
              let facts-number : facts ≡ length (names_in text spans) =
              is-facts ∙ ap length (sym predicates-are ∙ tabled) in
              let known : waits_known (length (actions_of (members_from text 0)))
              (length (predicates_of (members_from text 0))) (text_words waits) ≡ true =
              (and_elim (names_hold (members_from text 0)) _ (rw x.from_start at well)).1 in
              rw (
                x.from_start,
                tabled,
                facts-number,
                members-number,
                goals-rows n few-members,
                y.mask,
                ← initial-are,
                acts-rows n few few-facts v size known,
                counted,
              )

          module _ {table : List ℕ} where
            pub unbuilt : {e : Refusal} → BuiltOf common members actions goals acts table (Err e)
                → LawIn text waits table (Err e)
            unbuilt {e} z =
                refused-with text waits table e
                (z.checked ∙ ap check the_words ∙ sym (rw (v.good, begun, well, limits, l)))

            pub built : {u : Unit {0}} → BuiltOf common members actions goals acts table (Ok u)
                → LawIn text waits table (Ok (1 + members + actions))
            built z =
                record {
                  refusal = z.checked ∙ ap check the_words ∙ sym (rw (v.good, begun, well, limits, l));
                  law = record {
                    room = z.room;
                    number = rw (x.number, counted, x.from_start);
                    words = z.words ∙ the_words;
                  };
                }

    -- for whichever waits were read so
    pub law-unwaited : (table : List ℕ) → b ≡ false → LawFor text w masks table (Err refusal.Name)
    law-unwaited table h = record { each = λ waits v. unwaited v table h }

    module _ (h : b ≡ true) where
      pub law-beyond : (table : List ℕ) → (leb facts most_facts && leb members 8 && leb actions 256) ≡ false
          → LawFor text w masks table (Err refusal.Many)
      law-beyond table l = record { each = λ waits v. beyond v h table l }

      module _ (l : (leb facts most_facts && leb members 8 && leb actions 256) ≡ true) {table : List ℕ} where
        pub law-unbuilt : {e : Refusal} → BuiltOf common members actions goals acts table (Err e)
            → LawFor text w masks table (Err e)
        law-unbuilt z = record { each = λ waits v. unbuilt v h l z }

        pub law-built : {u : Unit {0}} → BuiltOf common members actions goals acts table (Ok u)
            → LawFor text w masks table (Ok (1 + members + actions))
        law-built z = record { each = λ waits v. built v h l z }

-- ---- the first member

pub begins : {text : List ℕ} {k : Counts} {places : List Entry} → CountedIn text k places → (k.members ≡ 0 → ⊥)
    → (m : Member) → Members text 0 (Some m) → (spans : List Span) (t : Table)
    → Tabled text m.domain.predicates spans t
    → Begun text (take t.count spans) t.more (take k.kept places) m k.members
begins {text} {k} z some m y spans t v =
    let x : Counted text k.members = z.counted in
    let whole : members_of text ≡ members_from text 0 = x.from_start some in
    let first : first_of (members_from text 0) ≡ member_of text m = ap first_of (members-next y) in
    record {
      held = z.held;
      number = x.number;
      some = some;
      from_start = whole;
      the_predicates = ap (λ (k : Pddl.Member). k.its.predicates) first;
      the_initial = ap (λ (k : Pddl.Member). k.own.initially) first;
      ready = record { spans_in = v.spans_in; few = rw v.tabled v.few };
      whole = v.whole;
      all = v.all;
    }

-- ---- names

and-false : (a : Bool) → a && false ≡ false
and-false true = refl
and-false false = refl

unknown_initial : (P I : List (List ℕ)) (m : Pddl.Member) → all_of (is_in P) m.own.initially ≡ false
    → well_named P I m ≡ false
unfolding well_named
unknown_initial P I m h =
    rw (
      h,
      and-false (same_names m.its.predicates P && none_twice (map (λ a. a.called) m.its.actions)
          && all_of (known_action P) m.its.actions && same m.own.of m.its.domain),
    )

unknown_first : (ms : List Pddl.Member) → (length ms ≡ 0 → ⊥) → all_of (is_in (predicates_of ms)) (initially_of ms)
    ≡ false
    → all_of (well_named (predicates_of ms) (initially_of ms)) ms ≡ false
unfolding all_of
unknown_first [] some h = absurd (some refl)
unknown_first (m ∷ ms) some h = rw (unknown_initial m.its.predicates m.own.initially m h)

-- by the table
pub once_tabled : {text : List ℕ} {spans : List Span} {c : Common} → CommonIn text spans c → c.facts ≤ most_facts
    → (b : Bool) → b ≡ none_twice (names_in text spans) → b ≡ none_twice (atoms_from text c.predicates)
once_tabled {text} {spans} {c} x h b is =
    let none : atoms_from text c.more ≡ [] = x.all (rw x.facts at h) in
    is ∙ ap none_twice (sym (x.whole ∙ rw none (append-nil (names_in text spans))))

-- no answer, where the names do not hold
unnamed : {text : List ℕ} {spans : List Span} {masks before goals₀ after goals : List ℕ}
    → names_hold (members_from text 0) ≡ false → NamedIn text spans masks before goals₀ after goals None
unnamed h =
    record {
      names = sym h;
      number = λ n no. absurd (none-some no);
      rows = λ n no _. absurd (none-some no);
      goal-rows = λ n no _. absurd (none-some no);
    }

module _ {text : List ℕ} {spans : List Span} {places : List Entry} {c : Common} {known : Bool}
    (x : Naming text spans places c known) where
  pub names_unknown : {masks acts goals : List ℕ} → known ≡ false
      → NamedIn text spans masks acts goals acts goals None
  names_unknown h =
      let q : all_of (is_in (predicates_of (members_from text 0))) (initially_of (members_from text 0)) ≡ false =
      rw (x.the_predicates, x.the_initial) (sym x.initially ∙ h) in
      unnamed (rw (
        unknown_first (members_from text 0) x.some q,
        and-false (none_twice (predicates_of (members_from text 0))),
      ))

  module _ {masks before goals₀ after goals : List ℕ} where
    pub misnamed : MembersIn text spans c masks before goals₀ after goals None
        → NamedIn text spans masks before goals₀ after goals None
    misnamed y =
        let q : all_of (well_named (predicates_of (members_from text 0)) (initially_of (members_from text 0)))
        (members_from text 0) ≡ false =
        rw (x.the_predicates, x.the_initial) (sym y.names) in
        unnamed (rw (q, and-false (none_twice (predicates_of (members_from text 0)))))

    module _ {n : ℕ} (y : MembersIn text spans c masks before goals₀ after goals (Some n)) (a : Bool)
        (is : a ≡ none_twice (atoms_from text c.predicates)) where
      pub named-twice : a ≡ false → NamedIn text spans masks before goals₀ after goals None
      named-twice h = unnamed (rw (x.the_predicates, ← is, h))

      pub names-known : a ≡ true → NamedIn text spans masks before goals₀ after goals (Some n)
      names-known h =
          record {
            names = sym (rw (x.the_predicates, x.the_initial, ← is, h) (sym y.names));
            number = y.number;
            rows = y.rows;
            goal-rows = y.goal-rows;
          }
