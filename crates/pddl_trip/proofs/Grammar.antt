-- The grammar on the tokens of what the writer writes. Assumes nothing.
use mathlib.Core.Path.{◌≡◌, refl, sym, ap, ◌∙◌}
use mathlib.Core.Bool.{Bool, true, false, not}
use mathlib.Core.List.{List, [], ◌∷◌, ◌++◌, map, flatten, append_assoc, append-nil}
use Prim.Native.Nat.{ℕ, zero, suc, ◌+◌, ◌≤◌}
use native.Mathlib.Omega.{arith}
use lib.ListN.{length, length-append}
use lib.Dec.{eqb}
use borrow.Author.Tests.{ne_eqb}
use Rattle.semantics.specs.Base.{up_to, all_of}
use Rattle.semantics.specs.Task.{facts, members, initial, goal, pre, add, del}
use Rattle.semantics.specs.Text.{is_digit, digits}
use Rattle.semantics.specs.Pddl.{Token, opening, closing, word, same, is_name, Parsed, outside, parsed, many_in, many}
use Rattle.semantics.specs.Pddl.{same_token, expect, name, atom, Literal, negation, literal, formula, condition}
use Rattle.semantics.specs.Pddl.{effect, Action, action, Domain, domain, Problem, problem, Member, member, and'}
use Rattle.semantics.specs.Pddl.{:effect, :goal, members_of}
use Rattle.semantics.specs.PddlWrite.{own, law_text}
use Rattle.theory.proofs.Lists.{and_elim}
use Rattle.text.proofs.Lists.{digit-high}
use Rattle.pddl_trip.proofs.Lexed.{digits-digit, numbered_tokens, fact_name, action_name, member_name, atom_tokens}
use Rattle.pddl_trip.proofs.Lexed.{negation_tokens, atoms_tokens, negations_tokens, facts_in, effects_tokens}
use Rattle.pddl_trip.proofs.Lexed.{action_tokens, domain_tokens, goal_tokens, problem_tokens, member_tokens}
use Rattle.pddl_trip.proofs.Lexed.{members_tokens, law-tokens}

-- ---- names

no-colon : (ds : List ℕ) → all_of is_digit ds ≡ true → all_of (λ c. not (eqb c 58)) ds ≡ true
unfolding all_of
no-colon [] h = refl
no-colon (b ∷ ds) h =
    let r = and_elim (is_digit b) (all_of is_digit ds) h in
    rw (ne_eqb b 58 (λ e. omega (arith, digit-high b r.0))) (no-colon ds r.1)

not-and : (ds : List ℕ) → all_of is_digit ds ≡ true → same ds (110 ∷ 100 ∷ []) ≡ false
unfolding all_of same
not-and [] h = refl
not-and (b ∷ ds) h =
    let r = and_elim (is_digit b) (all_of is_digit ds) h in
    rw (ne_eqb b 110 (λ e. omega (arith, digit-high b r.0)))

pub fact-name : (f : ℕ) → is_name (fact_name f) ≡ true
unfolding is_name same
fact-name f = rw (no-colon (digits f) (digits-digit f))

pub action-name : (k : ℕ) → is_name (action_name k) ≡ true
unfolding is_name same
action-name k = rw (no-colon (digits k) (digits-digit k), not-and (digits k) (digits-digit k))

pub member-name : (i : ℕ) → is_name (member_name i) ≡ true
unfolding is_name same all_of
member-name i = rw (no-colon (digits i) (digits-digit i))

-- ---- as many as there are

module _ {A X : Type 0} (one : List Token → Parsed A) (ts : X → List Token) (val : X → A)
    (good : (x : X) (rest : List Token) → one (ts x ++ rest) ≡ parsed (val x) rest) where
  many_in_lem : (xs : List X) (rest : List Token) → one rest ≡ outside → (f : ℕ) → length xs ≤ f
      → many_in one f (flatten (map ts xs) ++ rest) ≡ parsed (map val xs) rest
  unfolding many_in flatten
  many_in_lem [] rest h zero l = refl
  many_in_lem [] rest h (suc f) l = rw h
  many_in_lem (x ∷ xs) rest h zero l = absurd (omega arith)
  many_in_lem (x ∷ xs) rest h (suc f) l =
      ap (many_in one (suc f)) (append_assoc (ts x) (flatten (map ts xs)) rest)
      ∙ rw (good x (flatten (map ts xs) ++ rest), many_in_lem xs rest h f (omega arith))

  fuel : ((x : X) → 1 ≤ length (ts x)) → (xs : List X) (rest : List Token)
      → length xs ≤ length (flatten (map ts xs) ++ rest)
  unfolding flatten
  fuel some [] rest = omega arith
  fuel some (x ∷ xs) rest =
      omega (
        arith,
        ap length (append_assoc (ts x) (flatten (map ts xs)) rest),
        length-append (ts x) (flatten (map ts xs) ++ rest),
        some x,
        fuel some xs rest,
      )

  pub many-reads : ((x : X) → 1 ≤ length (ts x)) → (xs : List X) (rest : List Token) → one rest ≡ outside
      → many one (flatten (map ts xs) ++ rest) ≡ parsed (map val xs) rest
  many-reads some xs rest h = many_in_lem xs rest h (length (flatten (map ts xs) ++ rest)) (fuel some xs rest)

-- ---- atoms and literals

pub atom-reads : (f : ℕ) (rest : List Token) → atom (atom_tokens f ++ rest) ≡ parsed (fact_name f) rest
unfolding atom expect same_token name
atom-reads f rest = rw (fact-name f)

atom-end : (rest : List Token) → atom (closing ∷ rest) ≡ outside
unfolding atom expect same_token
atom-end rest = refl

pub atoms-read : (xs : List ℕ) (rest : List Token)
    → many atom (atoms_tokens xs ++ (closing ∷ rest)) ≡ parsed (map fact_name xs) (closing ∷ rest)
atoms-read xs rest =
    many-reads atom atom_tokens fact_name atom-reads (λ f. omega arith) xs (closing ∷ rest) (atom-end rest)

abbrev pub holds : ℕ → Literal
holds f = record { fact = fact_name f; negated = false }

abbrev pub lacks : ℕ → Literal
lacks f = record { fact = fact_name f; negated = true }

literal-reads : (f : ℕ) (rest : List Token) → literal (atom_tokens f ++ rest) ≡ parsed (holds f ∷ []) rest
unfolding literal
literal-reads f rest = rw (atom-reads f rest)

formula-atom : (n : Bool) (d f : ℕ) (rest : List Token)
    → formula n d (atom_tokens f ++ rest) ≡ parsed (holds f ∷ []) rest
unfolding formula negation expect same_token same
formula-atom false zero f rest = literal-reads f rest
formula-atom false (suc d) f rest = literal-reads f rest
formula-atom true zero f rest = literal-reads f rest
formula-atom true (suc d) f rest = literal-reads f rest

formula-negation : (d f : ℕ) (rest : List Token)
    → formula true d (negation_tokens f ++ rest) ≡ parsed (lacks f ∷ []) rest
unfolding formula negation expect same_token same
formula-negation zero f rest = rw (atom-reads f (closing ∷ rest))
formula-negation (suc d) f rest = rw (atom-reads f (closing ∷ rest))

formula-end : (n : Bool) (d : ℕ) (rest : List Token) → formula n d (closing ∷ rest) ≡ outside
unfolding formula negation literal atom expect same_token
formula-end false zero rest = refl
formula-end false (suc d) rest = refl
formula-end true zero rest = refl
formula-end true (suc d) rest = refl

formula-and : (n : Bool) (d : ℕ) (us : List Token) (parts : List (List Literal)) (rest : List Token)
    → many (formula n d) us ≡ parsed parts (closing ∷ rest)
    → formula n (suc d) (opening ∷ word and' ∷ us) ≡ parsed (flatten parts) rest
unfolding formula expect same_token same
formula-and n d us parts rest h = rw h

-- ---- conditions and effects

flat_map : {X : Type 0} (g : X → Literal) (xs : List X) → flatten (map (λ x. g x ∷ []) xs) ≡ map g xs
unfolding flatten
flat_map g [] = refl
flat_map g (x ∷ xs) = ap (λ (l : List Literal). g x ∷ l) (flat_map g xs)

pub condition-reads : (xs : List ℕ) (rest : List Token)
    → condition (opening ∷ word and' ∷ (atoms_tokens xs ++ (closing ∷ rest))) ≡ parsed (map holds xs) rest
condition-reads xs rest =
    formula-and false 15 (atoms_tokens xs ++ (closing ∷ rest)) (map (λ f. holds f ∷ []) xs) rest
    (many-reads (formula false 15) atom_tokens (λ f. holds f ∷ []) (formula-atom false 15) (λ f. omega arith) xs
    (closing ∷ rest) (formula-end false 15 rest))
    ∙ ap (λ (l : List Literal). parsed l rest) (flat_map holds xs)

-- a fact that is added, or one that is deleted
data Change : Type 0 where
  adds : ℕ → Change
  dels : ℕ → Change

abbrev change_tokens : Change → List Token
change_tokens (adds f) = atom_tokens f
change_tokens (dels f) = negation_tokens f

abbrev changed : Change → Literal
changed (adds f) = holds f
changed (dels f) = lacks f

change-reads : (x : Change) (rest : List Token)
    → formula true 15 (change_tokens x ++ rest) ≡ parsed (changed x ∷ []) rest
change-reads (adds f) rest = formula-atom true 15 f rest
change-reads (dels f) rest = formula-negation 15 f rest

change-some : (x : Change) → 1 ≤ length (change_tokens x)
change-some (adds f) = omega arith
change-some (dels f) = omega arith

changes_tokens : (xs ys : List ℕ)
    → flatten (map change_tokens (map adds xs ++ map dels ys)) ≡ atoms_tokens xs ++ negations_tokens ys
unfolding flatten
changes_tokens [] [] = refl
changes_tokens [] (y ∷ ys) = ap (λ (l : List Token). negation_tokens y ++ l) (changes_tokens [] ys)
changes_tokens (x ∷ xs) ys = ap (λ (l : List Token). atom_tokens x ++ l) (changes_tokens xs ys)

changes_changed : (xs ys : List ℕ) → map changed (map adds xs ++ map dels ys) ≡ map holds xs ++ map lacks ys
changes_changed [] [] = refl
changes_changed [] (y ∷ ys) = ap (λ (l : List Literal). lacks y ∷ l) (changes_changed [] ys)
changes_changed (x ∷ xs) ys = ap (λ (l : List Literal). holds x ∷ l) (changes_changed xs ys)

pub effect-reads : (xs ys : List ℕ) (rest : List Token)
    → effect (opening ∷ word and' ∷ (atoms_tokens xs ++ (negations_tokens ys ++ (closing ∷ rest))))
    ≡ parsed (map holds xs ++ map lacks ys) rest
effect-reads xs ys rest =
    let items = map adds xs ++ map dels ys in
    ap (λ (l : List Token). effect (opening ∷ word and' ∷ l))
    (sym (append_assoc (atoms_tokens xs) (negations_tokens ys) (closing ∷ rest))
    ∙ ap (λ (l : List Token). l ++ (closing ∷ rest)) (sym (changes_tokens xs ys)))
    ∙ formula-and true 15 (flatten (map change_tokens items) ++ (closing ∷ rest)) (map (λ x. changed x ∷ []) items) rest
    (many-reads (formula true 15) change_tokens (λ x. changed x ∷ []) change-reads change-some items
    (closing ∷ rest) (formula-end true 15 rest))
    ∙ ap (λ (l : List Literal). parsed l rest) (flat_map changed items ∙ changes_changed xs ys)

-- ---- actions

module _ (t : List ℕ) where
  abbrev pub action_of : ℕ → ℕ → Action
  action_of k a = record {
    called = action_name k;
    precondition = map holds (facts_in t (pre t a));
    effects = map holds (facts_in t (add t a)) ++ map lacks (facts_in t (del t a));
  }

  -- the effects, where a precondition stands before them and its action's end behind them
  abbrev tail : ℕ → List Token → List Token
  tail a rest =
      word :effect ∷ opening ∷ word and'
      ∷ (atoms_tokens (facts_in t (add t a)) ++ (negations_tokens (facts_in t (del t a)) ++ (closing ∷ closing ∷ rest)))

  tail-tokens : (a : ℕ) (rest : List Token)
      → (atoms_tokens (facts_in t (pre t a)) ++ effects_tokens t a) ++ rest
      ≡ atoms_tokens (facts_in t (pre t a)) ++ (closing ∷ tail a rest)
  tail-tokens a rest =
      let xs = atoms_tokens (facts_in t (add t a)) in
      let ys = negations_tokens (facts_in t (del t a)) in
      append_assoc (atoms_tokens (facts_in t (pre t a))) (effects_tokens t a) rest
      ∙ ap (λ (l : List Token). atoms_tokens (facts_in t (pre t a)) ++ (closing ∷ word :effect ∷ opening ∷ word and' ∷ l))
      (append_assoc xs (ys ++ (closing ∷ closing ∷ [])) rest
      ∙ ap (λ (l : List Token). xs ++ l) (append_assoc ys (closing ∷ closing ∷ []) rest))

  pub action-reads : (k a : ℕ) (rest : List Token)
      → action (action_tokens t k a ++ rest) ≡ parsed (action_of k a) rest
  unfolding action expect same_token same name
  action-reads k a rest =
      rw (
        tail-tokens a rest,
        action-name k,
        condition-reads (facts_in t (pre t a)) (tail a rest),
        effect-reads (facts_in t (add t a)) (facts_in t (del t a)) (closing ∷ rest),
      )

  action-end : (rest : List Token) → action (closing ∷ rest) ≡ outside
  unfolding action expect same_token
  action-end rest = refl

  -- actions and their numbers, from k on
  unfoldable pairs_from : ℕ → List ℕ → List (ℕ × ℕ)
  pairs_from k [] = []
  pairs_from k (x ∷ xs) = (k, x) ∷ pairs_from (suc k) xs

  unfoldable pub actions_from : ℕ → List ℕ → List Action
  actions_from k [] = []
  actions_from k (x ∷ xs) = action_of k x ∷ actions_from (suc k) xs

  pairs-tokens : (k : ℕ) (xs : List ℕ)
      → flatten (map (λ (p : ℕ × ℕ). action_tokens t p.0 p.1) (pairs_from k xs))
      ≡ numbered_tokens (action_tokens t) k xs
  unfolding flatten numbered_tokens pairs_from
  pairs-tokens k [] = refl
  pairs-tokens k (x ∷ xs) = ap (λ (l : List Token). action_tokens t k x ++ l) (pairs-tokens (suc k) xs)

  pairs-actions : (k : ℕ) (xs : List ℕ)
      → map (λ (p : ℕ × ℕ). action_of p.0 p.1) (pairs_from k xs) ≡ actions_from k xs
  unfolding pairs_from actions_from
  pairs-actions k [] = refl
  pairs-actions k (x ∷ xs) = ap (λ (l : List Action). action_of k x ∷ l) (pairs-actions (suc k) xs)

  actions-read : (k : ℕ) (xs : List ℕ) (rest : List Token)
      → many action (numbered_tokens (action_tokens t) k xs ++ (closing ∷ rest))
      ≡ parsed (actions_from k xs) (closing ∷ rest)
  actions-read k xs rest =
      ap (λ (l : List Token). many action (l ++ (closing ∷ rest))) (sym (pairs-tokens k xs))
      ∙ many-reads action (λ (p : ℕ × ℕ). action_tokens t p.0 p.1) (λ (p : ℕ × ℕ). action_of p.0 p.1)
      (λ p rest. action-reads p.0 p.1 rest) (λ p. omega arith) (pairs_from k xs) (closing ∷ rest) (action-end rest)
      ∙ ap (λ (l : List Action). parsed l (closing ∷ rest)) (pairs-actions k xs)

  -- ---- members

  abbrev pub domain_of : ℕ → ℕ → Domain
  domain_of k i = record {
    domain = member_name i;
    predicates = map fact_name (up_to (facts t));
    actions = actions_from k (own t i);
  }

  domain-tokens : (k i : ℕ) (rest : List Token)
      → (atoms_tokens (up_to (facts t))
      ++ (closing ∷ (numbered_tokens (action_tokens t) k (own t i) ++ (closing ∷ [])))) ++ rest
      ≡ atoms_tokens (up_to (facts t)) ++ (closing ∷ (numbered_tokens (action_tokens t) k (own t i) ++ (closing ∷ rest)))
  domain-tokens k i rest =
      let rows = numbered_tokens (action_tokens t) k (own t i) in
      append_assoc (atoms_tokens (up_to (facts t))) (closing ∷ (rows ++ (closing ∷ []))) rest
      ∙ ap (λ (l : List Token). atoms_tokens (up_to (facts t)) ++ (closing ∷ l)) (append_assoc rows (closing ∷ []) rest)

  pub domain-reads : (k i : ℕ) (rest : List Token) → domain (domain_tokens t k i ++ rest) ≡ parsed (domain_of k i) rest
  unfolding domain expect same_token same name
  domain-reads k i rest =
      rw (
        domain-tokens k i rest,
        member-name i,
        atoms-read (up_to (facts t)) (numbered_tokens (action_tokens t) k (own t i) ++ (closing ∷ rest)),
        actions-read k (own t i) rest,
      )

  abbrev pub problem_of : ℕ → Problem
  problem_of i = record {
    of = member_name i;
    initially = map fact_name (facts_in t (initial t));
    goals = map holds (facts_in t (goal t i));
  }

  abbrev goal-tail : ℕ → List Token → List Token
  goal-tail i rest =
      opening ∷ word :goal ∷ opening ∷ word and'
      ∷ (atoms_tokens (facts_in t (goal t i)) ++ (closing ∷ closing ∷ closing ∷ rest))

  problem-tokens : (i : ℕ) (rest : List Token)
      → (atoms_tokens (facts_in t (initial t)) ++ goal_tokens t i) ++ rest
      ≡ atoms_tokens (facts_in t (initial t)) ++ (closing ∷ goal-tail i rest)
  problem-tokens i rest =
      let xs = atoms_tokens (facts_in t (goal t i)) in
      append_assoc (atoms_tokens (facts_in t (initial t))) (goal_tokens t i) rest
      ∙ ap (λ (l : List Token).
      atoms_tokens (facts_in t (initial t)) ++ (closing ∷ opening ∷ word :goal ∷ opening ∷ word and' ∷ l))
      (append_assoc xs (closing ∷ closing ∷ closing ∷ []) rest)

  pub problem-reads : (i : ℕ) (rest : List Token) → problem (problem_tokens t i ++ rest) ≡ parsed (problem_of i) rest
  unfolding problem expect same_token same name
  problem-reads i rest =
      rw (
        problem-tokens i rest,
        member-name i,
        member-name i,
        atoms-read (facts_in t (initial t)) (goal-tail i rest),
        condition-reads (facts_in t (goal t i)) (closing ∷ closing ∷ rest),
      )

  abbrev pub member_of : ℕ → ℕ → Member
  member_of k i = record { its = domain_of k i; own = problem_of i }

  pub member-reads : (k i : ℕ) (rest : List Token) → member (member_tokens t k i ++ rest) ≡ parsed (member_of k i) rest
  unfolding member
  member-reads k i rest =
      rw (
        append_assoc (domain_tokens t k i) (problem_tokens t i) rest,
        domain-reads k i (problem_tokens t i ++ rest),
        problem-reads i rest,
      )

  member-end : member [] ≡ outside
  unfolding member domain expect
  member-end = refl

  -- members and the numbers of their first actions
  unfoldable places_from : ℕ → List ℕ → List (ℕ × ℕ)
  places_from k [] = []
  places_from k (i ∷ is) = (k, i) ∷ places_from (k + length (own t i)) is

  unfoldable pub members_from : ℕ → List ℕ → List Member
  members_from k [] = []
  members_from k (i ∷ is) = member_of k i ∷ members_from (k + length (own t i)) is

  places-tokens : (k : ℕ) (is : List ℕ)
      → flatten (map (λ (p : ℕ × ℕ). member_tokens t p.0 p.1) (places_from k is)) ≡ members_tokens t k is
  unfolding flatten members_tokens places_from
  places-tokens k [] = refl
  places-tokens k (i ∷ is) =
      ap (λ (l : List Token). member_tokens t k i ++ l) (places-tokens (k + length (own t i)) is)

  places-members : (k : ℕ) (is : List ℕ)
      → map (λ (p : ℕ × ℕ). member_of p.0 p.1) (places_from k is) ≡ members_from k is
  unfolding places_from members_from
  places-members k [] = refl
  places-members k (i ∷ is) =
      ap (λ (l : List Member). member_of k i ∷ l) (places-members (k + length (own t i)) is)

  members-read : (k : ℕ) (is : List ℕ) → many member (members_tokens t k is) ≡ parsed (members_from k is) []
  members-read k is =
      ap (many member)
      (sym (append-nil (members_tokens t k is)) ∙ ap (λ (l : List Token). l ++ []) (sym (places-tokens k is)))
      ∙ many-reads member (λ (p : ℕ × ℕ). member_tokens t p.0 p.1) (λ (p : ℕ × ℕ). member_of p.0 p.1)
      (λ p rest. member-reads p.0 p.1 rest) (λ p. omega arith) (places_from k is) [] member-end
      ∙ ap (λ (l : List Member). parsed l []) (places-members k is)

  -- the members of the text that is written
  pub law-members : members_of (law_text t) ≡ members_from 0 (up_to (members t))
  unfolding members_of
  law-members = rw (law-tokens t, members-read 0 (up_to (members t)))
