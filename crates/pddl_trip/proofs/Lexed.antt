-- The tokens of what the writer writes, piece by piece. Assumes nothing.
use mathlib.Core.Path.{◌≡◌, refl, sym, ap, ◌∙◌}
use mathlib.Core.Bool.{Bool, true, false, ◌||◌}
use mathlib.Core.List.{List, [], ◌∷◌, ◌++◌, map, flatten, append_assoc, append-nil}
use Prim.Native.Nat.{ℕ, zero, suc, ◌+◌, ◌/◌, ◌%◌, ◌≤◌, ◌<◌}
use native.Mathlib.Omega.{arith}
use lib.ListN.{length}
use lib.Dec.{eqb, ltb}
use borrow.Author.Tests.{ltb-true, ltb-false, le-leb, lt-leb}
use Rattle.semantics.specs.Mask.{standing}
use Rattle.semantics.specs.Base.{numbers_from, up_to, all_of}
use Rattle.semantics.specs.Task.{facts, members, initial, goal, pre, add, del}
use Rattle.semantics.specs.Text.{is_digit, digits_in, digits}
use Rattle.semantics.specs.Pddl.{is_letter, in_word, is_blank, small, Token, opening, closing, word, Where, outer, inner}
use Rattle.semantics.specs.Pddl.{tokens_from, tokens, and', not', define', domain', problem', :predicates, :action}
use Rattle.semantics.specs.Pddl.{:parameters, :precondition, :effect, :domain, :init, :goal}
use Rattle.semantics.specs.PddlWrite.{own, spelt, each, numbered, atom_text, negation_text, effects_text}
use Rattle.semantics.specs.PddlWrite.{action_text, domain_text, goal_text, problem_text, member_text, members_text, law_text}
use Rattle.text.proofs.Lists.{cond_ind, digit-high, all_both}
use Rattle.theory.proofs.Lists.{and_elim, and_intro}

-- ---- digits are digits

is_digit_lem : (b : ℕ) → 48 ≤ b → b ≤ 57 → is_digit b ≡ true
is_digit_lem b l h = and_intro (le-leb 48 b l) (le-leb b 57 h)

digit-one : (b : ℕ) → 48 ≤ b → b ≤ 57 → all_of is_digit (b ∷ []) ≡ true
unfolding all_of
digit-one b l h = rw (is_digit_lem b l h)

digits_bounded : (most n : ℕ) → n ≤ most → all_of is_digit (digits_in most n) ≡ true
unfolding digits_in
digits_bounded zero n h = digit-one (48 + n) (omega arith) (omega arith)
digits_bounded (suc most) n h =
    cond_ind (λ (ds : List ℕ). all_of is_digit ds ≡ true) (ltb n 10)
    (λ e. let l : n < 10 = ltb-true n 10 e in digit-one (48 + n) (omega arith) (omega arith))
    (λ e. let l : 10 ≤ n = ltb-false n 10 e in
    all_both is_digit (digits_in most (n / 10)) ((48 + n % 10) ∷ []) (digits_bounded most (n / 10) (omega arith))
    (digit-one (48 + n % 10) (omega arith) (omega arith)))

pub digits-digit : (n : ℕ) → all_of is_digit (digits n) ≡ true
digits-digit n = digits_bounded n n (omega arith)

-- ---- pieces

-- read from the state w, the bytes p give the tokens ts and leave the state v
pub record Lexes (w : Where) (p : List ℕ) (ts : List Token) (v : Where) : Type 0 where
  pub reads : (more : List ℕ) → tokens_from w (p ++ more) ≡ ts ++ tokens_from v more

module _ {w v u : Where} {p q : List ℕ} {ts us : List Token} where
  pub lexes_then : Lexes w p ts v → Lexes v q us u → Lexes w (p ++ q) (ts ++ us) u
  lexes_then f g = record {
    reads = λ more.
        ap (tokens_from w) (append_assoc p q more) ∙ f.reads (q ++ more)
        ∙ ap (λ (l : List Token). ts ++ l) (g.reads more) ∙ sym (append_assoc ts us (tokens_from u more));
  }

-- digits go into the present word
digit-inside : (b : ℕ) → is_digit b ≡ true → in_word b ≡ true
unfolding in_word
digit-inside b h = rw h (go (is_letter b) (eqb b 45) (eqb b 58) (eqb b 95))
  where
    go : (w x y z : Bool) → (w || true || x || y || z) ≡ true
    go true x y z = refl
    go false x y z = refl

digit-small : (b : ℕ) → is_digit b ≡ true → small b ≡ b
unfolding small
digit-small b h = rw (lt-leb 65 b (omega (arith, digit-high b h)))

digit_in : (w : List ℕ) (b : ℕ) (bs : List ℕ) → is_digit b ≡ true
    → tokens_from (inner w) (b ∷ bs) ≡ tokens_from (inner (w ++ (b ∷ []))) bs
unfolding tokens_from
digit_in w b bs h = rw (digit-inside b h, digit-small b h)

pub lexes_digits : (w ds : List ℕ) → all_of is_digit ds ≡ true → Lexes (inner w) ds [] (inner (w ++ ds))
unfolding all_of
lexes_digits w [] h = record { reads = λ more. ap (λ (v : List ℕ). tokens_from (inner v) more) (sym (append-nil w)) }
lexes_digits w (b ∷ ds) h =
    let r = and_elim (is_digit b) (all_of is_digit ds) h in
    record {
      reads = λ more.
          digit_in w b (ds ++ more) r.0 ∙ (lexes_digits (w ++ (b ∷ [])) ds r.1).reads more
          ∙ ap (λ (v : List ℕ). tokens_from (inner v) more) (append_assoc w (b ∷ []) ds);
    }

-- bytes that begin with one that is in no word
record Starts (p : List ℕ) : Type 0 where
  first : ℕ
  rest : List ℕ
  split : p ≡ first ∷ rest
  parts : in_word first ≡ false

-- they end the present word
parted-byte : (w : List ℕ) (b : ℕ) (bs : List ℕ) → in_word b ≡ false
    → tokens_from (inner w) (b ∷ bs) ≡ word w ∷ tokens_from outer (b ∷ bs)
unfolding tokens_from
parted-byte w b bs h = rw h

parted : {w : List ℕ} {v : Where} {p : List ℕ} {ts : List Token} → Starts p → Lexes outer p ts v
    → Lexes (inner w) p (word w ∷ ts) v
parted {w} {v} {p} {ts} s f = record {
  reads = λ more.
      ap (λ (q : List ℕ). tokens_from (inner w) (q ++ more)) s.split
      ∙ parted-byte w s.first (s.rest ++ more) s.parts
      ∙ ap (λ (q : List ℕ). word w ∷ tokens_from outer (q ++ more)) (sym s.split)
      ∙ ap (λ (l : List Token). word w ∷ l) (f.reads more);
}

starts-before : {p : List ℕ} (q : List ℕ) → Starts p → Starts (p ++ q)
starts-before {p} q s = record {
  first = s.first;
  rest = s.rest ++ q;
  split = ap (λ (l : List ℕ). l ++ q) s.split;
  parts = s.parts;
}

-- a list of texts that all begin so, then a text that does
starts-each : (g : ℕ → List ℕ) → ((x : ℕ) → Starts (g x)) → (xs : List ℕ) {q : List ℕ} → Starts q
    → Starts (each g xs ++ q)
unfolding each flatten
starts-each g h [] s = s
starts-each g h (x ∷ xs) {q} s = starts-before q (starts-before (each g xs) (h x))

-- ---- lists of texts

pub lexes_each : (g : ℕ → List ℕ) (ts : ℕ → List Token) → ((x : ℕ) → Lexes outer (g x) (ts x) outer) → (xs : List ℕ)
    → Lexes outer (each g xs) (flatten (map ts xs)) outer
unfolding each flatten
lexes_each g ts h [] = record { reads = λ more. refl }
lexes_each g ts h (x ∷ xs) = lexes_then (h x) (lexes_each g ts h xs)

-- the tokens of texts that tell a number, from k on
unfoldable pub numbered_tokens : (ℕ → ℕ → List Token) → ℕ → List ℕ → List Token
numbered_tokens ts k [] = []
numbered_tokens ts k (x ∷ xs) = ts k x ++ numbered_tokens ts (suc k) xs

pub lexes_numbered : (g : ℕ → ℕ → List ℕ) (ts : ℕ → ℕ → List Token)
    → ((k x : ℕ) → Lexes outer (g k x) (ts k x) outer) → (k : ℕ) (xs : List ℕ)
    → Lexes outer (numbered g k xs) (numbered_tokens ts k xs) outer
unfolding numbered numbered_tokens
lexes_numbered g ts h k [] = record { reads = λ more. refl }
lexes_numbered g ts h k (x ∷ xs) = lexes_then (h k x) (lexes_numbered g ts h (suc k) xs)

-- ---- facts

-- names of facts, actions, members
abbrev pub fact_name : ℕ → List ℕ
fact_name f = 102 ∷ digits f

abbrev pub action_name : ℕ → List ℕ
action_name k = 97 ∷ digits k

abbrev pub member_name : ℕ → List ℕ
member_name i = 109 ∷ 101 ∷ 109 ∷ 98 ∷ 101 ∷ 114 ∷ digits i

abbrev pub atom_tokens : ℕ → List Token
atom_tokens f = opening ∷ word (fact_name f) ∷ closing ∷ []

abbrev pub negation_tokens : ℕ → List Token
negation_tokens f = opening ∷ word not' ∷ opening ∷ word (fact_name f) ∷ closing ∷ closing ∷ []

abbrev pub atoms_tokens : List ℕ → List Token
atoms_tokens xs = flatten (map atom_tokens xs)

abbrev pub negations_tokens : List ℕ → List Token
negations_tokens xs = flatten (map negation_tokens xs)

-- a number in a word that has begun
in_word_lem : (w : List ℕ) (v : ℕ) → Lexes (inner w) (digits v) [] (inner (w ++ digits v))
in_word_lem w v = lexes_digits w (digits v) (digits-digit v)

lexes_atom : (f : ℕ) → Lexes outer (atom_text f) (atom_tokens f) outer
unfolding atom_text spelt numbers_from tokens_from in_word is_blank small
lexes_atom f =
    let head : Lexes outer (spelt " (f") (opening ∷ []) (inner (102 ∷ [])) = record { reads = λ more. refl } in
    let end : Lexes (inner (fact_name f)) (spelt ")") (word (fact_name f) ∷ closing ∷ []) outer =
    record { reads = λ more. refl } in
    lexes_then head (lexes_then (in_word_lem (102 ∷ []) f) end)

lexes_negation : (f : ℕ) → Lexes outer (negation_text f) (negation_tokens f) outer
unfolding negation_text spelt numbers_from tokens_from in_word is_blank small
lexes_negation f =
    let head : Lexes outer (spelt " (not (f") (opening ∷ word not' ∷ opening ∷ []) (inner (102 ∷ [])) =
    record { reads = λ more. refl } in
    let end : Lexes (inner (fact_name f)) (spelt "))") (word (fact_name f) ∷ closing ∷ closing ∷ []) outer =
    record { reads = λ more. refl } in
    lexes_then head (lexes_then (in_word_lem (102 ∷ []) f) end)

starts-atom : (f : ℕ) → Starts (atom_text f)
unfolding atom_text spelt numbers_from in_word
starts-atom f = record { first = 32; rest = 40 ∷ 102 ∷ (digits f ++ spelt ")"); split = refl; parts = refl }

starts-negation : (f : ℕ) → Starts (negation_text f)
unfolding negation_text spelt numbers_from in_word
starts-negation f =
    record {
      first = 32;
      rest = 40 ∷ 110 ∷ 111 ∷ 116 ∷ 32 ∷ 40 ∷ 102 ∷ (digits f ++ spelt "))");
      split = refl;
      parts = refl;
    }

atoms : (xs : List ℕ) → Lexes outer (each atom_text xs) (atoms_tokens xs) outer
atoms xs = lexes_each atom_text atom_tokens lexes_atom xs

-- ---- actions

module _ (t : List ℕ) where
  abbrev pub facts_in : ℕ → List ℕ
  facts_in x = standing (facts t) x

  abbrev pub effects_tokens : ℕ → List Token
  effects_tokens a =
      closing ∷ word :effect ∷ opening ∷ word and'
      ∷ (atoms_tokens (facts_in (add t a)) ++ (negations_tokens (facts_in (del t a)) ++ (closing ∷ closing ∷ [])))

  lexes_effects : (a : ℕ) → Lexes outer (effects_text t a) (effects_tokens a) outer
  unfolding effects_text spelt numbers_from tokens_from in_word is_blank small
  lexes_effects a =
      let head : Lexes outer (spelt ")\n  :effect (and") (closing ∷ word :effect ∷ opening ∷ []) (inner and') =
      record { reads = λ more. refl } in
      let end : Lexes outer (spelt "))") (closing ∷ closing ∷ []) outer = record { reads = λ more. refl } in
      let close : Starts (spelt "))") = record { first = 41; rest = 41 ∷ []; split = refl; parts = refl } in
      lexes_then head
      (parted
      (starts-each atom_text starts-atom (facts_in (add t a))
      (starts-each negation_text starts-negation (facts_in (del t a)) close))
      (lexes_then (atoms (facts_in (add t a)))
      (lexes_then (lexes_each negation_text negation_tokens lexes_negation (facts_in (del t a))) end)))

  starts-effects : (a : ℕ) → Starts (effects_text t a)
  unfolding effects_text spelt numbers_from in_word
  starts-effects a = record { first = 41; rest = _; split = refl; parts = refl }

  abbrev pub action_tokens : ℕ → ℕ → List Token
  action_tokens k a =
      opening ∷ word :action ∷ word (action_name k) ∷ word :parameters ∷ opening ∷ closing ∷ word :precondition
      ∷ opening ∷ word and' ∷ (atoms_tokens (facts_in (pre t a)) ++ effects_tokens a)

  lexes_action : (k a : ℕ) → Lexes outer (action_text t k a) (action_tokens k a) outer
  unfolding action_text spelt numbers_from tokens_from in_word is_blank small
  lexes_action k a =
      let head : Lexes outer (spelt "\n (:action a") (opening ∷ word :action ∷ []) (inner (97 ∷ [])) =
      record { reads = λ more. refl } in
      let mid : Lexes (inner (action_name k)) (spelt "\n  :parameters ()\n  :precondition (and")
      (word (action_name k) ∷ word :parameters ∷ opening ∷ closing ∷ word :precondition ∷ opening ∷ [])
      (inner and') =
      record { reads = λ more. refl } in
      lexes_then (lexes_then head (lexes_then (in_word_lem (97 ∷ []) k) mid))
      (parted (starts-each atom_text starts-atom (facts_in (pre t a)) (starts-effects a))
      (lexes_then (atoms (facts_in (pre t a))) (lexes_effects a)))

  -- ---- members

  abbrev pub domain_tokens : ℕ → ℕ → List Token
  domain_tokens k i =
      opening ∷ word define' ∷ opening ∷ word domain' ∷ word (member_name i) ∷ closing ∷ opening ∷ word :predicates
      ∷ (atoms_tokens (up_to (facts t)) ++ (closing ∷ (numbered_tokens action_tokens k (own t i) ++ (closing ∷ []))))

  lexes_domain : (k i : ℕ) → Lexes outer (domain_text t k i) (domain_tokens k i) outer
  unfolding domain_text spelt numbers_from tokens_from in_word is_blank small
  lexes_domain k i =
      let head : Lexes outer (spelt "(define (domain member") (opening ∷ word define' ∷ opening ∷ word domain' ∷ [])
      (inner (109 ∷ 101 ∷ 109 ∷ 98 ∷ 101 ∷ 114 ∷ [])) =
      record { reads = λ more. refl } in
      let mid : Lexes (inner (member_name i)) (spelt ")\n (:predicates")
      (word (member_name i) ∷ closing ∷ opening ∷ []) (inner :predicates) =
      record { reads = λ more. refl } in
      let paren : Lexes outer (spelt ")") (closing ∷ []) outer = record { reads = λ more. refl } in
      let end : Lexes outer (spelt ")\n") (closing ∷ []) outer = record { reads = λ more. refl } in
      let close : Starts (spelt ")") = record { first = 41; rest = []; split = refl; parts = refl } in
      lexes_then (lexes_then head (lexes_then (in_word_lem (109 ∷ 101 ∷ 109 ∷ 98 ∷ 101 ∷ 114 ∷ []) i) mid))
      (parted (starts-each atom_text starts-atom (up_to (facts t)) (starts-before _ close))
      (lexes_then (atoms (up_to (facts t)))
      (lexes_then paren (lexes_then (lexes_numbered (action_text t) action_tokens lexes_action k (own t i)) end))))

  abbrev pub goal_tokens : ℕ → List Token
  goal_tokens i =
      closing ∷ opening ∷ word :goal ∷ opening ∷ word and'
      ∷ (atoms_tokens (facts_in (goal t i)) ++ (closing ∷ closing ∷ closing ∷ []))

  lexes_goal : (i : ℕ) → Lexes outer (goal_text t i) (goal_tokens i) outer
  unfolding goal_text spelt numbers_from tokens_from in_word is_blank small
  lexes_goal i =
      let head : Lexes outer (spelt ")\n (:goal (and") (closing ∷ opening ∷ word :goal ∷ opening ∷ []) (inner and') =
      record { reads = λ more. refl } in
      let end : Lexes outer (spelt ")))\n") (closing ∷ closing ∷ closing ∷ []) outer =
      record { reads = λ more. refl } in
      let close : Starts (spelt ")))\n") =
      record { first = 41; rest = 41 ∷ 41 ∷ 10 ∷ []; split = refl; parts = refl } in
      lexes_then head
      (parted (starts-each atom_text starts-atom (facts_in (goal t i)) close)
      (lexes_then (atoms (facts_in (goal t i))) end))

  starts-goal : (i : ℕ) → Starts (goal_text t i)
  unfolding goal_text spelt numbers_from in_word
  starts-goal i = record { first = 41; rest = _; split = refl; parts = refl }

  abbrev pub problem_tokens : ℕ → List Token
  problem_tokens i =
      opening ∷ word define' ∷ opening ∷ word problem' ∷ word (member_name i) ∷ closing ∷ opening ∷ word :domain
      ∷ word (member_name i) ∷ closing ∷ opening ∷ word :init ∷ (atoms_tokens (facts_in (initial t)) ++ goal_tokens i)

  lexes_problem : (i : ℕ) → Lexes outer (problem_text t i) (problem_tokens i) outer
  unfolding problem_text spelt numbers_from tokens_from in_word is_blank small
  lexes_problem i =
      let head : Lexes outer (spelt "(define (problem member") (opening ∷ word define' ∷ opening ∷ word problem' ∷ [])
      (inner (109 ∷ 101 ∷ 109 ∷ 98 ∷ 101 ∷ 114 ∷ [])) =
      record { reads = λ more. refl } in
      let paren : Lexes (inner (member_name i)) (spelt ")") (word (member_name i) ∷ closing ∷ []) outer =
      record { reads = λ more. refl } in
      let of : Lexes outer (spelt "\n (:domain member") (opening ∷ word :domain ∷ [])
      (inner (109 ∷ 101 ∷ 109 ∷ 98 ∷ 101 ∷ 114 ∷ [])) =
      record { reads = λ more. refl } in
      let init : Lexes (inner (member_name i)) (spelt ")\n (:init") (word (member_name i) ∷ closing ∷ opening ∷ [])
      (inner :init) =
      record { reads = λ more. refl } in
      lexes_then (lexes_then head (lexes_then (in_word_lem (109 ∷ 101 ∷ 109 ∷ 98 ∷ 101 ∷ 114 ∷ []) i) paren))
      (lexes_then (lexes_then of (lexes_then (in_word_lem (109 ∷ 101 ∷ 109 ∷ 98 ∷ 101 ∷ 114 ∷ []) i) init))
      (parted (starts-each atom_text starts-atom (facts_in (initial t)) (starts-goal i))
      (lexes_then (atoms (facts_in (initial t))) (lexes_goal i))))

  abbrev pub member_tokens : ℕ → ℕ → List Token
  member_tokens k i = domain_tokens k i ++ problem_tokens i

  -- the members is, of which the first has action k as its first
  unfoldable pub members_tokens : ℕ → List ℕ → List Token
  members_tokens k [] = []
  members_tokens k (i ∷ is) = member_tokens k i ++ members_tokens (k + length (own t i)) is

  lexes_members : (k : ℕ) (is : List ℕ) → Lexes outer (members_text t k is) (members_tokens k is) outer
  unfolding members_text member_text members_tokens
  lexes_members k [] = record { reads = λ more. refl }
  lexes_members k (i ∷ is) =
      lexes_then (lexes_then (lexes_domain k i) (lexes_problem i)) (lexes_members (k + length (own t i)) is)

  pub law-tokens : tokens (law_text t) ≡ members_tokens 0 (up_to (members t))
  unfolding law_text tokens_from
  law-tokens =
      ap tokens (sym (append-nil (law_text t))) ∙ (lexes_members 0 (up_to (members t))).reads []
      ∙ append-nil (members_tokens 0 (up_to (members t)))
