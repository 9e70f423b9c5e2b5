-- The names and the limits of what is written. Assumes nothing.
use mathlib.Core.Path.{◌≡◌, refl, sym, ap, ap₂, ◌∙◌}
use mathlib.Core.Bool.{Bool, true, false}
use mathlib.Core.Logic.{⊎_elim}
use mathlib.Core.List.{List, [], ◌∷◌, ◌++◌, map, flatten, Memᴰ}
use Prim.Native.Nat.{ℕ, zero, suc, ◌+◌, ◌^◌, ◌≤◌, ◌<◌}
use native.Mathlib.Omega.{arith}
use lib.ListN.{length, length-append, length-map}
use borrow.Author.Tests.{le-leb}
use Rattle.semantics.specs.Base.{numbers_from, up_to, any_of, all_of}
use Rattle.semantics.specs.Task.{facts, members, actions, initial, goal, pre, add, del, check}
use Rattle.semantics.specs.Text.{digits}
use Rattle.semantics.specs.Pddl.{same, is_in, none_twice, Member, predicates_of, initially_of, actions_of, known}
use Rattle.semantics.specs.Pddl.{known_action, same_names, well_named, waits_known, named, in_limits}
use Rattle.semantics.specs.PddlWrite.{own, order}
use Rattle.theory.proofs.Lists.{and_intro, or_left, or_right, lt-or_ge, up_to_length}
use Rattle.theory.proofs.Accepted.{accepted}
use Rattle.text.proofs.Lists.{all_both}
use Rattle.pddl_theory.specs.Inner.Limits.{most_facts}
use Rattle.pddl_theory.proofs.RegroupedWords.{order-length}
use Rattle.pddl_trip.proofs.Lexed.{fact_name, action_name, member_name, facts_in}
use Rattle.pddl_trip.proofs.Grammar.{holds, lacks, action_of, actions_from, member_of, members_from}
use Rattle.pddl_theory.proofs.Sets.{same_refl, same_set-refl}
use Rattle.pddl_trip.proofs.Masks.{names_apart, standing-below}
use Rattle.pddl_trip.proofs.Waits.{wait_words, waits-known}

-- ---- names with numbers

abbrev name_with : ℕ → ℕ → List ℕ
name_with b x = b ∷ digits x

module _ (b : ℕ) where
  abbrev names_from : ℕ → ℕ → List (List ℕ)
  names_from k c = map (name_with b) (numbers_from k c)

  not-among : (x k c : ℕ) → x < k → k + c ≤ 2 ^ 64 → is_in (names_from k c) (name_with b x) ≡ false
  unfolding numbers_from any_of
  not-among x k zero h l = refl
  not-among x k (suc c) h l =
      rw (names_apart b x k (omega arith) (omega arith) (λ (e : x ≡ k). omega arith))
      (not-among x (suc k) c (omega arith) (omega arith))

  none-twice : (k c : ℕ) → k + c ≤ 2 ^ 64 → none_twice (names_from k c) ≡ true
  unfolding numbers_from none_twice
  none-twice k zero h = refl
  none-twice k (suc c) h =
      rw (not-among k (suc k) c (omega arith) (omega arith)) (none-twice (suc k) c (omega arith))

  among : (x k c : ℕ) → k ≤ x → x < k + c → is_in (names_from k c) (name_with b x) ≡ true
  unfolding numbers_from any_of
  among x k zero h l = absurd (omega arith)
  among x k (suc c) h l =
      ⊎_elim
      (λ (g : k < x).
      or_right (same (name_with b x) (name_with b k)) (is_in (names_from (suc k) c) (name_with b x))
      (among x (suc k) c g (omega arith)))
      (λ (g : x ≤ k).
      let e : x ≡ k = omega arith in
      or_left (same (name_with b x) (name_with b k)) (is_in (names_from (suc k) c) (name_with b x))
      (ap (λ (y : ℕ). same (name_with b x) (name_with b y)) (sym e) ∙ same_refl (name_with b x)))
      (lt-or_ge k x)

all_map : {A : Type 0} (p : A → Bool) (g : ℕ → A) (xs : List ℕ) → ((x : ℕ) → Memᴰ x xs → p (g x) ≡ true)
    → all_of p (map g xs) ≡ true
unfolding all_of
all_map p g [] h = refl
all_map p g (x ∷ xs) h = and_intro (h x (Memᴰ.head refl)) (all_map p g xs (λ y m. h y (Memᴰ.tail m)))

same_names_lem : (ws : List (List ℕ)) → same_names ws ws ≡ true
unfolding same_names
same_names_lem [] = refl
same_names_lem (w ∷ ws) = and_intro (same_refl w) (same_names_lem ws)

-- ---- one member

module _ (t : List ℕ) where
  abbrev pub predicates : List (List ℕ)
  predicates = map fact_name (up_to (facts t))

  abbrev pub initially : List (List ℕ)
  initially = map fact_name (facts_in t (initial t))

  fact_in : (x f : ℕ) → Memᴰ f (facts_in t x) → is_in predicates (fact_name f) ≡ true
  fact_in x f m = among 102 f 0 (facts t) (omega arith) (omega (arith, standing-below (facts t) x f m))

  known-holds : (x : ℕ) → known predicates (map holds (facts_in t x)) ≡ true
  known-holds x = all_map (λ l. is_in predicates l.fact) holds (facts_in t x) (fact_in x)

  known-lacks : (x : ℕ) → known predicates (map lacks (facts_in t x)) ≡ true
  known-lacks x = all_map (λ l. is_in predicates l.fact) lacks (facts_in t x) (fact_in x)

  known-action : (k a : ℕ) → known_action predicates (action_of t k a) ≡ true
  known-action k a =
      and_intro (known-holds (pre t a))
      (all_both (λ l. is_in predicates l.fact) (map holds (facts_in t (add t a))) (map lacks (facts_in t (del t a)))
      (known-holds (add t a)) (known-lacks (del t a)))

  known-actions : (k : ℕ) (xs : List ℕ) → all_of (known_action predicates) (actions_from t k xs) ≡ true
  unfolding actions_from all_of
  known-actions k [] = refl
  known-actions k (a ∷ xs) = and_intro (known-action k a) (known-actions (suc k) xs)

  action-names : (k : ℕ) (xs : List ℕ)
      → map (λ a. a.called) (actions_from t k xs) ≡ map action_name (numbers_from k (length xs))
  unfolding actions_from numbers_from
  action-names k [] = refl
  action-names k (a ∷ xs) = ap (λ (l : List (List ℕ)). action_name k ∷ l) (action-names (suc k) xs)

  member-named : (k i : ℕ) → k + length (own t i) ≤ 2 ^ 64 → well_named predicates initially (member_of t k i) ≡ true
  unfolding well_named
  member-named k i h =
      and_intro (and_intro (and_intro (and_intro (and_intro (and_intro
      (same_names_lem predicates)
      (ap none_twice (action-names k (own t i)) ∙ none-twice 97 k (length (own t i)) h))
      (known-actions k (own t i)))
      (same_refl (member_name i)))
      (all_map (is_in predicates) fact_name (facts_in t (initial t)) (fact_in (initial t))))
      (same_set-refl initially))
      (known-holds (goal t i))

  members-named : (k : ℕ) (is : List ℕ) → k + length (flatten (map (own t) is)) ≤ 2 ^ 64
      → all_of (well_named predicates initially) (members_from t k is) ≡ true
  unfolding members_from all_of flatten
  members-named k [] h = refl
  members-named k (i ∷ is) h =
      let e : length (own t i ++ flatten (map (own t) is)) ≡ length (own t i) + length (flatten (map (own t) is)) =
      length-append (own t i) (flatten (map (own t) is)) in
      and_intro (member-named k i (omega (arith, e))) (members-named (k + length (own t i)) is (omega (arith, e)))

  -- ---- all members

  abbrev pub law : List Member
  law = members_from t 0 (up_to (members t))

  pub actions-length : (k : ℕ) (xs : List ℕ) → length (actions_from t k xs) ≡ length xs
  unfolding actions_from
  actions-length k [] = refl
  actions-length k (a ∷ xs) = ap suc (actions-length (suc k) xs)

  all-actions : (k : ℕ) (is : List ℕ) → length (actions_of (members_from t k is)) ≡ length (flatten (map (own t) is))
  unfolding members_from flatten
  all-actions k [] = refl
  all-actions k (i ∷ is) =
      omega (
        arith,
        length-append (actions_from t k (own t i)) (actions_of (members_from t (k + length (own t i)) is)),
        length-append (own t i) (flatten (map (own t) is)),
        actions-length k (own t i),
        all-actions (k + length (own t i)) is,
      )

  all-members : (k : ℕ) (is : List ℕ) → length (members_from t k is) ≡ length is
  unfolding members_from
  all-members k [] = refl
  all-members k (i ∷ is) = ap suc (all-members (k + length (own t i)) is)

  pub law-count : length law ≡ members t
  law-count = all-members 0 (up_to (members t)) ∙ up_to_length (members t)

  pub predicates-count : length predicates ≡ facts t
  predicates-count = length-map (up_to (facts t)) fact_name ∙ up_to_length (facts t)

  module _ (c : check t ≡ 0) where
    pub actions-count : length (actions_of law) ≡ actions t
    unfolding order
    actions-count = all-actions 0 (up_to (members t)) ∙ order-length t (accepted t c)

    firsts : (n : ℕ) → 1 ≤ n → (predicates_of (members_from t 0 (up_to n)) ≡ predicates)
        × (initially_of (members_from t 0 (up_to n)) ≡ initially)
    unfolding members_from numbers_from
    firsts zero h = absurd (omega arith)
    firsts (suc n) h = (refl, refl)

    pub law-predicates : predicates_of law ≡ predicates
    law-predicates = (firsts (members t) (accepted t c).some-members).0

    pub law-initially : initially_of law ≡ initially
    law-initially = (firsts (members t) (accepted t c).some-members).1

    pub law-named : named law (wait_words t) ≡ true
    unfolding named order
    law-named =
        let few : facts t ≤ most_facts = (accepted t c).few-facts in
        let acts : actions t ≤ 256 = (accepted t c).few-actions in
        let sum : length (flatten (map (own t) (up_to (members t)))) ≡ actions t = order-length t (accepted t c) in
        and_intro (and_intro
        (ap none_twice law-predicates ∙ none-twice 102 0 (facts t) (omega arith))
        (ap₂ (λ (P I : List (List ℕ)). all_of (well_named P I) law) law-predicates law-initially
        ∙ members-named 0 (up_to (members t)) (omega (arith, sum))))
        (ap₂ (λ (m F : ℕ). waits_known m F (wait_words t)) actions-count (ap length law-predicates ∙ predicates-count)
        ∙ waits-known t c)

    pub law-limits : in_limits law ≡ true
    unfolding in_limits
    law-limits =
        let a = accepted t c in
        and_intro (and_intro
        (le-leb (length (predicates_of law)) most_facts
        (omega (arith, ap length law-predicates, predicates-count, a.few-facts)))
        (le-leb (length law) 8 (omega (arith, law-count, a.few-members))))
        (le-leb (length (actions_of law)) 256 (omega (arith, actions-count, a.few-actions)))
