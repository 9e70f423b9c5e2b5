-- No accepted task has a text longer than 1,048,576 bytes. Assumes nothing.
use mathlib.Core.Path.{◌≡◌, refl, ap}
use mathlib.Core.Bool.{Bool}
use mathlib.Core.Logic.{⊎_elim}
use mathlib.Core.List.{List, [], ◌∷◌, ◌++◌, map, flatten, Memᴰ}
use Prim.Native.Nat.{ℕ, suc, ◌+◌, ◌*◌, ◌/◌, ◌%◌, ◌^◌, ◌≤◌, ◌<◌}
use native.Mathlib.Nat.{mul-suc, mul-le-mul_left}
use native.Mathlib.Omega.{arith}
use lib.ListN.{length, length-append}
use borrow.Author.Tests.{lt-ltb}
use Rattle.semantics.specs.Base.{numbers_from, up_to, keep}
use Rattle.semantics.specs.Mask.{has, standing}
use Rattle.semantics.specs.Task.{facts, members, actions, initial, goal, pre, wait, add, del, check}
use Rattle.semantics.specs.Text.{comma, cr, lf, digits}
use Rattle.semantics.specs.PddlWrite.{own, order, spelt, each, numbered, atom_text, negation_text}
use Rattle.semantics.specs.PddlWrite.{effects_text, action_text, domain_text, goal_text, problem_text, member_text}
use Rattle.semantics.specs.PddlWrite.{members_text, law_text, wait_text, action_waits, waits_text}
use Rattle.theory.proofs.Lists.{lt-or_ge, filter-mem, up_to_mem, up_to_length}
use Rattle.theory.proofs.Accepted.{accepted}
use Rattle.pddl_theory.specs.Inner.Limits.{most_facts}
use Rattle.pddl_theory.proofs.RegroupedWords.{order-length}
use Rattle.text.proofs.Longest.{field_length}
use Rattle.text.proofs.RoundTrip.{word_field}
use Rattle.report.proofs.Laws.{digits-one, digits_more}
use Rattle.pddl_write.specs.declared.Part.{Part}
use Rattle.pddl_write.specs.declared.Part.TheVariants.{Law, Waits}
use Rattle.pddl_write.specs.Inner.Parts.{text_of}
use Rattle.pddl_write.specs.Inner.Put.{most}
use Rattle.pddl_write.proofs.Laws.{keep-few}

-- ---- lengths of lists of texts

each-most : (g : ℕ → List ℕ) (B : ℕ) (xs : List ℕ) → ((x : ℕ) → Memᴰ x xs → length (g x) ≤ B)
    → length (each g xs) ≤ B * length xs
unfolding each flatten
each-most g B [] h = omega arith
each-most g B (x ∷ xs) h =
    omega (
      arith,
      length-append (g x) (each g xs),
      h x (Memᴰ.head refl),
      each-most g B xs (λ y m. h y (Memᴰ.tail m)),
      mul-suc B (length xs),
    )

numbered-most : (g : ℕ → ℕ → List ℕ) (B : ℕ) → ((k x : ℕ) → k < 2 ^ 64 → length (g k x) ≤ B)
    → (k : ℕ) (xs : List ℕ) → k + length xs ≤ 2 ^ 64 → length (numbered g k xs) ≤ B * length xs
unfolding numbered
numbered-most g B h k [] l = omega arith
numbered-most g B h k (x ∷ xs) l =
    omega (
      arith,
      length-append (g k x) (numbered g (suc k) xs),
      h k x (omega arith),
      numbered-most g B h (suc k) xs (omega arith),
      mul-suc B (length xs),
    )

-- ---- digits

-- one digit more
digits-next : (v n : ℕ) → 10 ≤ v → length (digits (v / 10)) ≤ n → length (digits v) ≤ n + 1
digits-next v n l h =
    omega (arith, ap length (digits_more v l), length-append (digits (v / 10)) ((48 + v % 10) ∷ []))

digits-two : (v : ℕ) → v < 100 → length (digits v) ≤ 2
digits-two v h =
    ⊎_elim (λ (l : v < 10). omega (arith, ap length (digits-one v l)))
    (λ (l : 10 ≤ v).
    let one : length (digits (v / 10)) ≤ 1 = omega (arith, ap length (digits-one (v / 10) (omega arith))) in
    digits-next v 1 l one)
    (lt-or_ge v 10)

digits_three : (v : ℕ) → v < 1000 → length (digits v) ≤ 3
digits_three v h =
    ⊎_elim (λ (l : v < 100). omega (arith, digits-two v l))
    (λ (l : 100 ≤ v). digits-next v 2 (omega arith) (digits-two (v / 10) (omega arith)))
    (lt-or_ge v 100)

digits-word : (v : ℕ) → v < 2 ^ 64 → length (digits v) ≤ 20
digits-word v h = field_length (digits v) (word_field v (lt-ltb v (2 ^ 64) h))

between-length : (p : List ℕ) (v : ℕ) (q : List ℕ)
    → length (p ++ (digits v ++ q)) ≡ length p + (length (digits v) + length q)
between-length p v q = omega (arith, length-append p (digits v ++ q), length-append (digits v) q)

-- ---- facts

module _ (g : ℕ → List ℕ) (B : ℕ) (h : (f : ℕ) → f < most_facts → length (g f) ≤ B) (F : ℕ) (few : F ≤ most_facts) where
  pub below-most : length (each g (up_to F)) ≤ B * most_facts
  below-most =
      let l : length (up_to F) ≤ most_facts = omega (arith, up_to_length F) in
      omega (
        arith,
        each-most g B (up_to F) (λ f m. h f (omega (arith, up_to_mem F m))),
        mul-le-mul_left B l,
      )

  pub standing-most : (x : ℕ) → length (each g (standing F x)) ≤ B * most_facts
  unfolding standing
  standing-most x =
      let p : ℕ → Bool = λ f. has f x in
      let l : length (keep p (up_to F)) ≤ most_facts = omega (arith, keep-few p (up_to F), up_to_length F) in
      omega (
        arith,
        each-most g B (keep p (up_to F)) (λ f m. h f (omega (arith, up_to_mem F (filter-mem p (up_to F) m).0))),
        mul-le-mul_left B l,
      )

atom-most : (f : ℕ) → f < most_facts → length (atom_text f) ≤ 7
unfolding atom_text spelt numbers_from
atom-most f h = omega (arith, between-length (spelt " (f") f (spelt ")"), digits_three f (omega arith))

negation-most : (f : ℕ) → f < most_facts → length (negation_text f) ≤ 13
unfolding negation_text spelt numbers_from
negation-most f h = omega (arith, between-length (spelt " (not (f") f (spelt "))"), digits_three f (omega arith))

-- ---- the law

module _ (t : List ℕ) (c : check t ≡ 0) where
  few : facts t ≤ most_facts
  few = (accepted t c).few-facts

  effects-most : (a : ℕ) → length (effects_text t a) ≤ 2580
  unfolding effects_text spelt numbers_from
  effects-most a =
      let p = spelt ")\n  :effect (and" in
      let adds = each atom_text (standing (facts t) (add t a)) in
      let dels = each negation_text (standing (facts t) (del t a)) in
      omega (
        arith,
        length-append p (adds ++ (dels ++ spelt "))")),
        length-append adds (dels ++ spelt "))"),
        length-append dels (spelt "))"),
        standing-most atom_text 7 atom-most (facts t) few (add t a),
        standing-most negation_text 13 negation-most (facts t) few (del t a),
      )

  action-most : (k a : ℕ) → k < 2 ^ 64 → length (action_text t k a) ≤ 3560
  unfolding action_text spelt numbers_from
  action-most k a h =
      let p = spelt "\n (:action a" in
      let q = spelt "\n  :parameters ()\n  :precondition (and" in
      let atoms = each atom_text (standing (facts t) (pre t a)) in
      omega (
        arith,
        length-append (p ++ (digits k ++ q)) (atoms ++ effects_text t a),
        between-length p k q,
        length-append atoms (effects_text t a),
        digits-word k h,
        standing-most atom_text 7 atom-most (facts t) few (pre t a),
        effects-most a,
      )

  domain-most : (k i : ℕ) → k + length (own t i) ≤ 2 ^ 64 → i < 2 ^ 64
      → length (domain_text t k i) ≤ 3560 * length (own t i) + 976
  unfolding domain_text spelt numbers_from
  domain-most k i h l =
      let p = spelt "(define (domain member" in
      let q = spelt ")\n (:predicates" in
      let atoms = each atom_text (up_to (facts t)) in
      let rows = numbered (action_text t) k (own t i) in
      omega (
        arith,
        length-append (p ++ (digits i ++ q)) (atoms ++ (spelt ")" ++ (rows ++ spelt ")\n"))),
        between-length p i q,
        length-append atoms (spelt ")" ++ (rows ++ spelt ")\n")),
        length-append (spelt ")") (rows ++ spelt ")\n"),
        length-append rows (spelt ")\n"),
        digits-word i l,
        below-most atom_text 7 atom-most (facts t) few,
        numbered-most (action_text t) 3560 action-most k (own t i) h,
      )

  goal-most : (i : ℕ) → length (goal_text t i) ≤ 915
  unfolding goal_text spelt numbers_from
  goal-most i =
      let p = spelt ")\n (:goal (and" in
      let atoms = each atom_text (standing (facts t) (goal t i)) in
      omega (
        arith,
        length-append p (atoms ++ spelt ")))\n"),
        length-append atoms (spelt ")))\n"),
        standing-most atom_text 7 atom-most (facts t) few (goal t i),
      )

  problem-most : (i : ℕ) → i < 2 ^ 64 → length (problem_text t i) ≤ 1924
  unfolding problem_text spelt numbers_from
  problem-most i l =
      let p = spelt "(define (problem member" in
      let q = spelt "\n (:domain member" in
      let r = spelt ")\n (:init" in
      let atoms = each atom_text (standing (facts t) (initial t)) in
      omega (
        arith,
        length-append (p ++ (digits i ++ spelt ")")) ((q ++ (digits i ++ r)) ++ (atoms ++ goal_text t i)),
        between-length p i (spelt ")"),
        length-append (q ++ (digits i ++ r)) (atoms ++ goal_text t i),
        between-length q i r,
        length-append atoms (goal_text t i),
        digits-word i l,
        standing-most atom_text 7 atom-most (facts t) few (initial t),
        goal-most i,
      )

  members-most : (k : ℕ) (is : List ℕ) → ((i : ℕ) → Memᴰ i is → i < 2 ^ 64)
      → k + length (flatten (map (own t) is)) ≤ 2 ^ 64
      → length (members_text t k is) ≤ 3560 * length (flatten (map (own t) is)) + 2900 * length is
  unfolding members_text member_text flatten
  members-most k [] h l = omega arith
  members-most k (i ∷ is) h l =
      let i-small : i < 2 ^ 64 = h i (Memᴰ.head refl) in
      let e : length (own t i ++ flatten (map (own t) is)) ≡ length (own t i) + length (flatten (map (own t) is)) =
      length-append (own t i) (flatten (map (own t) is)) in
      omega (
        arith,
        e,
        length-append (domain_text t k i ++ problem_text t i) (members_text t (k + length (own t i)) is),
        length-append (domain_text t k i) (problem_text t i),
        domain-most k i (omega (arith, e)) i-small,
        problem-most i i-small,
        members-most (k + length (own t i)) is (λ j m. h j (Memᴰ.tail m)) (omega (arith, e)),
      )

  pub law-most : length (law_text t) ≤ most
  unfolding law_text order
  law-most =
      let e : length (flatten (map (own t) (up_to (members t)))) ≡ actions t = ordered in
      let a = accepted t c in
      let n : members t ≤ 8 = a.few-members in
      let m : actions t ≤ 256 = a.few-actions in
      omega (
        arith,
        e,
        n,
        m,
        up_to_length (members t),
        members-most 0 (up_to (members t)) (λ i j. omega (arith, n, up_to_mem (members t) j)) (omega (arith, e, m)),
      )
    where
      ordered : length (flatten (map (own t) (up_to (members t)))) ≡ actions t
      ordered = order-length t (accepted t c)

  -- ---- the waits

  wait-most : (k : ℕ) → k < 2 ^ 64 → (f : ℕ) → f < most_facts → length (wait_text k f) ≤ 26
  unfolding wait_text
  wait-most k h f l =
      omega (
        arith,
        length-append (digits k) (comma ∷ (digits f ++ (cr ∷ lf ∷ []))),
        length-append (digits f) (cr ∷ lf ∷ []),
        digits-word k h,
        digits_three f (omega arith),
      )

  pub waits-most : length (waits_text t) ≤ most
  unfolding waits_text action_waits
  waits-most =
      let m : actions t ≤ 256 = (accepted t c).few-actions in
      let e : length (order t) ≡ actions t = order-length t (accepted t c) in
      omega (
        arith,
        e,
        m,
        numbered-most (action_waits t) 3328
            (λ k a h. standing-most (wait_text k) 26 (wait-most k h) (facts t) few (wait t a)) 0 (order t)
            (omega (arith, e, m)),
      )

  -- ---- both

  pub text-most : (part : Part) → length (text_of part t) ≤ most
  text-most Law = law-most
  text-most Waits = waits-most
