-- The words of the members that are read are those of the grouped task. Assumes nothing.
use mathlib.Core.Path.{◌≡◌, refl, sym, ap, ap₂, ◌∙◌}
use mathlib.Core.Bool.{true, false}
use mathlib.Core.List.{List, [], ◌∷◌, ◌++◌, map, flatten, append_assoc, Memᴰ}
use Prim.Native.Nat.{ℕ, zero, suc, ◌+◌, ◌*◌, ◌≤◌, ◌<◌}
use native.Mathlib.Omega.{arith}
use lib.ListN.{length, take, length-append}
use borrow.Author.Tests.{eqb-true}
use Rattle.semantics.specs.Base.{numbers_from, up_to, collect}
use Rattle.semantics.specs.Mask.{below}
use Rattle.semantics.specs.Words as Words
use Rattle.semantics.specs.Words.{row_words}
use Rattle.semantics.specs.Task.{row_width, word, facts, members, actions, initial, goal, owner, pre, wait, add, del}
use Rattle.semantics.specs.Task.{check}
use Rattle.semantics.specs.Pddl.{mask_of, facts_of, fact_mask, wait_mask, goal_rows, own_rows, action_rows, words_of}
use Rattle.semantics.specs.Pddl.{initially_of, actions_of}
use Rattle.semantics.specs.PddlWrite.{own, order, row_of, grouped, numbered}
use Rattle.theory.proofs.Lists.{filter-mem}
use Rattle.theory.proofs.Words.{low_of, high-of}
use Rattle.theory.proofs.Accepted.{accepted}
use Rattle.pddl_write.specs.Inner.Put.{is_own}
use Rattle.pddl_trip.proofs.Lexed.{fact_name, facts_in}
use Rattle.pddl_trip.proofs.Grammar.{holds, lacks, actions_from, members_from}
use Rattle.pddl_trip.proofs.Masks.{written-mask}
use Rattle.pddl_trip.proofs.Waits.{action_pairs, wait_words, wait-at}
use Rattle.pddl_trip.proofs.Names.{predicates, law, law-count, predicates-count, actions-count, law-initially}
use Rattle.pddl_trip.proofs.Names.{actions-length}
use Rattle.pddl_trip.proofs.Rows.{row_at, rows-from, zero_word}

-- ---- the facts of literals

held-facts : (xs ys : List ℕ) → facts_of false (map holds xs ++ map lacks ys) ≡ map fact_name xs
unfolding collect
held-facts [] [] = refl
held-facts [] (y ∷ ys) = held-facts [] ys
held-facts (x ∷ xs) ys = ap (λ (l : List (List ℕ)). fact_name x ∷ l) (held-facts xs ys)

lacked-facts : (xs ys : List ℕ) → facts_of true (map holds xs ++ map lacks ys) ≡ map fact_name ys
unfolding collect
lacked-facts [] [] = refl
lacked-facts [] (y ∷ ys) = ap (λ (l : List (List ℕ)). fact_name y ∷ l) (lacked-facts [] ys)
lacked-facts (x ∷ xs) ys = lacked-facts xs ys

only_facts : (xs : List ℕ) → facts_of false (map holds xs) ≡ map fact_name xs
unfolding collect
only_facts [] = refl
only_facts (x ∷ xs) = ap (λ (l : List (List ℕ)). fact_name x ∷ l) (only_facts xs)

-- ---- rows

rows_append : (g : ℕ → List ℕ) (xs ys : List ℕ)
    → flatten (map g (xs ++ ys)) ≡ flatten (map g xs) ++ flatten (map g ys)
unfolding flatten
rows_append g [] ys = refl
rows_append g (x ∷ xs) ys =
    ap (λ (l : List ℕ). g x ++ l) (rows_append g xs ys)
    ∙ sym (append_assoc (g x) (flatten (map g xs)) (flatten (map g ys)))

own-owner : (t : List ℕ) (i a : ℕ) → Memᴰ a (own t i) → owner t a ≡ i
unfolding own
own-owner t i a m = eqb-true (owner t a) i (filter-mem (is_own t i) (up_to (actions t)) m).1

abbrev goal_at : List ℕ → ℕ → List ℕ
goal_at t i = row_words i (goal t i) 0 0 0

module _ (t : List ℕ) (c : check t ≡ 0) where
  abbrev P : List (List ℕ)
  P = predicates t

  mask : (x : ℕ) → below (facts t) x ≡ true → mask_of P (map fact_name (facts_in t x)) ≡ x
  mask x h = written-mask (facts t) x (accepted t c).few-facts h

  goal-mask : (i : ℕ) → i < members t → fact_mask P false (map holds (facts_in t (goal t i))) ≡ goal t i
  goal-mask i h =
      ap (mask_of P) (only_facts (facts_in t (goal t i))) ∙ mask (goal t i) ((accepted t c).goal-fits i h).below

  goal-rows : (i n k : ℕ) → i + n ≤ members t
      → goal_rows P i (members_from t k (numbers_from i n)) ≡ flatten (map (goal_at t) (numbers_from i n))
  unfolding goal_rows members_from numbers_from flatten
  goal-rows i zero k h = refl
  goal-rows i (suc n) k h =
      ap₂ (λ (x : ℕ) (l : List ℕ). row_words i x 0 0 0 ++ l) (goal-mask i (omega arith))
      (goal-rows (suc i) n (k + length (own t i)) (omega arith))

  -- the waits of the action behind those of `front`
  waited : (front : List ℕ) (a : ℕ) (back : List ℕ) → order t ≡ front ++ (a ∷ back)
      → below (facts t) (wait t a) ≡ true → wait_mask (length front) (wait_words t) ≡ wait t a
  waited front a back e h =
      ap (λ (l : List ℕ). wait_mask (length front) (numbered (action_pairs t) 0 l)) e ∙ wait-at t front a back h

  -- the rows of member i's actions xs, which stand in the order behind those of `front`
  own-rows : (i : ℕ) (front xs back : List ℕ) → ((a : ℕ) → Memᴰ a xs → owner t a ≡ i)
      → order t ≡ front ++ (xs ++ back)
      → own_rows P (wait_words t) i (length front) (actions_from t (length front) xs) ≡ flatten (map (row_of t) xs)
  unfolding own_rows actions_from flatten row_of
  own-rows i front [] back h e = refl
  own-rows i front (a ∷ xs) back h e =
      let fits = (accepted t c).action-fits a in
      let adds = facts_in t (add t a) in
      let dels = facts_in t (del t a) in
      let o : i ≡ owner t a = sym (h a (Memᴰ.head refl)) in
      let p : fact_mask P false (map holds (facts_in t (pre t a))) ≡ pre t a =
      ap (mask_of P) (only_facts (facts_in t (pre t a))) ∙ mask (pre t a) fits.pre-below in
      let w : wait_mask (length front) (wait_words t) ≡ wait t a = waited front a (xs ++ back) e fits.wait-below in
      let m : fact_mask P false (map holds adds ++ map lacks dels) ≡ add t a =
      ap (mask_of P) (held-facts adds dels) ∙ mask (add t a) fits.add-below in
      let d : fact_mask P true (map holds adds ++ map lacks dels) ≡ del t a =
      ap (mask_of P) (lacked-facts adds dels) ∙ mask (del t a) fits.del-below in
      let n : suc (length front) ≡ length (front ++ (a ∷ [])) = omega (arith, length-append front (a ∷ [])) in
      let e' : order t ≡ (front ++ (a ∷ [])) ++ (xs ++ back) =
      e ∙ sym (append_assoc front (a ∷ []) (xs ++ back)) in
      let rest : own_rows P (wait_words t) i (suc (length front)) (actions_from t (suc (length front)) xs)
      ≡ flatten (map (row_of t) xs) =
      ap (λ (k : ℕ). own_rows P (wait_words t) i k (actions_from t k xs)) n
      ∙ own-rows i (front ++ (a ∷ [])) xs back (λ b q. h b (Memᴰ.tail q)) e' in
      ap₂ (λ (x y : ℕ). row_words x y (wait_mask (length front) (wait_words t))
      (fact_mask P false (map holds adds ++ map lacks dels)) (fact_mask P true (map holds adds ++ map lacks dels))
      ++ own_rows P (wait_words t) i (suc (length front)) (actions_from t (suc (length front)) xs)) o p
      ∙ ap₂ (λ (x y : ℕ). row_words (owner t a) (pre t a) x y (fact_mask P true (map holds adds ++ map lacks dels))
      ++ own_rows P (wait_words t) i (suc (length front)) (actions_from t (suc (length front)) xs)) w m
      ∙ ap₂ (λ (x : ℕ) (l : List ℕ). row_words (owner t a) (pre t a) (wait t a) (add t a) x ++ l) d rest

  -- the rows of the members is, whose actions stand in the order behind those of `front`
  action-rows : (i n : ℕ) (front : List ℕ) → order t ≡ front ++ flatten (map (own t) (numbers_from i n))
      → action_rows P (wait_words t) i (length front) (members_from t (length front) (numbers_from i n))
      ≡ flatten (map (row_of t) (flatten (map (own t) (numbers_from i n))))
  unfolding action_rows members_from numbers_from flatten
  action-rows i zero front e = refl
  action-rows i (suc n) front e =
      let xs = own t i in
      let back = flatten (map (own t) (numbers_from (suc i) n)) in
      let k = length front in
      let next : k + length (actions_from t k xs) ≡ length (front ++ xs) =
      omega (arith, actions-length t k xs, length-append front xs) in
      let here : k + length xs ≡ length (front ++ xs) = sym (length-append front xs) in
      ap₂ (λ (p q : List ℕ). p ++ q) (own-rows i front xs back (own-owner t i) e)
      (ap₂ (λ (a b : ℕ). action_rows P (wait_words t) (suc i) a (members_from t b (numbers_from (suc i) n))) next here
      ∙ action-rows (suc i) n (front ++ xs) (e ∙ sym (append_assoc front xs back)))
      ∙ sym (rows_append (row_of t) xs back)

  -- ---- row 0 and the goal rows

  abbrev head_row : List ℕ
  head_row = facts t ∷ members t ∷ actions t ∷ (Words.words_of (initial t) ++ (0 ∷ 0 ∷ 0 ∷ 0 ∷ []))

  head-row : row_at t 0 ≡ head_row
  unfolding numbers_from
  head-row =
      let fits = accepted t c in
      let zero-at : (j : ℕ) → j < 4 → word t 0 (5 + j) ≡ 0 = zero_word t 0 5 fits.head-zeros in
      rw (
        low_of (word t 0 3) (word t 0 4) fits.initial-low,
        high-of (word t 0 3) (word t 0 4) fits.initial-low,
        zero-at 0 (omega arith),
        zero-at 1 (omega arith),
        zero-at 2 (omega arith),
        zero-at 3 (omega arith),
      )

  goal-row : (i : ℕ) → i < members t → row_at t (1 + i) ≡ goal_at t i
  unfolding numbers_from
  goal-row i h =
      let fits = (accepted t c).goal-fits i h in
      let zero-at : (j : ℕ) → j < 6 → word t (1 + i) (3 + j) ≡ 0 = zero_word t (1 + i) 3 fits.zeros in
      rw (
        low_of (word t (1 + i) 1) (word t (1 + i) 2) fits.low,
        high-of (word t (1 + i) 1) (word t (1 + i) 2) fits.low,
        fits.number,
        zero-at 0 (omega arith),
        zero-at 1 (omega arith),
        zero-at 2 (omega arith),
        zero-at 3 (omega arith),
        zero-at 4 (omega arith),
        zero-at 5 (omega arith),
      )

  goal-part : (i n : ℕ) → i + n ≤ members t
      → flatten (map (row_at t) (numbers_from (suc i) n)) ≡ flatten (map (goal_at t) (numbers_from i n))
  unfolding flatten numbers_from
  goal-part i zero h = refl
  goal-part i (suc n) h =
      let e : suc i ≡ 1 + i = omega arith in
      ap₂ (λ (xs ys : List ℕ). xs ++ ys) (ap (row_at t) e ∙ goal-row i (omega arith))
      (goal-part (suc i) n (omega arith))

  front-rows : take (row_width * (1 + members t)) t
      ≡ head_row ++ flatten (map (goal_at t) (up_to (members t)))
  unfolding flatten numbers_from
  front-rows =
      let e : 1 + members t ≡ suc (members t) = omega arith in
      ap (λ (n : ℕ). take (row_width * n) t) e
      ∙ rows-from t 0 (suc (members t)) (omega (arith, (accepted t c).size))
      ∙ ap₂ (λ (xs ys : List ℕ). xs ++ ys) head-row (goal-part 0 (members t) (omega arith))

  -- ---- all words

  pub law-words : words_of P (wait_words t) (law t) ≡ grouped t
  unfolding words_of grouped order
  law-words =
      let goals = goal_rows P 0 (law t) in
      let rows = action_rows P (wait_words t) 0 0 (law t) in
      ap₂ (λ (x y : ℕ). x ∷ y ∷ length (actions_of (law t)) ∷ (Words.words_of (mask_of P (initially_of (law t)))
      ++ (0 ∷ 0 ∷ 0 ∷ 0 ∷ (goals ++ rows)))) (predicates-count t) (law-count t)
      ∙ ap₂ (λ (x y : ℕ). facts t ∷ members t ∷ x ∷ (Words.words_of y ++ (0 ∷ 0 ∷ 0 ∷ 0 ∷ (goals ++ rows))))
      (actions-count t c)
      (ap (mask_of P) (law-initially t c) ∙ mask (initial t) (accepted t c).initial-below)
      ∙ ap₂ (λ (xs ys : List ℕ). head_row ++ (xs ++ ys))
      (goal-rows 0 (members t) 0 (omega arith)) (action-rows 0 (members t) [] refl)
      ∙ ap (λ (xs : List ℕ). xs ++ flatten (map (row_of t) (order t))) (sym front-rows)
