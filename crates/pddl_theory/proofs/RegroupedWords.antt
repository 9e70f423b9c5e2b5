-- The words of a grouped task: its head and goals are those of the task, and its action k is the task's action that
-- stands at k in the order. An accepted task's grouped task is accepted.
use mathlib.Core.Path.{◌≡◌, refl, sym, ap, ap₂, ◌∙◌}
use mathlib.Core.Bool.{Bool, not}
use mathlib.Core.Logic.{⊎_elim}
use mathlib.Core.List.Memᴰ
use mathlib.Core.List.{List, [], ◌∷◌, ◌++◌, map, flatten, Memᴰ}
use Prim.Native.Nat.{ℕ, zero, suc, ◌+◌, ◌-◌, ◌*◌, ◌≤◌, ◌<◌}
use native.Mathlib.Omega.{arith}
use lib.ListN.{length, get_or, take, length-append, get_or-append, get_or-eq_default}
use lib.Seq.{length-take-le, get_or-take, get_or-append-add}
use lib.Dec.{eqb, ltb}
use borrow.Author.Tests.{eqb-true, eq-eqb}
use Rattle.semantics.specs.Base.{numbers_from, up_to, all_of, collect, keep, ◌if◌, ◌else◌, first_refusal}
use Rattle.semantics.specs.Words.{of_words}
use Rattle.semantics.specs.Task.{row_width, word, mask_in, facts, members, actions, initial, goal, owner}
use Rattle.semantics.specs.Task.{zeros_from, mask_fits, head_fits, goal_row, action_row, check}
use Rattle.semantics.specs.PddlWrite.{own, order, row_of, grouped}
use Rattle.theory.proofs.Lists.{lt-or_ge, not-true-false, collect_yes, collect-no, filter-mem, mem-filter, up_to_mem}
use Rattle.theory.proofs.Lists.{mem_up_to, up_to_length, mem-flatten, mem-get_d, mem_index, get_d_any}
use Rattle.theory.proofs.Refusals.{else_both, no-refusal, up_to_refusal}
use Rattle.theory.proofs.Words.{low_of, high-of}
use Rattle.theory.proofs.Accepted.{Accepted, accepted}
use Rattle.pddl_theory.proofs.RegroupedTasks.{action_word}

-- ---- a list in groups, by a number of each entry

module _ (f : ℕ → ℕ) where
  abbrev group : List ℕ → ℕ → List ℕ
  group xs i = keep (λ a. eqb (f a) i) xs

  -- the groups k, k + 1, .., c of them, one after the other
  abbrev groups : List ℕ → ℕ → ℕ → List ℕ
  groups xs k c = flatten (map (group xs) (numbers_from k c))

  keep_yes : (x : ℕ) (xs : List ℕ) (i : ℕ) → f x ≡ i → group (x ∷ xs) i ≡ x ∷ group xs i
  unfolding keep
  keep_yes x xs i e = collect_yes (λ a. eqb (f a) i) (λ a. a) x xs (eq-eqb (f x) i e)

  keep-no : (x : ℕ) (xs : List ℕ) (i : ℕ) → (f x ≡ i → ⊥) → group (x ∷ xs) i ≡ group xs i
  unfolding keep
  keep-no x xs i n =
      collect-no (λ a. eqb (f a) i) (λ a. a) x xs (not-true-false (eqb (f x) i) (λ e. n (eqb-true (f x) i e)))

  -- an entry of a lower group is in none of them
  group-out : (x : ℕ) (xs : List ℕ) (k c : ℕ) → f x < k → groups (x ∷ xs) k c ≡ groups xs k c
  unfolding numbers_from flatten
  group-out x xs k zero h = refl
  group-out x xs k (suc c) h =
      rw (keep-no x xs k (λ (e : f x ≡ k). omega arith), group-out x xs (suc k) c (omega arith))

  -- else it is in one
  group_in : (x : ℕ) (xs : List ℕ) (k c : ℕ) → k ≤ f x → f x < k + c
      → length (groups (x ∷ xs) k c) ≡ suc (length (groups xs k c))
  unfolding numbers_from flatten
  group_in x xs k zero l h = absurd (omega arith)
  group_in x xs k (suc c) l h =
      ⊎_elim
      (λ (g : k < f x).
      let r = group_in x xs (suc k) c g (omega arith) in
      rw (keep-no x xs k (λ (e : f x ≡ k). omega arith))
      (omega (
        arith,
        length-append (group xs k) (groups (x ∷ xs) (suc k) c),
        length-append (group xs k) (groups xs (suc k) c),
        r,
      )))
      (λ (g : f x ≤ k).
      let e : f x ≡ k = omega arith in
      rw (keep_yes x xs k e, group-out x xs (suc k) c (omega arith)))
      (lt-or_ge k (f x))

  empty-groups : (k c : ℕ) → groups [] k c ≡ []
  unfolding numbers_from flatten keep collect
  empty-groups k zero = refl
  empty-groups k (suc c) = empty-groups (suc k) c

  groups-length : (xs : List ℕ) (n : ℕ) → ((x : ℕ) → Memᴰ x xs → f x < n) → length (groups xs 0 n) ≡ length xs
  groups-length [] n h = ap length (empty-groups 0 n)
  groups-length (x ∷ xs) n h =
      group_in x xs 0 n (omega arith) (omega (arith, h x (Memᴰ.head refl)))
      ∙ ap suc (groups-length xs n (λ y m. h y (Memᴰ.tail m)))

-- what all lists together have, one of them has
flatten-mem : {A B : Type 0} (g : A → List B) {y : B} (xs : List A) → Memᴰ y (flatten (map g xs))
    → (x : A) × Memᴰ x xs × Memᴰ y (g x)
unfolding flatten
flatten-mem g [] m = absurd (Memᴰ.not-nil m)
flatten-mem g (x ∷ xs) m =
    ⊎_elim (λ n. (x, Memᴰ.head refl, n))
    (λ n. let r = flatten-mem g xs n in (r.0, Memᴰ.tail r.1, r.2))
    (Memᴰ.append_cases (g x) m)

-- ---- the order

order_below : (t : List ℕ) (a : ℕ) → Memᴰ a (order t) → a < actions t
unfolding order own
order_below t a m =
    let r = flatten-mem (own t) (up_to (members t)) m in
    up_to_mem (actions t) (filter-mem (λ b. eqb (owner t b) r.0) (up_to (actions t)) r.2).0

module _ (t : List ℕ) (fits : Accepted t) where
  pub order-length : length (order t) ≡ actions t
  unfolding order own
  order-length =
      groups-length (owner t) (up_to (actions t)) (members t) (λ a m. fits.owner-member a (up_to_mem (actions t) m))
      ∙ up_to_length (actions t)

  pub order-entry : (k : ℕ) → k < actions t → get_or (order t) k 0 < actions t
  order-entry k h = order_below t (get_or (order t) k 0) (mem-get_d (order t) k 0 (omega (arith, order-length)))

  order-all : (a : ℕ) → a < actions t → Memᴰ a (order t)
  unfolding order own
  order-all a h =
      mem-flatten (own t) (mem_up_to (fits.owner-member a h))
      (mem-filter (λ b. eqb (owner t b) (owner t a)) (mem_up_to h) (eq-eqb (owner t a) (owner t a) refl))

  pub order_index : (a : ℕ) → a < actions t → (k : ℕ) × (k < actions t) × (get_or (order t) k 0 ≡ a)
  order_index a h = let r = mem_index 0 (order-all a h) in (r.0, omega (arith, order-length, r.1), r.2)

-- ---- the words

-- a row is its own nine words, as its masks' low words are words
row_is : (t : List ℕ) → Accepted t → (a : ℕ)
    → row_of t a ≡ map (action_word t a) (0 ∷ 1 ∷ 2 ∷ 3 ∷ 4 ∷ 5 ∷ 6 ∷ 7 ∷ 8 ∷ [])
unfolding row_of
row_is t fits a =
    let h = fits.action-fits a in
    let w = action_word t a in
    rw (
      low_of (w 1) (w 2) h.pre-low,
      high-of (w 1) (w 2) h.pre-low,
      low_of (w 3) (w 4) h.wait-low,
      high-of (w 3) (w 4) h.wait-low,
      low_of (w 5) (w 6) h.add_low,
      high-of (w 5) (w 6) h.add_low,
      low_of (w 7) (w 8) h.del-low,
      high-of (w 7) (w 8) h.del-low,
    )

-- word c of the first of some rows
first_word : (t : List ℕ) → Accepted t → (rest : List ℕ) (a c : ℕ) → c < row_width
    → get_or (row_of t a ++ rest) c 0 ≡ action_word t a c
first_word t fits rest a c h = ap (λ (row : List ℕ). get_or (row ++ rest) c 0) (row_is t fits a) ∙ at c h
  where
    at : (k : ℕ) → k < row_width
        → get_or (map (action_word t a) (0 ∷ 1 ∷ 2 ∷ 3 ∷ 4 ∷ 5 ∷ 6 ∷ 7 ∷ 8 ∷ []) ++ rest) k 0 ≡ action_word t a k
    at zero l = refl
    at (suc zero) l = refl
    at (suc (suc zero)) l = refl
    at (suc (suc (suc zero))) l = refl
    at (suc (suc (suc (suc zero)))) l = refl
    at (suc (suc (suc (suc (suc zero))))) l = refl
    at (suc (suc (suc (suc (suc (suc zero)))))) l = refl
    at (suc (suc (suc (suc (suc (suc (suc zero))))))) l = refl
    at (suc (suc (suc (suc (suc (suc (suc (suc zero)))))))) l = refl
    at (suc (suc (suc (suc (suc (suc (suc (suc (suc k))))))))) l = absurd (omega arith)

-- the words of the others
later-word : (t rest : List ℕ) (a j : ℕ) → get_or (row_of t a ++ rest) (row_width + j) 0 ≡ get_or rest j 0
unfolding row_of
later-word t rest a j = get_or-append-add (row_of t a) rest j 0

-- word c of row k
row_word : (t : List ℕ) → Accepted t → (xs : List ℕ) (k c : ℕ) → k < length xs → c < row_width
    → get_or (flatten (map (row_of t) xs)) (row_width * k + c) 0 ≡ action_word t (get_or xs k 0) c
unfolding flatten
row_word t fits [] k c l h = absurd (omega arith)
row_word t fits (x ∷ xs) zero c l h =
    let rest = flatten (map (row_of t) xs) in
    let e : row_width * 0 + c ≡ c = omega arith in
    ap (λ (j : ℕ). get_or (row_of t x ++ rest) j 0) e ∙ first_word t fits rest x c h
row_word t fits (x ∷ xs) (suc k) c l h =
    let rest = flatten (map (row_of t) xs) in
    let e : row_width * suc k + c ≡ row_width + (row_width * k + c) = omega arith in
    ap (λ (j : ℕ). get_or (row_of t x ++ rest) j 0) e
    ∙ later-word t rest x (row_width * k + c)
    ∙ row_word t fits xs k c (omega arith) h

rows-length : (t xs : List ℕ) → length (flatten (map (row_of t) xs)) ≡ row_width * length xs
unfolding flatten row_of
rows-length t [] = refl
rows-length t (x ∷ xs) = let r = rows-length t xs in omega (arith, r)

module _ (t : List ℕ) (fits : Accepted t) where
  abbrev head : List ℕ
  head = take (row_width * (1 + members t)) t

  abbrev rows : List ℕ
  rows = flatten (map (row_of t) (order t))

  head-length : length head ≡ row_width * (1 + members t)
  head-length = length-take-le (row_width * (1 + members t)) t (omega (arith, fits.size))

  -- row 0 and the goal rows
  pub grouped-head : (r c : ℕ) → r < 1 + members t → c < row_width → word (grouped t) r c ≡ word t r c
  unfolding grouped
  grouped-head r c h l =
      get_or-append head rows 0 (row_width * r + c) (omega (arith, head-length))
      ∙ get_or-take (row_width * (1 + members t)) t (row_width * r + c) 0 (omega arith)

  pub grouped-facts : facts (grouped t) ≡ facts t
  grouped-facts = grouped-head 0 0 (omega arith) (omega arith)

  pub grouped-members : members (grouped t) ≡ members t
  grouped-members = grouped-head 0 1 (omega arith) (omega arith)

  pub grouped-actions : actions (grouped t) ≡ actions t
  grouped-actions = grouped-head 0 2 (omega arith) (omega arith)

  head-mask : (r k : ℕ) → r < 1 + members t → k + 1 < row_width → mask_in (grouped t) r k ≡ mask_in t r k
  head-mask r k h l = ap₂ of_words (grouped-head r k h (omega arith)) (grouped-head r (k + 1) h l)

  pub grouped-initial : initial (grouped t) ≡ initial t
  grouped-initial = head-mask 0 3 (omega arith) (omega arith)

  pub grouped-goal : (i : ℕ) → i < members t → goal (grouped t) i ≡ goal t i
  grouped-goal i h = head-mask (1 + i) 1 (omega arith) (omega arith)

  pub grouped-length : length (grouped t) ≡ row_width * (1 + members t + actions t)
  unfolding grouped
  grouped-length =
      omega (arith, length-append head rows, head-length, rows-length t (order t), order-length t fits)

  -- the rows of the actions
  pub grouped-action : (k c : ℕ) → k < actions t → c < row_width
      → action_word (grouped t) k c ≡ action_word t (get_or (order t) k 0) c
  unfolding grouped
  grouped-action k c h l =
      let e : row_width * (1 + members (grouped t) + k) + c ≡ length head + (row_width * k + c) =
      omega (arith, head-length, grouped-members) in
      ap (λ (j : ℕ). get_or (head ++ rows) j 0) e
      ∙ get_or-append-add head rows (row_width * k + c) 0
      ∙ row_word t fits (order t) k c (omega (arith, order-length t fits)) l

  -- the task's action that is number k of the grouped task; past the last action k itself
  abbrev pub old : ℕ → ℕ
  old k = get_or (order t) k k

  old-entry : (k : ℕ) → k < actions t → old k ≡ get_or (order t) k 0
  old-entry k h = get_d_any (order t) k k 0 (omega (arith, order-length t fits))

  old_past : (k : ℕ) → actions t ≤ k → old k ≡ k
  old_past k h = get_or-eq_default (order t) k (omega (arith, order-length t fits))

  pub old_below : (k : ℕ) → k < actions t → old k < actions t
  old_below k h = omega (arith, old-entry k h, order-entry t fits k h)

  -- every word of every action
  pub old-word : (k c : ℕ) → c < row_width → action_word (grouped t) k c ≡ action_word t (old k) c
  old-word k c l =
      ⊎_elim
      (λ (h : k < actions t). grouped-action k c h l ∙ ap (λ (a : ℕ). action_word t a c) (sym (old-entry k h)))
      (λ (h : actions t ≤ k).
      get_or-eq_default (grouped t) 0 (omega (arith, grouped-length, grouped-members))
      ∙ sym (get_or-eq_default t 0 (omega (arith, fits.size, old_past k h))))
      (lt-or_ge k (actions t))

  -- the number that an action of the task has in the grouped task
  pub record New (a : ℕ) : Type 0 where
    pub number : ℕ
    pub is-old : old number ≡ a
    pub stays-below : a < actions t → number < actions t

  pub new : (a : ℕ) → New a
  new a =
      ⊎_elim
      (λ (h : a < actions t).
      let (k, l, e) = order_index t fits a h in
      record { number = k; is-old = old-entry k l ∙ e; stays-below = λ g. l })
      (λ (h : actions t ≤ a). record { number = a; is-old = old_past a h; stays-below = λ g. g })
      (lt-or_ge a (actions t))

-- ---- the check

-- what the check asks of a row of which all words are those of a row of the other task
module _ (t u : List ℕ) (r s : ℕ) (same : (c : ℕ) → c < row_width → word t r c ≡ word u s c) where
  zeros-same : (k : ℕ) → zeros_from t r k ≡ zeros_from u s k
  unfolding all_of numbers_from
  zeros-same k = all_same (row_width - k) 0 (omega arith) where
    all_same : (n j : ℕ) → j + n ≤ row_width - k
        → all_of (λ i. eqb (word t r (k + i)) 0) (numbers_from j n)
        ≡ all_of (λ i. eqb (word u s (k + i)) 0) (numbers_from j n)
    all_same zero j h = refl
    all_same (suc n) j h = rw (same (k + j) (omega arith), all_same n (suc j) (omega arith))

  fits-same : (k : ℕ) → k + 1 < row_width → facts t ≡ facts u → mask_fits t r k ≡ mask_fits u s k
  fits-same k h e = rw (same k (omega arith), same (k + 1) h, e)

goal-row-same : (t : List ℕ) (fits : Accepted t) (i : ℕ) → i < members t → goal_row (grouped t) i ≡ goal_row t i
unfolding goal_row
goal-row-same t fits i h =
    let at : (c : ℕ) → c < row_width → word (grouped t) (1 + i) c ≡ word t (1 + i) c =
    λ c l. grouped-head t fits (1 + i) c (omega arith) l in
    rw (
      at 0 (omega arith),
      zeros-same (grouped t) t (1 + i) (1 + i) at 3,
      fits-same (grouped t) t (1 + i) (1 + i) at 1 (omega arith) (grouped-facts t fits),
    )

action-row-same : (t : List ℕ) (fits : Accepted t) (k : ℕ) → k < actions t
    → action_row (grouped t) k ≡ action_row t (old t fits k)
unfolding action_row
action-row-same t fits k h =
    let at : (c : ℕ) → c < row_width → action_word (grouped t) k c ≡ action_word t (old t fits k) c =
    λ c l. old-word t fits k c l in
    rw (
      at 0 (omega arith),
      at 1 (omega arith),
      at 2 (omega arith),
      at 3 (omega arith),
      at 4 (omega arith),
      at 5 (omega arith),
      at 6 (omega arith),
      at 7 (omega arith),
      at 8 (omega arith),
      grouped-facts t fits,
      grouped-members t fits,
    )

head-same : (t : List ℕ) → Accepted t → head_fits (grouped t) ≡ head_fits t
unfolding head_fits
head-same t fits =
    rw (
      grouped-facts t fits,
      grouped-members t fits,
      grouped-actions t fits,
      zeros-same (grouped t) t 0 0 (λ c l. grouped-head t fits 0 c (omega arith) l) 5,
    )

neither : (r s : ℕ) → r ≡ 0 → s ≡ 0 → r else s ≡ 0
neither r s p q = rw p q

pub grouped-accepted : (t : List ℕ) → check t ≡ 0 → check (grouped t) ≡ 0
unfolding check
grouped-accepted t h =
    let fits = accepted t h in
    let g = grouped t in
    let (r₁, h₁) = else_both (1 if ltb (length t) row_width) _ h in
    let (r₂, h₂) = else_both (2 if not (head_fits t)) _ h₁ in
    let (r₃, h₃) = else_both (1 if not (eqb (length t) (row_width * (1 + members t + actions t)))) _ h₂ in
    let (r₄, h₄) = else_both (4 if not (mask_fits t 0 3)) _ h₃ in
    let (goals, rows) = else_both (first_refusal (goal_row t) (up_to (members t))) _ h₄ in
    let long : length g ≡ length t = grouped-length t fits ∙ sym fits.size in
    let size : length g ≡ row_width * (1 + members g + actions g) =
    omega (arith, grouped-length t fits, grouped-members t fits, grouped-actions t fits) in
    let sized : 1 if not (eqb (length g) (row_width * (1 + members g + actions g))) ≡ 0 =
    rw (eq-eqb (length g) (row_width * (1 + members g + actions g)) size) in
    let head : (c : ℕ) → c < row_width → word g 0 c ≡ word t 0 c = λ c l. grouped-head t fits 0 c (omega arith) l in
    let begins : 4 if not (mask_fits g 0 3) ≡ 0 =
    rw (fits-same g t 0 0 head 3 (omega arith) (grouped-facts t fits)) r₄ in
    neither _ _ (ap (λ (n : ℕ). 1 if ltb n row_width) long ∙ r₁)
    (neither _ _ (ap (λ (b : Bool). 2 if not b) (head-same t fits) ∙ r₂)
    (neither _ _ sized
    (neither _ _ begins
    (neither _ _
    (no-refusal (goal_row g) (up_to (members g))
    (λ i m.
    let l : i < members t = omega (arith, up_to_mem (members g) m, grouped-members t fits) in
    goal-row-same t fits i l ∙ up_to_refusal (goal_row t) (members t) goals i l))
    (no-refusal (action_row g) (up_to (actions g))
    (λ k m.
    let l : k < actions t = omega (arith, up_to_mem (actions g) m, grouped-actions t fits) in
    action-row-same t fits k l
    ∙ up_to_refusal (action_row t) (actions t) rows (old t fits k) (old_below t fits k l)))))))
