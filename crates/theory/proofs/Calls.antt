-- Calls on one run, asks, picks and commits: they leave what the picks done among them leave, and there are no more of
-- those than steps in the plans. Assumes nothing.
use mathlib.Core.Path.{◌≡◌, refl, sym, ap, ap₂, subst, ◌∙◌}
use mathlib.Core.Bool.{true, false, not, false≢true}
use mathlib.Core.Logic.{◌⊎◌, inl, inr}
use mathlib.Core.List.{List, [], ◌∷◌, map, flatten}
use Prim.Native.Nat.{ℕ, zero, suc, ◌+◌, ◌≤◌, ◌<◌}
use native.Mathlib.Omega.{arith}
use native.Mathlib.Decide.{ℕ_discrete}
use lib.ListN.{length, get_or, length-append, length-map}
use lib.Dec.{eqb, ltb}
use borrow.Author.Tests.{eqb-true}
use Rattle.semantics.specs.Base.{up_to, ◌if◌, ◌else◌, Answer, refused, gives}
use Rattle.semantics.specs.Task.{members}
use Rattle.semantics.specs.System.{result_of, system, waits}
use Rattle.semantics.specs.Run.{Run, is_closed, Replied, rest, stepped, given, pass_over, start, pick, play, plan_of}
use Rattle.semantics.specs.Run.{plans_of, run_refusal, pick_on}
use Rattle.semantics.specs.Dispatch.{first, Numbered, Ticket, pick_numbered, commit_on}
use Rattle.semantics.specs.Demands.{RunFits, Call, asks, picks, commits, member_of, called, is_done, calls, doing}
use Rattle.semantics.specs.Demands.{CallsAlone}
use Rattle.theory.proofs.Lists.{up_to_length}
use Rattle.theory.proofs.Refusals.{else_both, if_not-true, refused-gives, gives_inj, unless-gives}
use Rattle.theory.proofs.Picks.{Picked, picked, closed_open, rest-picked, rest-others}
use Rattle.theory.proofs.Counts.{Counted, none, full, done, counting}
use Rattle.theory.proofs.Agrees.Pick.{fits-pick, pick-fits}
use Rattle.theory.proofs.Fits.{fits_keeps}

-- the steps of the first n plans
steps : List (List ℕ) → ℕ → ℕ
steps ps zero = 0
steps ps (suc n) = steps ps n + length (get_or ps n [])

steps-cons : (p : List ℕ) (ps : List (List ℕ)) (n : ℕ) → steps (p ∷ ps) (suc n) ≡ length p + steps ps n
unfolding steps
steps-cons p ps zero = omega arith
steps-cons p ps (suc n) = omega (arith, steps-cons p ps n)

steps-flatten : (ps : List (List ℕ)) → steps ps (length ps) ≡ length (flatten ps)
unfolding steps flatten
steps-flatten [] = refl
steps-flatten (p ∷ ps) =
    steps-cons p ps (length ps)
    ∙ ap (λ (k : ℕ). length p + k) (steps-flatten ps)
    ∙ sym (length-append p (flatten ps))

module _ (t plans ends : List ℕ) where
  abbrev pub P : List (List ℕ)
  P = plans_of (members t) plans ends

  abbrev pub pick_p : Run ℕ → ℕ → Answer (Replied (Run ℕ))
  pick_p r j = pick (system t) (waits t) P r j

  abbrev play_p : Run ℕ → List ℕ → Run ℕ
  play_p r js = play (system t) (waits t) P r js

  abbrev pub Fits : Numbered ℕ → Type 0
  Fits d = RunFits t plans ends d.run

  -- ---- one call

  -- a pick that is done: the run fits, and the change number is one more
  pub record Done (d : Numbered ℕ) (j : ℕ) (p : Replied (Numbered ℕ)) : Type 0 where
    pub fits : Fits d
    pub possible : given (pick_p d.run j) ≡ true
    pub counted : p.run.change ≡ d.change + 1
    pub moved : p.run.run ≡ pass_over d.run (pick_p d.run j)

  pub pick-done : (d : Numbered ℕ) (j : ℕ) (p : Replied (Numbered ℕ)) → pick_numbered t plans ends d j ≡ gives p
      → Done d j p
  unfolding pick_numbered
  pick-done d j p e = at (pick_on t plans ends d.run j) refl (counting d (pick_on t plans ends d.run j)) e
    where
      at : (x : Answer (Replied (Run ℕ))) → pick_on t plans ends d.run j ≡ x → {y : Answer (Replied (Numbered ℕ))}
          → Counted d x y → y ≡ gives p
          → Done d j p
      at x q none e = absurd (refused-gives e)
      at x q (full l) e = absurd (refused-gives e)
      at x q (done {p = made} l) e =
          let f = pick-fits t plans ends d.run j made q in
          let its : pick_p d.run j ≡ gives made = sym (fits-pick t plans ends d.run j f) ∙ q in
          let same = gives_inj e in
          record {
            fits = f;
            possible = ap given its;
            counted = ap (λ (z : Replied (Numbered ℕ)). z.run.change) (sym same);
            moved = ap (λ (z : Replied (Numbered ℕ)). z.run.run) (sym same) ∙ ap (pass_over d.run) (sym its);
          }

  -- a commit that is not refused is its member's pick
  pub commit_pick : (d : Numbered ℕ) (k : Ticket) (p : Replied (Numbered ℕ)) → commit_on t plans ends d k ≡ gives p
      → (k.change ≡ d.change) × (pick_numbered t plans ends d k.member ≡ gives p)
  unfolding commit_on
  commit_pick d k p e =
      let (passes, e) = unless-gives
      (run_refusal t plans ends d.run else (8 if not (ltb k.member (members t)))
      else (19 if not (eqb k.change d.change))) (pick_numbered t plans ends d k.member) e in
      let (fits, here) = else_both (run_refusal t plans ends d.run) _ passes in
      let (member, number) = else_both (8 if not (ltb k.member (members t))) _ here in
      (eqb-true k.change d.change (if_not-true 18 _ number), e)

  -- a call does no pick and leaves the run, or does its member's pick on a run that fits
  data Met (d : Numbered ℕ) (c : Call) : Type 0 where
    idle : is_done t plans ends d c ≡ false → called t plans ends d c ≡ d → Met d c
    pickful : is_done t plans ends d c ≡ true → Fits d → given (pick_p d.run (member_of c)) ≡ true
        → (called t plans ends d c).change ≡ d.change + 1
        → (called t plans ends d c).run ≡ pass_over d.run (pick_p d.run (member_of c)) → Met d c

  met_by : (d : Numbered ℕ) (c : Call) (x : Answer (Replied (Numbered ℕ))) → is_done t plans ends d c ≡ given x
      → called t plans ends d c ≡ pass_over d x
      → ((p : Replied (Numbered ℕ)) → x ≡ gives p → pick_numbered t plans ends d (member_of c) ≡ gives p) → Met d c
  met_by d c (refused k) e r h = idle e r
  met_by d c (gives p) e r h =
      let it = pick-done d (member_of c) p (h p refl) in
      pickful e it.fits it.possible (ap (λ (x : Numbered ℕ). x.change) r ∙ it.counted)
      (ap (λ (x : Numbered ℕ). x.run) r ∙ it.moved)

  met : (d : Numbered ℕ) (c : Call) → Met d c
  met d (asks j) = idle refl refl
  met d (picks j) = met_by d (picks j) (pick_numbered t plans ends d j) refl refl (λ p e. e)
  met d (commits k) = met_by d (commits k) (commit_on t plans ends d k) refl refl (λ p e. (commit_pick d k p e).1)

  -- ---- a list of calls

  -- they leave what those of them that do a pick leave
  pub alone : (d : Numbered ℕ) (cs : List Call) → CallsAlone t plans ends d cs
  unfolding calls doing play
  alone d [] = record { leaves = refl; still_done = refl; counted = omega arith; plays = refl }
  alone d (c ∷ cs) = at (met d c) (alone (called t plans ends d c) cs)
    where
      at : Met d c → CallsAlone t plans ends (called t plans ends d c) cs → CallsAlone t plans ends d (c ∷ cs)
      at (idle e s) h =
          let same = subst (λ (x : Numbered ℕ). CallsAlone t plans ends x cs) s h in
          let left : calls t plans ends d (c ∷ cs) ≡ calls t plans ends d cs =
          ap (λ (x : Numbered ℕ). calls t plans ends x cs) s in
          let fewer : doing t plans ends d (c ∷ cs) ≡ doing t plans ends d cs = rw (e, s) in
          record {
            leaves = rw (e, s) same.leaves;
            still_done = rw (e, s) same.still_done;
            counted =
                ap (λ (x : Numbered ℕ). x.change) left
                ∙ same.counted
                ∙ ap (λ (xs : List Call). d.change + length xs) (sym fewer);
            plays =
                ap (λ (x : Numbered ℕ). x.run) left
                ∙ same.plays
                ∙ ap (λ (xs : List Call). play_p d.run (map member_of xs)) (sym fewer);
          }
      at (pickful e f g n m) h =
          let onward = doing t plans ends (called t plans ends d c) cs in
          record {
            leaves = rw e h.leaves;
            still_done = rw (e, e) (ap (λ (xs : List Call). c ∷ xs) h.still_done);
            counted = rw e (omega (arith, h.counted, n));
            plays = rw e (h.plays ∙ ap (λ (r : Run ℕ). play_p r (map member_of onward)) m);
          }

  -- the run goes on fitting
  pub fits-calls : (d : Numbered ℕ) → Fits d → (cs : List Call) → Fits (calls t plans ends d cs)
  unfolding calls
  fits-calls d f [] = f
  fits-calls d f (c ∷ cs) = fits-calls (called t plans ends d c) (at (met d c)) cs
    where
      at : Met d c → Fits (called t plans ends d c)
      at (idle e s) = subst Fits (sym s) f
      at (pickful e f g n m) = subst (RunFits t plans ends) (sym m) (fits_keeps t plans ends d.run f (member_of c))

  -- ---- no more picks are done than the plans have steps

  -- the steps left, of the members below n
  left : Run ℕ → ℕ → ℕ
  left r zero = 0
  left r (suc n) = left r n + length (rest P r n)

  left-same : (r r' : Run ℕ) (n : ℕ) → ((i : ℕ) → i < n → rest P r' i ≡ rest P r i) → left r' n ≡ left r n
  unfolding left
  left-same r r' zero h = refl
  left-same r r' (suc n) h = ap₂ ◌+◌ (left-same r r' n (λ i l. h i (omega arith))) (ap length (h n (omega arith)))

  -- one less where one member has one less
  left_less : (r r' : Run ℕ) (j : ℕ) → length (rest P r j) ≡ suc (length (rest P r' j))
      → ((i : ℕ) → ¬ (i ≡ j) → rest P r' i ≡ rest P r i) → (n : ℕ) → j < n → left r n ≡ suc (left r' n)
  unfolding left
  left_less r r' j e h (suc n) l = at (left_less r r' j e h n) (ℕ_discrete n j)
    where
      at : (j < n → left r n ≡ suc (left r' n)) → Dec (n ≡ j)
          → left r n + length (rest P r n) ≡ suc (left r' n + length (rest P r' n))
      at fewer (yes q) =
          let same : left r' n ≡ left r n = left-same r r' n (λ i m. h i (λ w. omega (arith, w, q))) in
          let last : length (rest P r n) ≡ suc (length (rest P r' n)) =
          subst (λ (x : ℕ). length (rest P r x) ≡ suc (length (rest P r' x))) (sym q) e in
          omega (arith, same, last)
      at fewer (no ne) =
          let same : length (rest P r' n) ≡ length (rest P r n) = ap length (h n ne) in
          omega (arith, fewer (omega (arith, ne)), same)
  left_less r r' j e h zero l = elim l [ ]

  left-some : (r : Run ℕ) (j n : ℕ) → j < n → length (rest P r j) ≤ left r n
  unfolding left
  left-some r j (suc n) l = at (left-some r j n) (ℕ_discrete j n)
    where
      at : (j < n → length (rest P r j) ≤ left r n) → Dec (j ≡ n) → length (rest P r j) ≤ left r n + length (rest P r n)
      at some (yes q) = rw q (omega arith)
      at some (no ne) = omega (arith, some (omega (arith, ne)))
  left-some r j zero l = elim l [ ]

  -- at most T picks are done: the steps left are room for more, or the run is closed
  Room : ℕ → Numbered ℕ → Type 0
  Room T d = (d.change + left d.run (members t) ≤ T) ⊎ ((is_closed d.run.closed ≡ true) × (d.change ≤ T))

  room-picked : (T : ℕ) (d : Numbered ℕ) (j : ℕ) {x : Answer (Replied (Run ℕ))}
      → Picked (system t) (waits t) P d.run j x → given x ≡ true → Room T d
      → Room T (record { run = pass_over d.run x; change = d.change + 1 })
  unfolding Room
  room-picked T d j (Picked.nobody h) g w = absurd (false≢true g)
  room-picked T d j (Picked.closed h c) g w = absurd (false≢true g)
  room-picked T d j (Picked.over h c e) g w = absurd (false≢true g)
  room-picked T d j (Picked.waits h c e l) g w = absurd (false≢true g)
  room-picked T d j (Picked.goes h c e l b) g (inr (q, m)) = absurd (closed_open q c)
  room-picked T d j (Picked.collides h c e l b) g (inr (q, m)) = absurd (closed_open q c)
  room-picked T d j (Picked.goes {a = a} h c e l b) g (inl w) =
      let s = result_of (system t) a d.run.shared in
      let less = left_less d.run (stepped d.run j s) j
      (ap length e ∙ ap (λ (p : List ℕ). suc (length p)) (sym (rest-picked P d.run j s e)))
      (rest-others P d.run j s) (members t) h in
      inl (omega (arith, less, w))
  room-picked T d j (Picked.collides h c e l b) g (inl w) =
      inr (refl, omega (arith, w, left-some d.run j (members t) h, ap length e))

  room-calls : (T : ℕ) (d : Numbered ℕ) → Room T d → (cs : List Call) → Room T (calls t plans ends d cs)
  unfolding calls
  room-calls T d w [] = w
  room-calls T d w (c ∷ cs) = room-calls T (called t plans ends d c) (at (met d c)) cs
    where
      at : Met d c → Room T (called t plans ends d c)
      at (idle e s) = subst (Room T) (sym s) w
      at (pickful e f g n m) =
          let is : called t plans ends d c
          ≡ record { run = pass_over d.run (pick_p d.run (member_of c)); change = d.change + 1 } =
          λ i. record { run = m i; change = n i } in
          subst (Room T) (sym is)
          (room-picked T d (member_of c) (picked (system t) (waits t) P d.run (member_of c)) g w)

  pub few-calls : (cs : List Call) → (calls t plans ends (first t) cs).change ≤ length (flatten P)
  unfolding Room left steps start rest
  few-calls cs =
      at (calls t plans ends (first t) cs) (room-calls (length (flatten P)) (first t) (inl begins) cs)
    where
      starts : (n : ℕ) → left (start (system t)) n ≡ steps P n
      starts zero = refl
      starts (suc n) = ap (λ (k : ℕ). k + length (get_or P n [])) (starts n)

      many : length P ≡ members t
      many = length-map (up_to (members t)) (plan_of plans ends) ∙ up_to_length (members t)

      begins : 0 + left (start (system t)) (members t) ≤ length (flatten P)
      begins = omega (arith, starts (members t) ∙ ap (steps P) (sym many) ∙ steps-flatten P)

      at : (d : Numbered ℕ) → Room (length (flatten P)) d → d.change ≤ length (flatten P)
      at d (inl w) = omega (arith, w)
      at d (inr w) = w.1
