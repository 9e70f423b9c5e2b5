-- Source document 004: to mark more preconditions as waited for never makes a robust law not robust; the verdict stays
-- robust, with the same number of configurations. Assumes nothing.
use mathlib.Core.Path.{◌≡◌, ap}
use mathlib.Core.Bool.{true}
use mathlib.Core.List.{List, [], Memᴰ}
use Prim.Native.Nat.{ℕ}
use native.Mathlib.Omega.{arith}
use lib.ListN.{length, get_or}
use lib.Dec.{ltb}
use Rattle.semantics.specs.Base.{Answer, gives}
use Rattle.semantics.specs.System.{System, Waits, Lawful}
use Rattle.semantics.specs.Run.{Fault}
use Rattle.semantics.specs.Verdict.{Row, start_row, faults, Verdict, Conflict, robust, live_for, listed_with, verdict_in}
use Rattle.theory.proofs.Lists.{true-not-false, apart, mem-get_d}
use Rattle.theory.proofs.Refusals.{refused-gives, gives_inj}
use Rattle.theory.proofs.Verdict.{Searched, Found, found}
use Rattle.theory.proofs.Robust.{still-none}

robust_inj : {m n : ℕ} → ◌≡◌ {A = Verdict Conflict} (robust m) (robust n) → m ≡ n
robust_inj e = cc

module _
    (S : System)
    (W W' : Waits S)
    (lawful : Lawful S W)
    (lawful' : Lawful S W')
    (more : (a : ℕ) (s : S.State) → W a s ≡ true → W' a s ≡ true)
    (K C : ℕ)
  where
    pub robust-with-more : (count : ℕ) → verdict_in S W K C ≡ gives (robust count)
        → verdict_in S W' K C ≡ gives (robust count)
    robust-with-more count e = at (verdict_in S W K C) (found S W lawful K C) e
      where
        after : length (listed_with S K C) ≡ count → Searched S W lawful K C
            → ((c : Row S) → Memᴰ c (listed_with S K C)
            → faults S W (live_for S K) c ≡ [])
            → (y : Answer (Verdict Conflict)) → Found S W' lawful' K C y → y ≡ gives (robust count)
        after n s none y (Found.copies-full {i = i} h l) = absurd (omega (arith, s.fits i h))
        after n s none y (Found.dead {i = i} fits h dead lower) = absurd (true-not-false (s.solvable i h) dead)
        after n s none y (Found.configurations-full fits live l) = absurd (omega (arith, s.room))
        after n s none y (Found.faults-shown {k = k} s' f) =
            let c = get_or (listed_with S K C) k (start_row S) in
            let e = still-none S W W' lawful' more (live_for S K) c (none c (mem-get_d (listed_with S K C) k (start_row S)
            f.below)) in
            absurd (true-not-false f.passes (ap (λ (fs : List Fault). ltb 0 (length fs)) e))
        after n s none y (Found.faultless s' none') = ap (λ (c : ℕ). gives (robust c)) n

        at : (x : Answer (Verdict Conflict)) → Found S W lawful K C x → x ≡ gives (robust count)
            → verdict_in S W' K C ≡ gives (robust count)
        at x (Found.copies-full h l) e = absurd (refused-gives e)
        at x (Found.dead fits h dead lower) e = absurd (apart (cc))
        at x (Found.configurations-full fits live l) e = absurd (refused-gives e)
        at x (Found.faults-shown s f) e = absurd (apart (cc))
        at x (Found.faultless s none) e =
            after (robust_inj (gives_inj e)) s none (verdict_in S W' K C) (found S W' lawful' K C)
