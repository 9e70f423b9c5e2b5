-- The paper's number of each refusal, and a result as the paper's answer.
use Rattle.std.specs.Prelude.{ℕ}
use Rattle.std.specs.Prelude.{Result, Ok, Err}
use Rattle.semantics.specs.Base.{Answer, refused, gives}
use Rattle.refusal.specs.declared.Refusal.{Refusal}
use Rattle.refusal.specs.declared.Refusal.TheVariants as refusal

abbrev pub number : Refusal → ℕ
number refusal.Length = 1
number refusal.Range = 2
number refusal.GoalRow = 3
number refusal.Fact = 4
number refusal.Owner = 5
number refusal.Wait = 6
number refusal.Action = 7
number refusal.Member = 8
number refusal.Full = 9
number refusal.Others = 10
number refusal.Ends = 11
number refusal.NoSolution = 12
number refusal.Pick = 13
number refusal.Short = 14
number refusal.Text = 15
number refusal.Pddl = 16
number refusal.Name = 17
number refusal.Many = 18
number refusal.Stale = 19
number refusal.Changes = 20

-- the refusal's number, 0 where there is none
abbrev pub code : {T : Type 0} → Result T Refusal → ℕ
code (Ok x) = 0
code (Err e) = number e

-- the result with the refusal's number for the refusal
abbrev pub by_number : {T : Type 0} → Result T Refusal → Result T ℕ
by_number (Ok x) = Ok x
by_number (Err e) = Err (number e)

-- the paper's answer, where a refusal is a number and A is what T stands for
abbrev pub numbered : {T A : Type 0} → (T → A) → Result T ℕ → Answer A
numbered f (Ok x) = gives (f x)
numbered f (Err k) = refused k

-- the paper's answer of a result that may be a refusal
abbrev pub answered : {T A : Type 0} → (T → A) → Result T Refusal → Answer A
answered f r = numbered f (by_number r)
