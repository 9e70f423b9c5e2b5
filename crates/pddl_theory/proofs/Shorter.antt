-- Every reader of the grammar leaves fewer tokens than it was given.
use mathlib.Core.Bool.{Bool, true, false, cond}
use mathlib.Core.List.{List, [], ◌∷◌}
use Prim.Native.Nat.{ℕ, zero, suc, ◌≤◌, ◌<◌}
use native.Mathlib.Omega.{arith}
use lib.ListN.{length}
use Rattle.semantics.specs.Pddl.{Token, opening, closing, word, stray, is_name, same_token}
use Rattle.semantics.specs.Pddl.{Parsed, outside, parsed, ◌then◌, ◌or◌, many_in, many, expect, name, atom}
use Rattle.semantics.specs.Pddl.{negation, literal, formula, action, domain, problem, member}

-- fewer than n tokens are left
abbrev pub Fewer : {A : Type 0} → ℕ → Parsed A → Type 0
Fewer n outside = Unit {0}
Fewer n (parsed a us) = length us < n

pub record Shorter {A : Type 0} (n : ℕ) (p : Parsed A) : Type 0 where
  pub fewer : Fewer n p

-- a reader that reads something
abbrev pub Reads : {A : Type 0} → (List Token → Parsed A) → Type 0
Reads one = (n : ℕ) (ts : List Token) → length ts ≤ n → Shorter n (one ts)

none : {A : Type 0} (n : ℕ) → Shorter {A = A} n outside
none n = record { fewer = tt }

pub done : {A : Type 0} {n : ℕ} (a : A) (us : List Token) → length us < n → Shorter n (parsed a us)
done a us h = record { fewer = h }

pub then-shorter : {A B : Type 0} {n : ℕ} {p : Parsed A} {k : A → List Token → Parsed B} → Shorter n p
    → ((a : A) (us : List Token) → length us < n → Shorter n (k a us)) → Shorter n (p then k)
then-shorter {n = n} {p = outside} {k = k} h each = none n
then-shorter {n = n} {p = parsed a us} {k = k} h each = each a us h.fewer

or-shorter : {A : Type 0} {n : ℕ} {p q : Parsed A} → Shorter n p → Shorter n q → Shorter n (p or q)
or-shorter {n = n} {p = outside} {q = q} h g = g
or-shorter {n = n} {p = parsed a us} {q = q} h g = h

cond-shorter : {A : Type 0} {n : ℕ} (b : Bool) {p q : Parsed A} → Shorter n p → Shorter n q → Shorter n (cond b p q)
cond-shorter true h g = h
cond-shorter false h g = g

expect-some : (n : ℕ) (es ts : List Token) → length ts < n → Shorter n (expect es ts)
unfolding expect
expect-some n [] ts h = done tt ts h
expect-some n (e ∷ es) [] h = none n
expect-some n (e ∷ es) (t ∷ ts) h = cond-shorter (same_token e t) (expect-some n es ts (omega arith)) (none n)

pub expect-shorter : (e : Token) (es : List Token) → Reads (expect (e ∷ es))
unfolding expect
expect-shorter e es n [] h = none n
expect-shorter e es n (t ∷ ts) h = cond-shorter (same_token e t) (expect-some n es ts (omega arith)) (none n)

pub name-shorter : Reads name
unfolding name
name-shorter n [] h = none n
name-shorter n (opening ∷ ts) h = none n
name-shorter n (closing ∷ ts) h = none n
name-shorter n (word w ∷ ts) h = cond-shorter (is_name w) (done w ts (omega arith)) (none n)
name-shorter n (stray ∷ ts) h = none n

many_in-shorter : {A : Type 0} (one : List Token → Parsed A) → Reads one → (f n : ℕ) (ts : List Token) → length ts < n
    → Shorter n (many_in one f ts)
unfolding many_in
many_in-shorter one reads zero n ts h = done [] ts h
many_in-shorter one reads (suc f) n ts h =
    or-shorter
    (then-shorter (reads n ts (omega arith)) (λ a us l.
    then-shorter (many_in-shorter one reads f n us l) (λ more vs l. done (a ∷ more) vs l)))
    (done [] ts h)

pub many-shorter : {A : Type 0} (one : List Token → Parsed A) → Reads one → (n : ℕ) (ts : List Token) → length ts < n
    → Shorter n (many one ts)
many-shorter one reads n ts h = many_in-shorter one reads (length ts) n ts h

pub atom-shorter : Reads atom
unfolding atom
atom-shorter n ts h =
    then-shorter (expect-shorter opening [] n ts h) (λ _ us l.
    then-shorter (name-shorter n us (omega arith)) (λ w vs l.
    then-shorter (expect-shorter closing [] n vs (omega arith)) (λ _ ws l. done _ ws l)))

negation-shorter : Reads negation
unfolding negation
negation-shorter n ts h =
    then-shorter (expect-shorter opening _ n ts h) (λ _ us l.
    then-shorter (atom-shorter n us (omega arith)) (λ w vs l.
    then-shorter (expect-shorter closing [] n vs (omega arith)) (λ _ ws l. done _ ws l)))

literal-shorter : Reads literal
unfolding literal
literal-shorter n ts h = then-shorter (atom-shorter n ts h) (λ w us l. done _ us l)

simple_shorter : (negations : Bool) → Reads (λ ts. cond negations (negation ts) outside or literal ts)
simple_shorter negations n ts h =
    or-shorter (cond-shorter negations (negation-shorter n ts h) (none n)) (literal-shorter n ts h)

pub formula-shorter : (negations : Bool) (d : ℕ) → Reads (formula negations d)
unfolding formula
formula-shorter negations zero n ts h = simple_shorter negations n ts h
formula-shorter negations (suc d) n ts h =
    or-shorter
    (then-shorter (expect-shorter opening _ n ts h) (λ _ us l.
    then-shorter (many-shorter (formula negations d) (formula-shorter negations d) n us l) (λ parts vs l.
    then-shorter (expect-shorter closing [] n vs (omega arith)) (λ _ ws l. done _ ws l))))
    (simple_shorter negations n ts h)

pub action-shorter : Reads action
unfolding action
action-shorter n ts h =
    then-shorter (expect-shorter opening _ n ts h) (λ _ ts l.
    then-shorter (name-shorter n ts (omega arith)) (λ _ ts l.
    then-shorter (expect-shorter _ _ n ts (omega arith)) (λ _ ts l.
    then-shorter (formula-shorter false 16 n ts (omega arith)) (λ _ ts l.
    then-shorter (expect-shorter _ [] n ts (omega arith)) (λ _ ts l.
    then-shorter (formula-shorter true 16 n ts (omega arith)) (λ _ ts l.
    then-shorter (expect-shorter closing [] n ts (omega arith)) (λ _ ts l. done _ ts l)))))))

domain-shorter : Reads domain
unfolding domain
domain-shorter n ts h =
    then-shorter (expect-shorter opening _ n ts h) (λ _ ts l.
    then-shorter (name-shorter n ts (omega arith)) (λ _ ts l.
    then-shorter (expect-shorter closing _ n ts (omega arith)) (λ _ ts l.
    then-shorter (many-shorter atom atom-shorter n ts l) (λ _ ts l.
    then-shorter (expect-shorter closing [] n ts (omega arith)) (λ _ ts l.
    then-shorter (many-shorter action action-shorter n ts l) (λ _ ts l.
    then-shorter (expect-shorter closing [] n ts (omega arith)) (λ _ ts l. done _ ts l)))))))

pub problem-shorter : Reads problem
unfolding problem
problem-shorter n ts h =
    then-shorter (expect-shorter opening _ n ts h) (λ _ ts l.
    then-shorter (name-shorter n ts (omega arith)) (λ _ ts l.
    then-shorter (expect-shorter closing _ n ts (omega arith)) (λ _ ts l.
    then-shorter (name-shorter n ts (omega arith)) (λ _ ts l.
    then-shorter (expect-shorter closing _ n ts (omega arith)) (λ _ ts l.
    then-shorter (many-shorter atom atom-shorter n ts l) (λ _ ts l.
    then-shorter (expect-shorter closing _ n ts (omega arith)) (λ _ ts l.
    then-shorter (formula-shorter false 16 n ts (omega arith)) (λ _ ts l.
    then-shorter (expect-shorter closing _ n ts (omega arith)) (λ _ ts l. done _ ts l)))))))))

pub member-shorter : Reads member
unfolding member
member-shorter n ts h =
    then-shorter (domain-shorter n ts h) (λ _ us l.
    then-shorter (problem-shorter n us (omega arith)) (λ _ vs l. done _ vs l))
