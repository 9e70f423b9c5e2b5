-- Document 02, F-1: laws in PDDL. Tokens, grammar, names, limits, words, and the reader.
use Rattle.std.specs.Prelude.{Bool, true, false, cond, not, ◌&&◌, ◌||◌, ℕ, zero, suc, ◌+◌, ◌*◌, ◌^◌, length, eqb, ltb, leb}
use mathlib.Core.List.{List, [], ◌∷◌, ◌++◌, map, flatten}
use Rattle.std.specs.Int.Bits.{bit_or}
use Rattle.semantics.specs.Base.{any_of, all_of, collect, ◌if◌, ◌else◌, gives, ◌leaves◌otherwise◌, padded, zeroed}
use Rattle.semantics.specs.Words as Words
use Rattle.semantics.specs.Words.{row_words}
use Rattle.semantics.specs.Task.{check, between}
use Rattle.semantics.specs.Text.{cr, lf, is_digit, records, is_record, text_words, Reading, refused_with}

-- ---- tokens

abbrev pub is_letter : ℕ → Bool
is_letter b = between 97 b 122 || between 65 b 90

-- the bytes of words: letters, digits, the hyphen, the colon, the low line
unfoldable pub in_word : ℕ → Bool
in_word b = is_letter b || is_digit b || eqb b 45 || eqb b 58 || eqb b 95

unfoldable pub is_blank : ℕ → Bool
is_blank b = eqb b 32 || eqb b 9 || eqb b cr || eqb b lf

-- a capital letter as a small one, any other byte as it is
unfoldable pub small : ℕ → ℕ
small b = cond (between 65 b 90) (b + 32) b

-- a word stands in small letters; a stray byte is one that no token has
pub data Token : Type 0 where
  opening : Token
  closing : Token
  word : List ℕ → Token
  stray : Token

-- where a text is read on: between tokens, in a comment, in a word of which some was read
pub data Where : Type 0 where
  outer : Where
  comment : Where
  inner : List ℕ → Where

-- what a byte that is in no word adds to the tokens behind it, or behind the comment that it begins; nothing is read
-- behind a stray byte
abbrev pub marked : ℕ → List Token → List Token → List Token
marked b more noted =
    cond (is_blank b) more
    (cond (eqb b 59) noted (cond (eqb b 40) (opening ∷ more) (cond (eqb b 41) (closing ∷ more) (stray ∷ []))))

unfoldable pub tokens_from : Where → List ℕ → List Token
tokens_from outer [] = []
tokens_from comment [] = []
tokens_from (inner w) [] = word w ∷ []
tokens_from outer (b ∷ bs) =
    let more = tokens_from outer bs in
    let noted = tokens_from comment bs in
    let on = tokens_from (inner (small b ∷ [])) bs in
    cond (in_word b) on (marked b more noted)
tokens_from comment (b ∷ bs) =
    let more = tokens_from outer bs in
    let noted = tokens_from comment bs in
    cond (eqb b lf) more noted
tokens_from (inner w) (b ∷ bs) =
    let more = tokens_from outer bs in
    let noted = tokens_from comment bs in
    let on = tokens_from (inner (w ++ (small b ∷ []))) bs in
    cond (in_word b) on (word w ∷ marked b more noted)

abbrev pub tokens : List ℕ → List Token
tokens text = tokens_from outer text

-- ---- words

unfoldable pub same : List ℕ → List ℕ → Bool
same [] [] = true
same [] (y ∷ ys) = false
same (x ∷ xs) [] = false
same (x ∷ xs) (y ∷ ys) = eqb x y && same xs ys

abbrev pub is_in : List (List ℕ) → List ℕ → Bool
is_in names w = any_of (same w) names

unfoldable pub none_twice : List (List ℕ) → Bool
none_twice [] = true
none_twice (w ∷ ws) = not (is_in ws w) && none_twice ws

-- `and`, `not`
abbrev pub and' : List ℕ
and' = 97 ∷ 110 ∷ 100 ∷ []

abbrev pub not' : List ℕ
not' = 110 ∷ 111 ∷ 116 ∷ []

-- a letter, then letters, digits, hyphens, low lines; but not `and` or `not`
unfoldable pub is_name : List ℕ → Bool
is_name [] = false
is_name (b ∷ bs) =
    is_letter b && all_of (λ c. not (eqb c 58)) bs && not (same (b ∷ bs) and') && not (same (b ∷ bs) not')

-- `define`, `domain`, `problem`, and the words that begin with a colon
abbrev pub define' : List ℕ
define' = 100 ∷ 101 ∷ 102 ∷ 105 ∷ 110 ∷ 101 ∷ []

abbrev pub domain' : List ℕ
domain' = 100 ∷ 111 ∷ 109 ∷ 97 ∷ 105 ∷ 110 ∷ []

abbrev pub problem' : List ℕ
problem' = 112 ∷ 114 ∷ 111 ∷ 98 ∷ 108 ∷ 101 ∷ 109 ∷ []

abbrev pub :predicates : List ℕ
:predicates = 58 ∷ 112 ∷ 114 ∷ 101 ∷ 100 ∷ 105 ∷ 99 ∷ 97 ∷ 116 ∷ 101 ∷ 115 ∷ []

abbrev pub :action : List ℕ
:action = 58 ∷ 97 ∷ 99 ∷ 116 ∷ 105 ∷ 111 ∷ 110 ∷ []

abbrev pub :parameters : List ℕ
:parameters = 58 ∷ 112 ∷ 97 ∷ 114 ∷ 97 ∷ 109 ∷ 101 ∷ 116 ∷ 101 ∷ 114 ∷ 115 ∷ []

abbrev pub :precondition : List ℕ
:precondition =
    58 ∷ 112 ∷ 114 ∷ 101 ∷ 99 ∷ 111 ∷ 110 ∷ 100 ∷ 105 ∷ 116 ∷ 105 ∷ 111 ∷ 110 ∷ []

abbrev pub :effect : List ℕ
:effect = 58 ∷ 101 ∷ 102 ∷ 102 ∷ 101 ∷ 99 ∷ 116 ∷ []

abbrev pub :domain : List ℕ
:domain = 58 ∷ domain'

abbrev pub :init : List ℕ
:init = 58 ∷ 105 ∷ 110 ∷ 105 ∷ 116 ∷ []

abbrev pub :goal : List ℕ
:goal = 58 ∷ 103 ∷ 111 ∷ 97 ∷ 108 ∷ []

-- ---- grammar

-- what was read, and the tokens behind it; or the tokens are outside the subset
pub data Parsed (A : Type 0) : Type 0 where
  outside : Parsed A
  parsed : A → List Token → Parsed A

infixr 20 ◌then◌
abbrev pub ◌then◌ : {A B : Type 0} → Parsed A → (A → List Token → Parsed B) → Parsed B
outside then k = outside
parsed a ts then k = k a ts

-- the first, or where that is outside the second
infixr 21 ◌or◌
abbrev pub ◌or◌ : {A : Type 0} → Parsed A → Parsed A → Parsed A
outside or q = q
parsed a ts or q = parsed a ts

-- one after the other, as many as there are, at most f
unfoldable pub many_in : {A : Type 0} → (List Token → Parsed A) → ℕ → List Token → Parsed (List A)
many_in one zero ts = parsed [] ts
many_in one (suc f) ts =
    (one ts then λ a us. many_in one f us then λ more vs. parsed (a ∷ more) vs) or parsed [] ts

abbrev pub many : {A : Type 0} → (List Token → Parsed A) → List Token → Parsed (List A)
many one ts = many_in one (length ts) ts

unfoldable pub same_token : Token → Token → Bool
same_token opening opening = true
same_token closing closing = true
same_token (word v) (word w) = same v w
same_token opening closing = false
same_token opening (word w) = false
same_token opening stray = false
same_token closing opening = false
same_token closing (word w) = false
same_token closing stray = false
same_token (word v) opening = false
same_token (word v) closing = false
same_token (word v) stray = false
same_token stray t = false

-- these tokens, one after the other
unfoldable pub expect : List Token → List Token → Parsed (Unit {0})
expect [] ts = parsed tt ts
expect (e ∷ es) [] = outside
expect (e ∷ es) (t ∷ ts) = cond (same_token e t) (expect es ts) outside

unfoldable pub name : List Token → Parsed (List ℕ)
name [] = outside
name (opening ∷ ts) = outside
name (closing ∷ ts) = outside
name (word w ∷ ts) = cond (is_name w) (parsed w ts) outside
name (stray ∷ ts) = outside

-- (NAME)
unfoldable pub atom : List Token → Parsed (List ℕ)
atom ts =
    expect (opening ∷ []) ts then λ _ ts. name ts then λ w ts. expect (closing ∷ []) ts then λ _ ts. parsed w ts

pub record Literal : Type 0 where
  pub fact : List ℕ
  pub negated : Bool

-- (not (NAME))
unfoldable pub negation : List Token → Parsed (List Literal)
negation ts =
    expect (opening ∷ word not' ∷ []) ts then λ _ ts. atom ts then λ w ts. expect (closing ∷ []) ts then λ _ ts.
    parsed (record { fact = w; negated = true } ∷ []) ts

unfoldable pub literal : List Token → Parsed (List Literal)
literal ts = atom ts then λ w ts. parsed (record { fact = w; negated = false } ∷ []) ts

-- a condition, in which `and` may stand d times deep, or with negations an effect
unfoldable pub formula : Bool → ℕ → List Token → Parsed (List Literal)
formula negations zero ts = cond negations (negation ts) outside or literal ts
formula negations (suc d) ts =
    (expect (opening ∷ word and' ∷ []) ts then λ _ ts. many (formula negations d) ts then λ parts ts.
    expect (closing ∷ []) ts then λ _ ts. parsed (flatten parts) ts)
    or cond negations (negation ts) outside or literal ts

abbrev pub depth : ℕ
depth = 16

abbrev pub condition : List Token → Parsed (List Literal)
condition ts = formula false depth ts

abbrev pub effect : List Token → Parsed (List Literal)
effect ts = formula true depth ts

pub record Action : Type 0 where
  pub called : List ℕ
  pub precondition : List Literal
  pub effects : List Literal

unfoldable pub action : List Token → Parsed Action
action ts =
    expect (opening ∷ word :action ∷ []) ts then λ _ ts. name ts then λ called ts.
    expect (word :parameters ∷ opening ∷ closing ∷ word :precondition ∷ []) ts then λ _ ts.
    condition ts then λ precondition ts. expect (word :effect ∷ []) ts then λ _ ts. effect ts then λ effects ts.
    expect (closing ∷ []) ts then λ _ ts.
    parsed (record { called = called; precondition = precondition; effects = effects }) ts

pub record Domain : Type 0 where
  pub domain : List ℕ
  pub predicates : List (List ℕ)
  pub actions : List Action

unfoldable pub domain : List Token → Parsed Domain
domain ts =
    expect (opening ∷ word define' ∷ opening ∷ word domain' ∷ []) ts then λ _ ts. name ts then λ called ts.
    expect (closing ∷ opening ∷ word :predicates ∷ []) ts then λ _ ts. many atom ts then λ predicates ts.
    expect (closing ∷ []) ts then λ _ ts. many action ts then λ actions ts. expect (closing ∷ []) ts then λ _ ts.
    parsed (record { domain = called; predicates = predicates; actions = actions }) ts

pub record Problem : Type 0 where
  pub of : List ℕ
  pub initially : List (List ℕ)
  pub goals : List Literal

unfoldable pub problem : List Token → Parsed Problem
problem ts =
    expect (opening ∷ word define' ∷ opening ∷ word problem' ∷ []) ts then λ _ ts. name ts then λ _ ts.
    expect (closing ∷ opening ∷ word :domain ∷ []) ts then λ _ ts. name ts then λ of ts.
    expect (closing ∷ opening ∷ word :init ∷ []) ts then λ _ ts. many atom ts then λ initially ts.
    expect (closing ∷ opening ∷ word :goal ∷ []) ts then λ _ ts. condition ts then λ goals ts.
    expect (closing ∷ closing ∷ []) ts then λ _ ts.
    parsed (record { of = of; initially = initially; goals = goals }) ts

pub record Member : Type 0 where
  pub its : Domain
  pub own : Problem

unfoldable pub member : List Token → Parsed Member
member ts = domain ts then λ d ts. problem ts then λ p ts. parsed (record { its = d; own = p }) ts

-- the members of a text; none where it is outside the subset
abbrev pub wholly : Parsed (List Member) → List Member
wholly outside = []
wholly (parsed ms []) = ms
wholly (parsed ms (t ∷ ts)) = []

unfoldable pub members_of : List ℕ → List Member
members_of text = wholly (many member (tokens text))

-- ---- names

abbrev pub first_of : List Member → Member
first_of [] = record {
  its = record { domain = []; predicates = []; actions = [] };
  own = record { of = []; initially = []; goals = [] };
}
first_of (m ∷ ms) = m

-- the predicates and the initial facts, which all members share
abbrev pub predicates_of : List Member → List (List ℕ)
predicates_of ms = (first_of ms).its.predicates

abbrev pub initially_of : List Member → List (List ℕ)
initially_of ms = (first_of ms).own.initially

-- all actions, from member to member
abbrev pub actions_of : List Member → List Action
actions_of ms = flatten (map (λ m. m.its.actions) ms)

-- every fact of it is a predicate
abbrev pub known : List (List ℕ) → List Literal → Bool
known P ls = all_of (λ l. is_in P l.fact) ls

-- an action's names are known
abbrev pub known_action : List (List ℕ) → Action → Bool
known_action P a = known P a.precondition && known P a.effects

-- the same names, in order or as sets
unfoldable pub same_names : List (List ℕ) → List (List ℕ) → Bool
same_names [] [] = true
same_names [] (w ∷ ws) = false
same_names (v ∷ vs) [] = false
same_names (v ∷ vs) (w ∷ ws) = same v w && same_names vs ws

abbrev pub same_set : List (List ℕ) → List (List ℕ) → Bool
same_set vs ws = all_of (is_in ws) vs && all_of (is_in vs) ws

-- member m of a law with the predicates P, of which I hold initially
unfoldable pub well_named : List (List ℕ) → List (List ℕ) → Member → Bool
well_named P I m =
    same_names m.its.predicates P
    && none_twice (map (λ a. a.called) m.its.actions)
    && all_of (known_action P) m.its.actions
    && same m.own.of m.its.domain
    && all_of (is_in P) m.own.initially && same_set m.own.initially I
    && known P m.own.goals

-- waits as words, two for each: the action's number below m, the fact's below F
unfoldable pub waits_known : ℕ → ℕ → List ℕ → Bool
waits_known m F [] = true
waits_known m F (a ∷ []) = true
waits_known m F (a ∷ f ∷ ws) = ltb a m && ltb f F && waits_known m F ws

unfoldable pub named : List Member → List ℕ → Bool
named ms waits =
    none_twice (predicates_of ms) && all_of (well_named (predicates_of ms) (initially_of ms)) ms
    && waits_known (length (actions_of ms)) (length (predicates_of ms)) waits

-- ---- limits

unfoldable pub in_limits : List Member → Bool
in_limits ms = leb (length (predicates_of ms)) 128 && leb (length ms) 8 && leb (length (actions_of ms)) 256

-- ---- words

-- the value of a fact's bit, where the predicates P have values from v on, each twice the one before; 0 of any other
unfoldable pub bit_from : ℕ → List (List ℕ) → List ℕ → ℕ
bit_from v [] w = 0
bit_from v (p ∷ P) w = cond (same w p) v (bit_from (2 * v) P w)

unfoldable pub mask_of : List (List ℕ) → List (List ℕ) → ℕ
mask_of P [] = 0
mask_of P (w ∷ ws) = bit_or (bit_from 1 P w) (mask_of P ws)

-- the facts of the literals that are negated, or of those that are not
abbrev pub facts_of : Bool → List Literal → List (List ℕ)
facts_of true ls = collect (λ l. l.negated) (λ l. l.fact) ls
facts_of false ls = collect (λ l. not l.negated) (λ l. l.fact) ls

-- the facts for which action a waits
unfoldable pub wait_mask : ℕ → List ℕ → ℕ
wait_mask a [] = 0
wait_mask a (b ∷ []) = 0
wait_mask a (b ∷ f ∷ ws) = bit_or (cond (eqb b a) (2 ^ f) 0) (wait_mask a ws)

module _ (P : List (List ℕ)) where
  abbrev pub fact_mask : Bool → List Literal → ℕ
  fact_mask negated ls = mask_of P (facts_of negated ls)

  -- the goal rows of the members from number i on
  unfoldable pub goal_rows : ℕ → List Member → List ℕ
  goal_rows i [] = []
  goal_rows i (m ∷ ms) = row_words i (fact_mask false m.own.goals) 0 0 0 ++ goal_rows (suc i) ms

  module _ (waits : List ℕ) where
    -- the rows of member i's actions from number a on
    unfoldable pub own_rows : ℕ → ℕ → List Action → List ℕ
    own_rows i a [] = []
    own_rows i a (x ∷ xs) =
        row_words i (fact_mask false x.precondition) (wait_mask a waits) (fact_mask false x.effects)
        (fact_mask true x.effects)
        ++ own_rows i (suc a) xs

    unfoldable pub action_rows : ℕ → ℕ → List Member → List ℕ
    action_rows i a [] = []
    action_rows i a (m ∷ ms) =
        own_rows i a m.its.actions ++ action_rows (suc i) (a + length m.its.actions) ms

    unfoldable pub words_of : List Member → List ℕ
    words_of ms =
        length P ∷ length ms ∷ length (actions_of ms)
        ∷ (Words.words_of (mask_of P (initially_of ms)) ++ (0 ∷ 0 ∷ 0 ∷ 0 ∷ (goal_rows 0 ms ++ action_rows 0 0 ms)))

-- ---- the reader

-- the waits' refusal, then the text's, then the task's; after each of these the word slice is all zeros; 14 writes
-- nothing
unfoldable pub read_pddl : List ℕ → List ℕ → List ℕ → Reading
read_pddl text waits words =
    let ms = members_of text in
    let ws = text_words waits in
    let t = words_of (predicates_of ms) ws ms in
    ((15 if not (all_of (is_record 2) (records waits))) else (16 if leb (length ms) 0) else (17 if not (named ms ws))
    else (18 if not (in_limits ms)) else check t)
    leaves refused_with (zeroed words) otherwise
    (14 if ltb (length words) (length t)) leaves refused_with words otherwise
    record { answer = gives (1 + length ms + length (actions_of ms)); words = padded (length words) t }
