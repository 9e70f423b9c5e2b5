-- Document 01, "The task" and the task check of "Turned back"; document 02, F-5: rows of nine words, masks of two.
use Rattle.std.specs.Prelude.{Bool, not, ◌&&◌, List, ℕ, ◌+◌, ◌-◌, ◌*◌, ◌^◌, length, get_or, eqb, ltb, leb}
use Rattle.semantics.specs.Base.{up_to, all_of, ◌if◌, ◌else◌, first_refusal}
use Rattle.semantics.specs.Mask.{within, below}
use Rattle.semantics.specs.Words.{of_words}

-- words in a row: a number, then four masks
abbrev pub row_width : ℕ
row_width = 9

-- word k of row r
abbrev pub word : List ℕ → ℕ → ℕ → ℕ
word t r k = get_or t (row_width * r + k) 0

-- the mask in words k and k + 1 of row r
abbrev pub mask_in : List ℕ → ℕ → ℕ → ℕ
mask_in t r k = of_words (word t r k) (word t r (k + 1))

-- ---- row 0

abbrev pub facts : List ℕ → ℕ
facts t = word t 0 0

abbrev pub members : List ℕ → ℕ
members t = word t 0 1

abbrev pub actions : List ℕ → ℕ
actions t = word t 0 2

abbrev pub initial : List ℕ → ℕ
initial t = mask_in t 0 3

-- ---- a row for each member, then a row for each action

abbrev pub goal : List ℕ → ℕ → ℕ
goal t i = mask_in t (1 + i) 1

-- the row of action a
abbrev pub action_at : List ℕ → ℕ → ℕ
action_at t a = 1 + members t + a

abbrev pub owner : List ℕ → ℕ → ℕ
owner t a = word t (action_at t a) 0

abbrev pub pre : List ℕ → ℕ → ℕ
pre t a = mask_in t (action_at t a) 1

abbrev pub wait : List ℕ → ℕ → ℕ
wait t a = mask_in t (action_at t a) 3

abbrev pub add : List ℕ → ℕ → ℕ
add t a = mask_in t (action_at t a) 5

abbrev pub del : List ℕ → ℕ → ℕ
del t a = mask_in t (action_at t a) 7

-- ---- the task check

-- lo ≤ x ≤ hi
abbrev pub between : ℕ → ℕ → ℕ → Bool
between lo x hi = leb lo x && leb x hi

-- the words of row r from word k on are zero
abbrev pub zeros_from : List ℕ → ℕ → ℕ → Bool
zeros_from t r k = all_of (λ j. eqb (word t r (k + j)) 0) (up_to (row_width - k))

-- the mask in words k and k + 1 of row r has no bit at or above F. Were the low one no word of 64 bits, the mask would
-- not tell to which word a bit belongs; in a slice of words each is one.
abbrev pub mask_fits : List ℕ → ℕ → ℕ → Bool
mask_fits t r k = ltb (word t r k) (2 ^ 64) && below (facts t) (mask_in t r k)

-- F, n, m and the last four words of row 0 are in their ranges
unfoldable pub head_fits : List ℕ → Bool
head_fits t =
    between 1 (facts t) 128 && between 1 (members t) 8 && leb (actions t) 256 && zeros_from t 0 5

-- member i's goal row
unfoldable pub goal_row : List ℕ → ℕ → ℕ
goal_row t i =
    (3 if not (eqb (word t (1 + i) 0) i && zeros_from t (1 + i) 3))
    else (4 if not (mask_fits t (1 + i) 1))

-- action a's row
unfoldable pub action_row : List ℕ → ℕ → ℕ
action_row t a =
    (5 if not (ltb (owner t a) (members t)))
    else (4 if not (mask_fits t (action_at t a) 1 && mask_fits t (action_at t a) 3
    && mask_fits t (action_at t a) 5 && mask_fits t (action_at t a) 7))
    else (6 if not (within (wait t a) (pre t a)))

-- the task check: the first refusal, 0 where the task is accepted
unfoldable pub check : List ℕ → ℕ
check t =
    (1 if ltb (length t) row_width)
    else (2 if not (head_fits t))
    else (1 if not (eqb (length t) (row_width * (1 + members t + actions t))))
    else (4 if not (mask_fits t 0 3))
    else first_refusal (goal_row t) (up_to (members t))
    else first_refusal (action_row t) (up_to (actions t))
