-- The text of words in rows of w: digits without leading zeros, commas between the fields of a row,
-- CR LF after each row.
use Rattle.std.specs.Prelude.{Bool, List, [], ◌∷◌, ◌++◌, ℕ, zero, suc, ◌^◌, take, drop, ltb}
use Rattle.semantics.specs.Text.{comma, cr, lf, digits}

-- the fields of a row, with commas between them
unfoldable pub row : List ℕ → List ℕ
row [] = []
row (x ∷ []) = digits x
row (x ∷ y ∷ xs) = digits x ++ (comma ∷ row (y ∷ xs))

-- the first r rows of the words, each ended by CR LF
unfoldable pub written : ℕ → ℕ → List ℕ → List ℕ
written w zero ws = []
written w (suc r) ws = row (take w ws) ++ (cr ∷ lf ∷ written w r (drop w ws))

-- the first r rows, each ended by CR LF, and one row more, which is not
unfoldable pub unended : ℕ → ℕ → List ℕ → List ℕ
unended w zero ws = row (take w ws)
unended w (suc r) ws = row (take w ws) ++ (cr ∷ lf ∷ unended w r (drop w ws))

-- a word has 64 bits
abbrev pub is_word : ℕ → Bool
is_word x = ltb x (2 ^ 64)
