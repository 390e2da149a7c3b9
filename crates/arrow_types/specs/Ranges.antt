-- Ranges of rows to copy, the rows that they name, and what it is for a list of ranges to be the shortest.
use Rattle.std.specs.Prelude.{ℕ, zero, suc, ◌≡◌, ◌≤◌, Bool, List, [], ◌∷◌, ◌++◌, length, map, if◌then◌else◌}

-- the rows of a range: start, start + 1, .., so many of them
abbrev pub rows_from : ℕ → ℕ → List ℕ
rows_from start zero = []
rows_from start (suc len) = start ∷ rows_from (suc start) len

-- the rows that ranges name, each a start and a length, range after range
abbrev pub named : List (ℕ × ℕ) → List ℕ
named [] = []
named (r ∷ rs) = rows_from r.0 r.1 ++ named rs

-- no list of ranges that names the same rows has fewer members, be its ranges empty, overlapping or of any size
abbrev pub IsShortest : List (ℕ × ℕ) → Type 0
IsShortest rs = (others : List (ℕ × ℕ)) → named others ≡ named rs → length rs ≤ length others

-- the same of ranges that also name a side: side, start and length
abbrev pub named_sides : List (ℕ × ℕ × ℕ) → List (ℕ × ℕ)
named_sides [] = []
named_sides (r ∷ rs) = map (λ row. (r.0, row)) (rows_from r.1 r.2) ++ named_sides rs

-- no list of such ranges that names the same rows of the same sides has fewer members
abbrev pub IsShortestOfSides : List (ℕ × ℕ × ℕ) → Type 0
IsShortestOfSides rs = (others : List (ℕ × ℕ × ℕ)) → named_sides others ≡ named_sides rs → length rs ≤ length others

-- the rows at which a mask is true, where its first is row i
abbrev pub true_rows : ℕ → List Bool → List ℕ
true_rows i [] = []
true_rows i (b ∷ mask) = if b then i ∷ true_rows (suc i) mask else true_rows (suc i) mask
