-- Rows that lie one behind the other: row i from offset i to offset i + 1 ("Variable-size Binary Layout"), or so many values each ("Fixed-Size List Layout").
use Rattle.std.specs.Prelude.{ℕ, zero, suc, ◌-◌, List, [], ◌∷◌, take, drop}
use Rattle.arrow_memory.specs.Sliced.{sliced}

-- the rows from an offset on
abbrev pub pieces_from : {A : Type 0} → ℕ → List ℕ → List A → List (List A)
pieces_from start [] xs = []
pieces_from start (end ∷ offsets) xs = sliced xs start (end - start) ∷ pieces_from end offsets xs

-- one row less than there are offsets
abbrev pub pieces : {A : Type 0} → List ℕ → List A → List (List A)
pieces [] xs = []
pieces (start ∷ offsets) xs = pieces_from start offsets xs

-- how long those rows are
abbrev pub lengths_from : ℕ → List ℕ → List ℕ
lengths_from start [] = []
lengths_from start (end ∷ offsets) = (end - start) ∷ lengths_from end offsets

abbrev pub lengths : List ℕ → List ℕ
lengths [] = []
lengths (start ∷ offsets) = lengths_from start offsets

-- so many rows of a size
abbrev pub chunks : {A : Type 0} → ℕ → ℕ → List A → List (List A)
chunks zero size xs = []
chunks (suc count) size xs = take size xs ∷ chunks count size (drop size xs)
