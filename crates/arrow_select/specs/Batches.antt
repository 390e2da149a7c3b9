-- What the laws over batches are stated by: a table's rows in batches, and what a kernel makes of each.
use Rattle.std.specs.Prelude.{◌≡◌, ◌≤◌, ℕ, suc, ◌+◌, ◌-◌, ◌==◌, ℤ, pos, negsuc, Bool, List, [], ◌∷◌, ◌++◌, drop, length, map, take, if◌then◌else◌}
use Rattle.std.specs.Borrow.{Bor}
use Rattle.arrow_types.specs.ArrowType.{ArrowType}
use Rattle.arrow_types.specs.Rows.{chosen, gather, joined, mask_of, select, shifted}
use Rattle.arrow_types.specs.Slot.{Slot, Number}
use Rattle.arrow_flat.specs.Parts.{Parts, boolean_rows, rows_by}
use Rattle.arrow_flat.specs.RowByRow.{AreAlikeLong, row_by_row}
use Rattle.arrow_arrays.specs.Any.{any_array_rows}
use Rattle.arrow_arrays.specs.declared.array.any.AnyArray.{AnyArray}
use Rattle.arrow_select.specs.Arrays.{rows_in}
use Rattle.arrow_select.specs.Ranges.{IsRangesOf}
use Rattle.arrow_take.specs.Taken.{AreIndices}

-- the rows of predicates that are lent
abbrev pub predicates_in : List (Bor (Parts (List Bool))) → List (List Slot)
predicates_in = map (λ filter. boolean_rows filter.now)

-- and of indices
abbrev pub indices_in : {A : Type 0} → (A → Slot) → List (Bor (Parts (List A))) → List (List Slot)
indices_in slot indices = map (λ is. rows_by (map slot) is.now) indices

-- batches with a predicate each, of as many rows
abbrev pub HavePredicates : List (Bor AnyArray) → List (Bor (Parts (List Bool))) → Type 0
HavePredicates batches filters = AreAlikeLong (predicates_in filters) (rows_in batches)

-- batches of two sides, with a predicate for each pair
abbrev pub HavePairPredicates : List (Bor AnyArray) → List (Bor AnyArray) → List (Bor (Parts (List Bool))) → Type 0
HavePairPredicates lefts rights filters = HavePredicates lefts filters × HavePredicates rights filters

-- the rows that indices name, which come in batches
abbrev pub gathered_each : List Slot → List (List Slot) → ArrowType → List (List Slot)
gathered_each xs indices t = map (λ is. gather xs is t) indices

-- what all indices name is what each batch of them names
abbrev pub GathersByBatch : List Slot → List (List Slot) → ArrowType → Type 0
GathersByBatch xs indices t = gather xs (joined indices) t ≡ joined (gathered_each xs indices t)

-- of each batch the rows at which its predicate is true
abbrev pub kept_by_batch : List (List Slot) → List (List Slot) → List (List Slot)
kept_by_batch filters batches = row_by_row (λ ps xs. select (mask_of ps) xs) filters batches

-- what all predicates keep of all batches is what each keeps of its own
abbrev pub KeepsByBatch : List (List Slot) → List (List Slot) → Type 0
KeepsByBatch filters batches = select (mask_of (joined filters)) (joined batches) ≡ joined (kept_by_batch filters batches)

-- of each batch the rows that its indices name
abbrev pub taken_by_batch : List (List Slot) → List (List Slot) → ArrowType → List (List Slot)
taken_by_batch batches indices t = row_by_row (λ xs is. gather xs is t) batches indices

-- of each two batches the rows that their predicate chooses
abbrev pub chosen_by_batch : List (List Slot) → List (List Slot) → List (List Slot) → ArrowType → List (List Slot)
chosen_by_batch (ps ∷ filters) (ls ∷ lefts) (rs ∷ rights) t = chosen ps ls rs t ∷ chosen_by_batch filters lefts rights t
chosen_by_batch _ _ _ t = []

-- what all predicates choose of all batches is what each chooses of its pair
abbrev pub ChoosesByBatch : List (List Slot) → List (List Slot) → List (List Slot) → ArrowType → Type 0
ChoosesByBatch filters lefts rights t =
    chosen (joined filters) (joined lefts) (joined rights) t ≡ joined (chosen_by_batch filters lefts rights t)

-- the indices of each batch name rows of it
abbrev pub AreIndicesByBatch : List (List Slot) → List (List Slot) → Type 0
AreIndicesByBatch [] [] = Unit {0}
AreIndicesByBatch (xs ∷ batches) (is ∷ indices) = AreIndices (length xs) is × AreIndicesByBatch batches indices
AreIndicesByBatch _ _ = ⊥

-- an index that names a row so many further on
abbrev pub moved_index : ℕ → Slot → Slot
moved_index k (Number (pos n)) = Number (pos (k + n))
moved_index k i = i

-- the indices of each batch as indices of the joined batches, where the first of these has so many rows before it
abbrev pub moved_by_batch : ℕ → List (List Slot) → List (List Slot) → List (List Slot)
moved_by_batch k (xs ∷ batches) (is ∷ indices) = map (moved_index k) is ∷ moved_by_batch (k + length xs) batches indices
moved_by_batch k _ _ = []

-- what these name of the joined batches is what the indices of each batch name of it
abbrev pub GathersByParts : List (List Slot) → List (List Slot) → ArrowType → Type 0
GathersByParts batches indices t =
    gather (joined batches) (joined (moved_by_batch 0 batches indices)) t ≡ joined (taken_by_batch batches indices t)

-- two batches that are shifted as one: what `shift` gives of one of them, and in the other rows at the edge between both
abbrev pub shifted_by_edge : List Slot → List Slot → ℤ → ArrowType → List Slot
shifted_by_edge xs ys (pos k) t = shifted xs (pos k) t ++ (drop (length xs - k) xs ++ take (length ys - k) ys)
shifted_by_edge xs ys (negsuc k) t = (drop (suc k) xs ++ take (suc k) ys) ++ shifted ys (negsuc k) t

-- so they are shifted
abbrev pub ShiftsByEdge : List Slot → List Slot → ℤ → ArrowType → Type 0
ShiftsByEdge xs ys offset t = shifted (xs ++ ys) offset t ≡ shifted_by_edge xs ys offset t

-- two batches of at least so many rows
abbrev pub AreAtLeast : ℕ → AnyArray → AnyArray → Type 0
AreAtLeast n first second = (n ≤ length (any_array_rows first)) × (n ≤ length (any_array_rows second))

-- the shortest ranges of two masks
abbrev pub AreRangesOf : List (ℕ × ℕ) → List Bool → List (ℕ × ℕ) → List Bool → Type 0
AreRangesOf first mask second other = IsRangesOf first mask × IsRangesOf second other

-- ranges of rows so many further on
abbrev pub moved_ranges : ℕ → List (ℕ × ℕ) → List (ℕ × ℕ)
moved_ranges k = map (λ (r : ℕ × ℕ). (k + r.0, r.1))

-- a range in front of others: one with the first of them where these touch
abbrev pub with_range : ℕ × ℕ → List (ℕ × ℕ) → List (ℕ × ℕ)
with_range r [] = r ∷ []
with_range r (q ∷ qs) = if r.0 + r.1 == q.0 then (r.0, r.1 + q.1) ∷ qs else r ∷ q ∷ qs

-- ranges in front of others, of which two that touch are made one
abbrev pub met : List (ℕ × ℕ) → List (ℕ × ℕ) → List (ℕ × ℕ)
met [] later = later
met (r ∷ rs) later = with_range r (met rs later)

-- ranges of rows, and behind so many rows those of others
abbrev pub met_behind : List (ℕ × ℕ) → ℕ → List (ℕ × ℕ) → List (ℕ × ℕ)
met_behind first n later = met first (moved_ranges n later)
