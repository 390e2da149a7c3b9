-- Rows of bytes that wait, for some calls, to be appended ("Variable-size Binary Layout").
use Rattle.std.specs.Prelude.{ℕ, ◌≡◌, ◌+◌, ◌-◌, ◌<◌, ◌≤◌, ◌++◌, [], List, length, map, replicate, slice_index_or}
use Rattle.std.specs.List.{All, flat_map}
use Rattle.arrow_memory.specs.Sliced.{sliced}
use Rattle.arrow_memory.specs.Words.{low_bits}
use Rattle.arrow_flat.specs.ByteRows.{ByteParts, row_bytes}
use Rattle.arrow_flat_growable.specs.GrownRows.{filled, total}
use Rattle.arrow_flat_growable.specs.declared.growable.waiting.Waiting.{Waiting}
use Rattle.arrow_flat_growable.specs.declared.growable.waiting.Waiting.TheVariants.{Of, Under, Empty}

-- the rows of a bound array, as they lie
abbrev pub bound_parts : List ByteParts → ℕ → ByteParts
bound_parts arrays i = slice_index_or arrays i (record { offsets = []; bytes = [] })

-- an array is bound under a number
abbrev pub BindsParts : List ByteParts → ℕ → ByteParts → Type 0
BindsParts arrays i array = (i < length arrays) × (bound_parts arrays i ≡ array)

-- so many rows of a bound array, from row `start` on
abbrev pub part_of_bound : List ByteParts → ℕ → ℕ → ℕ → List (List ℕ)
part_of_bound arrays i start len = sliced (row_bytes (bound_parts arrays i)) start len

-- they are some, and rows of an array that is bound
pub record LieThere (arrays : List ByteParts) (i start len : ℕ) : Type 0 where
  pub some : 0 < len
  pub bound : i < length arrays
  pub within : start + len ≤ length (row_bytes (bound_parts arrays i))

-- rows that wait lie in their array
abbrev pub Waits : List ByteParts → Waiting → Type 0
Waits arrays (Of i start len) = LieThere arrays i start len
Waits arrays (Under i start len word) = LieThere arrays i start len × (len ≤ 64)
Waits arrays (Empty count) = Unit {0}

-- the rows that wait: those of an array, without bytes where their bit is not set, or so many without bytes
abbrev pub waiting_rows : List ByteParts → Waiting → List (List ℕ)
waiting_rows arrays (Of i start len) = part_of_bound arrays i start len
waiting_rows arrays (Under i start len word) = filled (low_bits word len) (part_of_bound arrays i start len)
waiting_rows arrays (Empty count) = replicate count []

-- rows that are there, and behind them those that wait
abbrev pub with_waiting : List ByteParts → List (List ℕ) → List Waiting → List (List ℕ)
with_waiting arrays rows waiting = rows ++ flat_map (waiting_rows arrays) waiting

-- rows wait behind those that do, whatever the arrays are
abbrev pub WaitBehind : List Waiting → Waiting → List Waiting → Type 0
WaitBehind waiting w new = (arrays : List ByteParts) → All (Waits arrays) waiting → Waits arrays w → All (Waits arrays) new × ((rows : List (List ℕ)) → with_waiting arrays rows new ≡ with_waiting arrays rows waiting ++ waiting_rows arrays w)

-- rows that wait are those of the last call, and others behind them
abbrev pub JoinsLast : List Waiting → Waiting → Waiting → Type 0
JoinsLast waiting w both = (arrays : List ByteParts) → Waits arrays (slice_index_or waiting (length waiting - 1) w) → Waits arrays w → Waits arrays both × (waiting_rows arrays both ≡ waiting_rows arrays (slice_index_or waiting (length waiting - 1) w) ++ waiting_rows arrays w)

-- these rows wait, wherever the array is bound under the number
abbrev pub WaitsFor : ℕ → ByteParts → List (List ℕ) → Waiting → Type 0
WaitsFor i array rows waiting = (arrays : List ByteParts) → BindsParts arrays i array → Waits arrays waiting × (waiting_rows arrays waiting ≡ rows)

-- what wait are rows of bound arrays, and all rows together have at most so many bytes
pub record AreWaiting (arrays : List ByteParts) (bound : List (List ℕ)) (rows : List (List ℕ)) (waiting : List Waiting) (most greatest : ℕ) : Type 0 where
  pub bytes : bound ≡ map (λ p. p.bytes) arrays
  pub wait : All (Waits arrays) waiting
  pub few : total (with_waiting arrays rows waiting) ≤ most
  pub fits : most ≤ greatest
