-- Offsets, which say where rows lie in a child: row i is the range from offsets[i] to offsets[i + 1] ("Variable-size Binary Layout").
use Rattle.std.specs.Prelude.{ℕ, ℤ, pos, ◌+◌, ◌-◌, ◌<◌, ◌≤ℤ◌, Bool, List, [], ◌∷◌, ◌++◌, length, map, slice_index, if◌then◌else◌}
use Rattle.arrow_memory.specs.Sliced.{sliced}

-- no number is less than the one before it, nor the first less than a bound
abbrev pub RisesFrom : ℤ → List ℤ → Type 0
RisesFrom low [] = Unit {0}
RisesFrom low (z ∷ zs) = (low ≤ℤ z) × RisesFrom z zs

-- numbers that are offsets: there is a first, it is not negative, and none is less than the one before it
pub record AreOffsets (zs : List ℤ) : Type 0 where
  pub some : 0 < length zs
  pub rises : RisesFrom (pos 0) zs

-- the same of natural numbers
abbrev pub IsOffsets : List ℕ → Type 0
IsOffsets os = AreOffsets (map pos os)

-- where the last row ends
abbrev pub last_of : List ℕ → ℕ
last_of os = slice_index os (length os - 1)

-- offsets with those of a row more
abbrev pub with_row : List ℕ → ℕ → List ℕ
with_row os len = os ++ (last_of os + len) ∷ []

-- where each of `len` rows from row `start` on ends, counted from a place where the first of them begins
abbrev pub counted_on : ℕ → List ℕ → ℕ → ℕ → List ℕ
counted_on place os start len = map (λ n. place + (n - slice_index os start)) (sliced os (start + 1) len)

-- offsets with those of `len` rows of others, from row `start` on: as long as they are there, and counted on from where the last one ends
abbrev pub with_rows : List ℕ → List ℕ → ℕ → ℕ → List ℕ
with_rows os others start len = os ++ counted_on (last_of os) others start len

-- how many items row i has where its bit is set: none where it is not
abbrev pub valid_length : Bool → List ℕ → ℕ → ℕ
valid_length bit os i = if bit then slice_index os (i + 1) - slice_index os i else 0

-- how many items the rows from row i on have, one for each bit, of those whose bit is set
abbrev pub valid_items : List Bool → List ℕ → ℕ → ℕ
valid_items [] os i = 0
valid_items (bit ∷ bits) os i = valid_length bit os i + valid_items bits os (i + 1)

-- where each of these rows ends, counted from a place where the first of them begins: a row whose bit is not set has no item
abbrev pub valid_ends : ℕ → List Bool → List ℕ → ℕ → List ℕ
valid_ends place [] os i = []
valid_ends place (bit ∷ bits) os i =
    (place + valid_length bit os i) ∷ valid_ends (place + valid_length bit os i) bits os (i + 1)

-- offsets with those of rows of others, from row `start` on: as long as they are there where their bit is set, and empty where it is not
abbrev pub with_valid_rows : List ℕ → List Bool → List ℕ → ℕ → List ℕ
with_valid_rows os bits others start = os ++ valid_ends (last_of os) bits others start
