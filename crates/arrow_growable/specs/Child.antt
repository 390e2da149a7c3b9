-- A child that grows with the array that holds it: which rows of it that array names, and why it refuses them.
use Rattle.std.specs.Prelude.{ℕ, ◌≡◌, ◌+◌, ◌-◌, ◌<◌, ◌≤◌, ◌⊎◌, Bool, true, false, Option, Some, None, List, [], ◌∷◌, ◌++◌, length, map, replicate, slice_index_or, take, if◌then◌else◌}
use Rattle.arrow_types.specs.Slot.{Slot, null_slot}
use Rattle.arrow_memory.specs.Sliced.{sliced}
use Rattle.arrow_arrays.specs.Crowded.{CrowdedRow}
use Rattle.arrow_arrays.specs.Layout.{Layout, rows}
use Rattle.arrow_flat_growable.specs.Grown.{Grown, FitsItself, FitsWith, appended, empty_over, null_rows_of, source_at}

-- the rows of bound array i
abbrev pub source_rows : Option (List Layout) → ℕ → List Slot
source_rows None i = []
source_rows (Some layouts) i = rows (source_at layouts i)

abbrev pub bound_rows : Grown → ℕ → List Slot
bound_rows g i = source_rows g.sources i

-- array i is bound, and has so many rows at least
pub record BindsRows (g : Grown) (i n : ℕ) : Type 0 where
  pub layouts : List Layout
  pub sources : g.sources ≡ Some layouts
  pub bound : i < length layouts
  pub within : n ≤ length (rows (source_at layouts i))

-- what the rows from row i on, one for each bit, name of a child: its rows from a place to the next one where the bit is set, and w null slots where it is not
abbrev pub spread : ℕ → Slot → List Bool → (ℕ → ℕ) → List Slot → ℕ → List Slot
spread w none [] place xs i = []
spread w none (bit ∷ bits) place xs i =
    (if bit then sliced xs (place i) (place (i + 1) - place i) else replicate w none) ++ spread w none bits place xs (i + 1)

-- the first n places do not fall, and lie in so many rows
pub record Rises (place : ℕ → ℕ) (n high : ℕ) : Type 0 where
  pub up : (i j : ℕ) → i ≤ j → j ≤ n → place i ≤ place j
  pub within : place n ≤ high

-- it has not failed, and its rows fit
pub record IsWell (g : Grown) : Type 0 where
  pub well : g.failed ≡ false
  pub fits : FitsItself g

-- the same type and the same bound arrays
pub record SameBound (old new : Grown) : Type 0 where
  pub same_type : new.arrow_type ≡ old.arrow_type
  pub same_sources : new.sources ≡ old.sources

-- with these rows behind, which fit
pub record GrownBy (old new : Grown) (more : List Slot) : Type 0 where
  pub grown : new ≡ appended old more
  pub fits : FitsItself new

-- row j of a child lies in a row whose bit is set, of those from row i on, one for each bit: row i begins at a place, and ends where the next one begins
abbrev pub LiesIn : List Bool → (ℕ → ℕ) → ℕ → ℕ → Type 0
LiesIn [] place i j = ⊥
LiesIn (bit ∷ bits) place i j = ((bit ≡ true) × (place i ≤ j) × (j < place (i + 1))) ⊎ LiesIn bits place (i + 1) j

-- no row whose bit is not set has a row of the child, of those from row i on, one for each bit
abbrev pub NoneBeneath : List Bool → (ℕ → ℕ) → ℕ → Type 0
NoneBeneath [] place i = Unit {0}
NoneBeneath (bit ∷ bits) place i = (bit ≡ false → place (i + 1) ≡ place i) × NoneBeneath bits place (i + 1)

-- a row of the child that is named is crowded behind the arrays before its own
abbrev pub CrowdsIn : Option (List Layout) → ℕ → (ℕ → Type 0) → Type 0
CrowdsIn None i Names = ⊥
CrowdsIn (Some layouts) i Names = (0 < i) × ((j : ℕ) × Names j × CrowdedRow (take i layouts) (source_at layouts i) j)

abbrev pub CrowdsChild : Grown → ℕ → (ℕ → Type 0) → Type 0
CrowdsChild g = CrowdsIn g.sources

-- why a child refuses rows: with them its rows do not fit, or one that is named is crowded
pub record CannotGrow (g : Grown) (i : ℕ) (Names : ℕ → Type 0) (more : List Slot) : Type 0 where
  pub why : (FitsWith g more → ⊥) ⊎ CrowdsChild g i Names

-- a child with what rows of bound array i name of it behind
abbrev pub grown_by : ℕ → List Bool → (ℕ → ℕ) → ℕ → ℕ → Grown → Grown
grown_by w bits place i start g =
    appended g (spread w (null_slot g.arrow_type) bits place (bound_rows g i) start)

-- or with so many null slots
abbrev pub grown_by_nulls : ℕ → Grown → Grown
grown_by_nulls n g = appended g (null_rows_of g n)

-- a child without rows
abbrev pub emptied_of : Grown → Grown
emptied_of g = empty_over g.arrow_type g.sources

-- the same types and the same bound arrays
pub record AreBoundAs (olds news : List Grown) : Type 0 where
  pub same_types : map (λ g. g.arrow_type) news ≡ map (λ g. g.arrow_type) olds
  pub same_sources : map (λ g. g.sources) news ≡ map (λ g. g.sources) olds

-- some child refuses what rows name of it
abbrev pub SomeCannotGrow : ℕ → List Bool → (ℕ → ℕ) → ℕ → ℕ → List Grown → Type 0
SomeCannotGrow w bits place i start children =
    (f : ℕ) × (f < length children) × ((d : Grown) → CannotGrow (slice_index_or children f d) i (LiesIn bits place start) (spread w (null_slot (slice_index_or children f d).arrow_type) bits place (bound_rows (slice_index_or children f d) i) start))

-- or so many null slots
abbrev pub SomeCannotHoldNulls : ℕ → List Grown → Type 0
SomeCannotHoldNulls n children =
    (f : ℕ) × (f < length children) × ((d : Grown) → FitsWith (slice_index_or children f d) (null_rows_of (slice_index_or children f d) n) → ⊥)
