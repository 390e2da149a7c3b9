-- What a growable means: the arrays that it takes rows from, the rows that it holds, and whether it has refused.
use Rattle.std.specs.Prelude.{ℕ, ◌≡◌, ◌↔◌, ◌+◌, ◌<◌, ◌≤◌, Bool, true, false, List, [], ◌∷◌, ◌++◌, ◌⊎◌, length, replicate, slice_index_or, take, Option, Some, None, Result, Err, IfOk, IfErr, IsOkUnless, refl}
use Rattle.std.specs.List.{All}
use Rattle.std.specs.Coded.{Coded, code_by, coded×, coded_list, coded_option, coded_bool, coded_ℕ}
use Rattle.arrow_types.specs.declared.error.Error.{Error}
use Rattle.arrow_types.specs.declared.error.Error.TheVariants.{Overflow, OutOfMemory, Failed}
use Rattle.arrow_types.specs.ArrowType.{ArrowType, plain, null}
use Rattle.arrow_types.specs.Fits.{Fits}
use Rattle.arrow_types.specs.Slot.{Slot, Null, null_slot}
use Rattle.arrow_types.specs.StoredSlot.{slot_code}
use Rattle.arrow_types.specs.StoredType.{type_code}
use Rattle.arrow_memory.specs.Sliced.{sliced}
use Rattle.arrow_arrays.specs.Any.{any_array_type, any_array_rows}
use Rattle.arrow_arrays.specs.Crowded.{CrowdedRow}
use Rattle.arrow_arrays.specs.Layout.{Layout, flat, rows, type_of_layout}
use Rattle.arrow_arrays.specs.StoredLayout.{layout_code}
use Rattle.arrow_arrays.specs.declared.array.any.AnyArray.{AnyArray}

-- its type, the arrays that are bound to it, its rows, how many they are, and whether it has refused a call. Without bound arrays it takes nulls, whatever is named.
-- Of the rows of one that has failed nothing is known; their count is that from before the refused call
pub record Grown : Type 0 where
  pub arrow_type : ArrowType
  pub sources : Option (List Layout)
  pub rows : List Slot
  pub count : ℕ
  pub failed : Bool

-- the code that the logic asks for
abbrev pub grown_code : Coded Grown
grown_code =
    code_by (ArrowType × (Option (List Layout) × (List Slot × (ℕ × Bool)))) (coded× type_code (coded× (coded_option (coded_list layout_code)) (coded× (coded_list slot_code) (coded× coded_ℕ coded_bool)))) (λ g. (g.arrow_type, (g.sources, (g.rows, (g.count, g.failed))))) (λ t. record { arrow_type = t.0; sources = t.1.0; rows = t.1.1.0; count = t.1.1.1.0; failed = t.1.1.1.1 }) (λ _. refl)

-- one without rows, that has not failed
abbrev pub empty_over : ArrowType → Option (List Layout) → Grown
empty_over t sources = record { arrow_type = t; sources = sources; rows = []; count = 0; failed = false }

-- the i-th of some layouts
abbrev pub source_at : List Layout → ℕ → Layout
source_at layouts i = slice_index_or layouts i (flat (plain null) [])

-- the type of the first
abbrev pub first_type : List Layout → ArrowType
first_type [] = plain null
first_type (l ∷ ls) = type_of_layout l

-- layouts of one type
abbrev pub AreOfOneType : List Layout → Type 0
AreOfOneType layouts = All (λ l. type_of_layout l ≡ first_type layouts) layouts

-- a growable without rows over these arrays
abbrev pub bound_to : List Layout → Grown
bound_to layouts = empty_over (first_type layouts) (Some layouts)

-- rows that are there: those of a bound array, and any where none is bound
abbrev pub AreThere : Option (List Layout) → ℕ → ℕ → ℕ → Type 0
AreThere None i start len = Unit {0}
AreThere (Some layouts) i start len = (i < length layouts) × (start + len ≤ length (rows (source_at layouts i)))

abbrev pub NamesRows : Grown → ℕ → ℕ → ℕ → Type 0
NamesRows g = AreThere g.sources

-- the rows start to start + len of bound array i, and so many nulls where none is bound
abbrev pub rows_among : Option (List Layout) → ℕ → ℕ → ℕ → List Slot
rows_among None i start len = replicate len Null
rows_among (Some layouts) i start len = sliced (rows (source_at layouts i)) start len

abbrev pub named_rows : Grown → ℕ → ℕ → ℕ → List Slot
named_rows g = rows_among g.sources

-- some of these rows is crowded behind the arrays before its own. Of the first array none is: no key of it grows
abbrev pub AreCrowded : Option (List Layout) → ℕ → ℕ → ℕ → Type 0
AreCrowded None i start len = ⊥
AreCrowded (Some layouts) i start len =
    (0 < i) × ((j : ℕ) × (start ≤ j) × (j < start + len) × CrowdedRow (take i layouts) (source_at layouts i) j)

-- the same with more rows behind
abbrev pub appended : Grown → List Slot → Grown
appended g more =
    record { arrow_type = g.arrow_type; sources = g.sources; rows = g.rows ++ more; count = g.count + length more; failed = false }

-- so many null slots of its type
abbrev pub null_rows_of : Grown → ℕ → List Slot
null_rows_of g n = replicate n (null_slot g.arrow_type)

-- the rows with more behind fit the type
abbrev pub FitsWith : Grown → List Slot → Type 0
FitsWith g more = Fits g.arrow_type (g.rows ++ more)

-- why rows that are named are refused: with them the rows do not fit, or one of them is crowded
abbrev pub RefusedBy : Option (List Layout) → Type 0 → ℕ → ℕ → ℕ → Type 0
RefusedBy None fits i start len = fits → ⊥
RefusedBy (Some layouts) fits i start len = (fits → ⊥) ⊎ AreCrowded (Some layouts) i start len

abbrev pub CannotHold : Grown → ℕ → ℕ → ℕ → Type 0
CannotHold g i start len = RefusedBy g.sources (FitsWith g (named_rows g i start len)) i start len

-- after a refused call: the same type, arrays and count, and it has failed
pub record HasFailed (old new : Grown) : Type 0 where
  pub same_type : new.arrow_type ≡ old.arrow_type
  pub same_sources : new.sources ≡ old.sources
  pub same_count : new.count ≡ old.count
  pub has_failed : new.failed ≡ true

-- a growable that is made: without rows, over these arrays, and refused only where memory is
pub record Binds (layouts : List Layout) (result : Result Grown Error) : Type 0 where
  pub ok : IfOk result (λ growable. growable ≡ bound_to layouts)
  pub err : IsOkUnless result OutOfMemory

-- its rows fit its type. Those of a dense union too: each row is copied apart, though rows of a bound array may share one of a child
abbrev pub FitsItself : Grown → Type 0
FitsItself g = Fits g.arrow_type g.rows

-- its rows are as many as it counts, where it has not failed
abbrev pub CountsRows : Grown → Type 0
CountsRows g = g.failed ≡ false → g.count ≡ length g.rows

-- an array of its type and its rows
abbrev pub HoldsRows : Grown → AnyArray → Type 0
HoldsRows g array = (any_array_type array ≡ g.arrow_type) × (any_array_rows array ≡ g.rows)

-- an error that a growable may answer
abbrev pub IsRefusal : Error → Type 0
IsRefusal Overflow = Unit {0}
IsRefusal OutOfMemory = Unit {0}
IsRefusal Failed = Unit {0}
IsRefusal _ = ⊥

-- and one that it may answer where nothing is appended
abbrev pub IsFailedOrMemory : Error → Type 0
IsFailedOrMemory OutOfMemory = Unit {0}
IsFailedOrMemory Failed = Unit {0}
IsFailedOrMemory _ = ⊥

-- a call that hands out all rows: an array of the type with these rows, and Failed exactly where an earlier call refused
pub record HandsOut {A : Type 0} (type_in : A → ArrowType) (rows_in : A → List Slot) (g : Grown) (result : Result A Error) : Type 0 where
  pub ok : IfOk result (λ array. (type_in array ≡ g.arrow_type) × (rows_in array ≡ g.rows))
  pub failed : (result ≡ Err Failed) ↔ (g.failed ≡ true)
  pub others : IfErr result IsFailedOrMemory

-- and one of a growable that takes no memory
abbrev pub IsFailedOrOverflow : Error → Type 0
IsFailedOrOverflow Overflow = Unit {0}
IsFailedOrOverflow Failed = Unit {0}
IsFailedOrOverflow _ = ⊥
