-- Why all rows of arrays of one type can't stand one array behind the other.
use Rattle.std.specs.Prelude.{List, [], map, ◌⊎◌}
use Rattle.arrow_types.specs.Fits.{Fits}
use Rattle.arrow_types.specs.Rows.{joined}
use Rattle.arrow_arrays.specs.Crowded.{CrowdedAmong, Unjoined}
use Rattle.arrow_arrays.specs.Layout.{Layout, rows}
use Rattle.arrow_flat_growable.specs.Grown.{first_type}

-- the rows do not fit
abbrev pub DoNotFit : List Layout → Type 0
DoNotFit layouts = Fits (first_type layouts) (joined (map rows layouts)) → ⊥

-- or one of them is crowded behind the arrays before its own
abbrev pub CannotAppendAll : List Layout → Type 0
CannotAppendAll layouts = DoNotFit layouts ⊎ CrowdedAmong [] layouts

-- or the dictionaries inside can't stand one behind the other
abbrev pub CannotJoin : List Layout → Type 0
CannotJoin layouts = DoNotFit layouts ⊎ (CrowdedAmong [] layouts ⊎ Unjoined layouts)
