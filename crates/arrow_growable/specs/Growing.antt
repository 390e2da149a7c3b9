-- A growable that is filled, call by call.
use Rattle.std.specs.Prelude.{◌≡◌, List}
use Rattle.arrow_types.specs.Fits.{Fits}
use Rattle.arrow_types.specs.Slot.{Slot}
use Rattle.arrow_arrays.specs.Layout.{Layout}
use Rattle.arrow_flat_growable.specs.Grown.{Grown, appended, bound_to, first_type}

-- over these arrays, it has not failed, and holds these rows, which fit their type
abbrev pub HasAppended : List Layout → Grown → List Slot → Type 0
HasAppended layouts g xs = (g ≡ appended (bound_to layouts) xs) × Fits (first_type layouts) xs
