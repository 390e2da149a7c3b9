-- The arrays that a growable takes rows of.
use Rattle.std.specs.Prelude.{◌≡◌, List, Option, None, Some}
use Rattle.arrow_arrays.specs.Layout.{Layout}

-- those that are bound to it, or any where none is
abbrev pub TakesRowsOf : List Layout → Option (List Layout) → Type 0
TakesRowsOf layouts None = Unit {0}
TakesRowsOf layouts (Some sources) = sources ≡ layouts
