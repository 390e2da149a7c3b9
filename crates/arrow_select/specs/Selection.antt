-- The rows that a kernel keeps, however they are given.
use Rattle.std.specs.Prelude.{Bool, List}
use Rattle.arrow_select.specs.declared.filter.selection.Selection.{Selection}
use Rattle.arrow_select.specs.declared.filter.selection.Selection.TheVariants.{Mask, Ranges}

-- the mask that is true at them
abbrev pub mask_in : Selection → List Bool
mask_in (Mask bits) = bits.now
mask_in (Ranges filter) = filter.now
