use Rattle.arrow_arrays.specs.Any.{layout_of}
use Rattle.arrow_arrays.specs.Layout.{depth}
use Rattle.arrow_compare.proofs.comparison.scalars.+nulls.Given as goal

-- the values are less deep than the dictionary
abbrev pub decreases-null_rows : goal.decreases-null_rows
decreases-null_rows l = depth (layout_of l.lhs.now)
