use Rattle.arrow_arrays.specs.Any.{layout_of}
use Rattle.arrow_arrays.specs.Layout.{depth}
use Rattle.arrow_compare.proofs.comparison.scalars.+relate.Given as goal

-- the values are less deep than the dictionary
abbrev pub decreases-relate_value : goal.decreases-relate_value
decreases-relate_value l = depth (layout_of l.lhs.now)
