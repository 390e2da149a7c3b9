use Rattle.std.proofs.Common.{◌+◌, ◌*◌}
use Rattle.arrow_text.proofs.read.+rows.Given as goal

-- each call lowers the depth, or comes nearer to one that does

abbrev pub decreases-array_of_rows : goal.decreases-array_of_rows
decreases-array_of_rows l = 3 * l.depth + 0

abbrev pub decreases-children_of : goal.decreases-children_of
decreases-children_of l = 3 * l.depth + 1

abbrev pub decreases-lists : goal.decreases-lists
decreases-lists l = 3 * l.depth + 1

abbrev pub decreases-fixed_lists : goal.decreases-fixed_lists
decreases-fixed_lists l = 3 * l.depth + 1

abbrev pub decreases-structs : goal.decreases-structs
decreases-structs l = 3 * l.depth + 2

abbrev pub decreases-unions : goal.decreases-unions
decreases-unions l = 3 * l.depth + 2

abbrev pub decreases-dictionaries : goal.decreases-dictionaries
decreases-dictionaries l = 3 * l.depth + 1
