use Rattle.std.proofs.Common.{◌+◌, ◌*◌}
use Rattle.arrow_text.proofs.write.+written.Given as goal

-- each call lowers the depth, or comes nearer to one that does

abbrev pub decreases-write_row : goal.decreases-write_row
decreases-write_row l = 2 * l.depth + 0

abbrev pub decreases-write_items : goal.decreases-write_items
decreases-write_items l = 2 * l.depth + 1

abbrev pub decreases-write_struct : goal.decreases-write_struct
decreases-write_struct l = 2 * l.depth + 1

abbrev pub decreases-write_variant : goal.decreases-write_variant
decreases-write_variant l = 2 * l.depth + 1
