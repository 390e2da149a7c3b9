use Rattle.std.proofs.Common.{◌+◌, ◌*◌}
use Rattle.arrow_text.proofs.types.+push_type.Given as goal

-- each call lowers the depth, or comes nearer to one that does

abbrev pub decreases-push_type : goal.decreases-push_type
decreases-push_type l = 3 * l.depth + 0

abbrev pub decreases-push_field : goal.decreases-push_field
decreases-push_field l = 3 * l.depth + 1

abbrev pub decreases-push_fields : goal.decreases-push_fields
decreases-push_fields l = 3 * l.depth + 2
