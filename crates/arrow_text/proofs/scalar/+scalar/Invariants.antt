use Rattle.std.proofs.Common.{◌+◌, ◌*◌}
use Rattle.arrow_text.proofs.scalar.+scalar.Given as goal

-- each call lowers the depth, or comes nearer to one that does

abbrev pub decreases-scalar_of : goal.decreases-scalar_of
decreases-scalar_of l = 3 * l.depth + 0

abbrev pub decreases-scalar_of_parts : goal.decreases-scalar_of_parts
decreases-scalar_of_parts l = 3 * l.depth + 1

abbrev pub decreases-typed_parts : goal.decreases-typed_parts
decreases-typed_parts l = 3 * l.depth + 2
