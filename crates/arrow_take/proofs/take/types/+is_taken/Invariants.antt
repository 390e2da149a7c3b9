use Rattle.arrow_take.proofs.Common.{◌↔◌, ◌+◌, ◌*◌, drop, fields_of, type_of, fields_depth, type_depth, AreTaken}
use Rattle.arrow_take.proofs.take.types.+is_taken.Given as goal

-- the depth of the type, and that of all fields just below it

abbrev pub decreases-is_taken : goal.decreases-is_taken
decreases-is_taken l = 2 * type_depth (type_of l.data_type.now) + 1

abbrev pub decreases-are_taken : goal.decreases-are_taken
decreases-are_taken l = 2 * fields_depth (fields_of l.fields.now)

-- all are where those that are left are
abbrev pub invariant-are_taken-loop-field : goal.invariant-are_taken-loop-field
invariant-are_taken-loop-field l = AreTaken (fields_of l.fields) ↔ AreTaken (fields_of (drop l.field-index l.fields))
