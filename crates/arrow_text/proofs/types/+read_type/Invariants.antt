use Rattle.std.proofs.Common.{◌+◌, ◌*◌}
use Rattle.arrow_text.proofs.types.+read_type.Given as goal

-- each call lowers the depth, or comes nearer to one that does

abbrev pub decreases-type_of : goal.decreases-type_of
decreases-type_of l = 5 * l.depth + 0

abbrev pub decreases-field_of : goal.decreases-field_of
decreases-field_of l = 5 * l.depth + 1

abbrev pub decreases-fields_of : goal.decreases-fields_of
decreases-fields_of l = 5 * l.depth + 2

abbrev pub decreases-dictionary_of : goal.decreases-dictionary_of
decreases-dictionary_of l = 5 * l.depth + 1

abbrev pub decreases-extension_of : goal.decreases-extension_of
decreases-extension_of l = 5 * l.depth + 1

abbrev pub decreases-list_of : goal.decreases-list_of
decreases-list_of l = 5 * l.depth + 2

abbrev pub decreases-fixed_list_of : goal.decreases-fixed_list_of
decreases-fixed_list_of l = 5 * l.depth + 2

abbrev pub decreases-union_of : goal.decreases-union_of
decreases-union_of l = 5 * l.depth + 3

abbrev pub decreases-type_of_parts : goal.decreases-type_of_parts
decreases-type_of_parts l = 5 * l.depth + 4
