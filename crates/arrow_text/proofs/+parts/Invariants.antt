use Rattle.std.proofs.Common.{◌+◌, ◌*◌}
use Rattle.arrow_text.proofs.+parts.Given as goal

-- each call lowers the depth, or comes nearer to one that does

abbrev pub decreases-read::whole_array : goal.decreases-read::whole_array
decreases-read::whole_array l = 6 * l.depth + 0

abbrev pub decreases-read::nested_array : goal.decreases-read::nested_array
decreases-read::nested_array l = 6 * l.depth + 1

abbrev pub decreases-read::array_by_parts : goal.decreases-read::array_by_parts
decreases-read::array_by_parts l = 6 * l.depth + 5

abbrev pub decreases-parts::array_of_parts : goal.decreases-parts::array_of_parts
decreases-parts::array_of_parts l = 6 * l.depth + 4

abbrev pub decreases-parts::child_of : goal.decreases-parts::child_of
decreases-parts::child_of l = 6 * l.depth + 2

abbrev pub decreases-parts::children_of : goal.decreases-parts::children_of
decreases-parts::children_of l = 6 * l.depth + 2

abbrev pub decreases-parts::dictionary_of : goal.decreases-parts::dictionary_of
decreases-parts::dictionary_of l = 6 * l.depth + 3

abbrev pub decreases-parts::fixed_list_of : goal.decreases-parts::fixed_list_of
decreases-parts::fixed_list_of l = 6 * l.depth + 3

abbrev pub decreases-parts::list_of : goal.decreases-parts::list_of
decreases-parts::list_of l = 6 * l.depth + 3

abbrev pub decreases-parts::struct_of : goal.decreases-parts::struct_of
decreases-parts::struct_of l = 6 * l.depth + 3

abbrev pub decreases-parts::union_of : goal.decreases-parts::union_of
decreases-parts::union_of l = 6 * l.depth + 3
