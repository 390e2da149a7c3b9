use Rattle.arrow_choice.proofs.Common.{All, ◌≡◌, ◌+◌, ◌*◌, map, take, Fits, boolean_rows, any_array_rows, any_array_type, layout_of, depth, depth_of_all, to_layouts, struct_layout, chosen_columns}
use Rattle.arrow_choice.proofs.if_then_else.+choose.Given as goal

-- each call goes to less deep arrays, or comes nearer to some

abbrev pub decreases-chosen_rows : goal.decreases-chosen_rows
decreases-chosen_rows l = 3 * depth (layout_of l.lhs.now) + 1

abbrev pub decreases-structure::chosen_structs : goal.decreases-structure::chosen_structs
decreases-structure::chosen_structs l = 3 * depth (struct_layout l.lhs.now)

abbrev pub decreases-structure::chosen_fields : goal.decreases-structure::chosen_fields
decreases-structure::chosen_fields l = 3 * depth_of_all (to_layouts (map layout_of l.left.now)) + 2

-- the rows of the fields so far
abbrev pub invariant-structure::chosen_fields-loop-i : goal.invariant-structure::chosen_fields-loop-i
invariant-structure::chosen_fields-loop-i l = record {
  types : map any_array_type l.all.items ≡ map any_array_type (take l.i l.left);
  rows : map any_array_rows l.all.items ≡ chosen_columns (boolean_rows l.predicate) (take l.i l.left) (take l.i l.right);
  fits : All (λ field. Fits (any_array_type field) (any_array_rows field)) l.all.items;
}
