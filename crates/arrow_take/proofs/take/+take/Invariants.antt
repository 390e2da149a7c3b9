use Rattle.arrow_take.proofs.Common.{◌≡◌, ◌+◌, ◌*◌, length, map, take, All, Fits, gather, any_array_rows, any_array_type, layout_of, depth, depth_of_all, to_layouts, struct_layout, union_layout, union_rows, rows_by, taken_rows, HaveParts}
use Rattle.arrow_take.proofs.take.+take.Given as goal

-- each call goes to a less deep array, or comes nearer to one

abbrev pub decreases-take : goal.decreases-take
decreases-take g l = 5 * depth (layout_of l.values.now) + 4

abbrev pub decreases-structure::take : goal.decreases-structure::take
decreases-structure::take g l = 5 * depth (struct_layout l.values.now) + 3

abbrev pub decreases-structure::take_fields : goal.decreases-structure::take_fields
decreases-structure::take_fields g l = 5 * depth_of_all (to_layouts (map layout_of l.fields.now)) + 5

abbrev pub decreases-union::take : goal.decreases-union::take
decreases-union::take g l = 5 * depth (union_layout l.values.now) + 3

abbrev pub decreases-union::take_parts : goal.decreases-union::take_parts
decreases-union::take_parts g l = 5 * depth (union_layout l.values.now) + 2

abbrev pub decreases-union::take_fields : goal.decreases-union::take_fields
decreases-union::take_fields g l = 5 * depth (union_layout l.values.now) + 1

abbrev pub decreases-union::take_field : goal.decreases-union::take_field
decreases-union::take_field g l = 5 * depth (union_layout l.values.now)

-- the rows of the fields so far
abbrev pub invariant-structure::take_fields-loop-field : goal.invariant-structure::take_fields-loop-field
invariant-structure::take_fields-loop-field g l = record {
  types : map any_array_type l.taken.items ≡ map any_array_type (take l.field-index l.fields);
  rows : map any_array_rows l.taken.items ≡ map (taken_rows (rows_by (map g.I.NativeType.slot) l.indices)) (take l.field-index l.fields);
  fits : All (λ field. Fits (any_array_type field) (taken_rows (rows_by (map g.I.NativeType.slot) l.indices) field)) (take l.field-index l.fields);
}

abbrev pub invariant-union::take_fields-loop-f : goal.invariant-union::take_fields-loop-f
invariant-union::take_fields-loop-f g l = record {
  count : length l.fields.items ≡ l.f;
  parts : HaveParts l.values.arrow_type (gather (union_rows l.values) (rows_by (map g.I.NativeType.slot) l.indices) l.values.arrow_type) l.fields.items;
}
