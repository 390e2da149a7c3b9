use Rattle.std.proofs.Common.{◌≡◌, ◌+◌, ◌*◌, ◌++◌, map, take}
use Rattle.arrow_types.specs.ArrowType.{type_in}
use Rattle.arrow_types.specs.TypeOf.{type_of, field_of}
use Rattle.arrow_arrays.specs.Any.{any_array_type, any_array_rows}
use Rattle.arrow_arrays.specs.Nulls.{nulls_of}
use Rattle.arrow_arrays.specs.TypeDepth.{type_depth, deepest}
use Rattle.arrow_arrays.specs.TypeParts.{field_types}
use Rattle.arrow_new.proofs.new.+new.Given as goal

-- the depth of the type first, and then the order of the calls

abbrev pub decreases-empty_child : goal.decreases-empty_child
decreases-empty_child l = 8 * type_depth (type_of l.data_type.now) + 7

abbrev pub decreases-null_rows : goal.decreases-null_rows
decreases-null_rows l = 8 * type_depth (type_of l.data_type) + 5

abbrev pub decreases-null_lists : goal.decreases-null_lists
decreases-null_lists l = 8 * type_depth (type_of l.data_type) + 4

abbrev pub decreases-null_maps : goal.decreases-null_maps
decreases-null_maps l = 8 * type_depth (type_of l.data_type) + 4

abbrev pub decreases-null_fixed_lists : goal.decreases-null_fixed_lists
decreases-null_fixed_lists l = 8 * type_depth (type_of l.data_type) + 4

abbrev pub decreases-null_structs : goal.decreases-null_structs
decreases-null_structs l = 8 * type_depth (type_of l.data_type) + 4

abbrev pub decreases-null_unions : goal.decreases-null_unions
decreases-null_unions l = 8 * type_depth (type_of l.data_type) + 4

abbrev pub decreases-null_dictionaries : goal.decreases-null_dictionaries
decreases-null_dictionaries l = 8 * type_depth (type_of l.data_type) + 4

abbrev pub decreases-null_columns : goal.decreases-null_columns
decreases-null_columns l = 8 * deepest (field_types (type_of l.data_type.now)) + 3

abbrev pub decreases-push_columns : goal.decreases-push_columns
decreases-push_columns l = 8 * deepest (map (λ field. type_in (field_of field)) l.fields.now) + 2

abbrev pub invariant-push_columns-loop-field : goal.invariant-push_columns-loop-field
invariant-push_columns-loop-field l =
    let types = map (λ field. type_in (field_of field)) (take l.field-index l.fields) in
    (map any_array_type l.columns.items ≡ map any_array_type l.initial.columns.items ++ types) × (map any_array_rows l.columns.items ≡ map any_array_rows l.initial.columns.items ++ map (λ t. nulls_of t l.count) types)
