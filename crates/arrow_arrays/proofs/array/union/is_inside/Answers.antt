use Rattle.std.proofs.Common.{◌<◌, ◌∙◌, sym, ap, map, length, w8, w32, arith}
use Rattle.std.proofs.lemmas.Int.{to_z-of_z}
use Rattle.std.proofs.lemmas.List.{length-map}
use Rattle.arrow_types.specs.TypeOf.{type_of}
use Rattle.arrow_arrays.specs.Any.{layout_of}
use Rattle.arrow_arrays.specs.Layout.{field_ids}
use Rattle.arrow_arrays.specs.TypeParts.{field_types}
use Rattle.arrow_arrays.proofs.UnionLemmas.{count_children, field_rows, inside_where, same_finding}
use Rattle.arrow_arrays.proofs.array.union.is_inside.Goals as goal

pub returns-in-Some : goal.returns-in-Some
returns-in-Some c =
    let t = type_of c.args.data_type.now in
    let f = c.in-Some.field in
    let fields = c.args.fields.now in
    let count = count_children fields (field_types t) c.requires.children in
    let found = same_finding (field_ids t) _ _ _ c.args.id _ f (to_z-of_z w8 c.args.id c.ranges.id) count c.in-Some.is c.field_of_id.ensures in
    let within : f < length fields = omega (arith, found.0, length-map fields layout_of) in
    let counted = c.len.ensures ∙ ap length (sym (field_rows fields f c.index-fields-field.result within c.index-fields-field.is)) in
    let told = rw (to_z-of_z w32 c.args.offset c.ranges.offset) at c.in_range.ensures in
    inside_where (field_ids t) (map layout_of fields) c.args.id c.args.offset f c.len.result c.in_range.result found counted told
