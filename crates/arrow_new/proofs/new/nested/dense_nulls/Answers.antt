use Rattle.std.proofs.Common.{◌∙◌, length, map, ap, refl, arith}
use Rattle.arrow_types.specs.Slot.{id_at}
use Rattle.arrow_types.specs.TypeOf.{type_of}
use Rattle.arrow_arrays.specs.Any.{layout_of}
use Rattle.arrow_arrays.specs.Layout.{field_ids}
use Rattle.arrow_arrays.specs.TypeParts.{field_types, mode_in}
use Rattle.arrow_arrays.proofs.TypeLemmas.{types_of_layouts}
use Rattle.arrow_arrays.proofs.NullLemmas.{no_fault}
use Rattle.arrow_arrays.proofs.NullPartsLemmas.{count_children, dense_mode_fits, dense_rows_null, known_ids, inside_first, zero_child_rows}
use Rattle.arrow_arrays.proofs.ShapeLemmas.{shape_of, union_columns}
use Rattle.arrow_new.proofs.new.nested.dense_nulls.Goals as goal

pub unreachable-requires : goal.unreachable-requires
unreachable-requires c =
    let t = type_of c.args.data_type in
    let xs = c.args.fields.items in
    let ids = c.in_ok-types.ensures.ok in
    let zeros = c.in_ok-offsets.ensures.ok in
    let some = (union_columns t c.requires.kind.0 (ap shape_of c.requires.kind.1)).some in
    let count = count_children xs (field_types t) c.requires.types in
    let fits = dense_mode_fits (mode_in t) c.in_ok-types.types c.in_ok-offsets.offsets xs (id_at (field_ids t) 0) c.args.length c.requires.mode ids zeros in
    let inside = inside_first (field_ids t) xs (field_types t) c.in_ok-types.types c.in_ok-offsets.offsets c.args.length some c.requires.rows ids zeros in
    let known = known_ids (field_ids t) (length (map layout_of xs)) c.in_ok-types.types c.args.length (omega (arith, some, count)) ids in
    no_fault _ _ _ _ _ _ c.in_default.field-0 c.requires.kind (types_of_layouts xs ∙ c.requires.types) fits inside known tt c.in_default.ensures.fault

pub returns-clause-ok : goal.returns-clause-ok
returns-clause-ok c =
    let t = type_of c.args.data_type in
    let shape = ap shape_of c.requires.kind.1 in
    let some = (union_columns t c.requires.kind.0 shape).some in
    let child_rows = zero_child_rows c.in_ok-offsets.offsets c.args.length c.in_ok-offsets.ensures.ok in
    rw c.in-Ok.ensures.ok (refl, dense_rows_null t c.args.fields.items c.in_ok-types.types _ c.args.length shape some c.requires.rows c.in_ok-types.ensures.ok child_rows)
