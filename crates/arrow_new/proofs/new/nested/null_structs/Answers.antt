use Rattle.std.proofs.Common.{◌∙◌, Some, ap, refl}
use Rattle.arrow_types.specs.TypeOf.{type_of}
use Rattle.arrow_arrays.specs.TypeParts.{field_types}
use Rattle.arrow_arrays.proofs.TypeLemmas.{types_of_layouts}
use Rattle.arrow_arrays.proofs.NullLemmas.{no_fault}
use Rattle.arrow_arrays.proofs.NullPartsLemmas.{struct_parts_fit, struct_rows_null}
use Rattle.arrow_arrays.proofs.ShapeLemmas.{shape_of, struct_columns}
use Rattle.arrow_new.proofs.new.nested.null_structs.Goals as goal

pub unreachable-requires : goal.unreachable-requires
unreachable-requires c =
    let t = type_of c.args.data_type in
    let some = (struct_columns t c.requires.kind.0 (ap shape_of c.requires.kind.1)).some in
    let types = types_of_layouts c.args.columns.items ∙ c.requires.types in
    let fits = struct_parts_fit c.args.length c.args.columns.items (field_types t) c.in_ok-validity.validity some c.requires.types c.requires.rows c.in_ok-validity.ensures.ok in
    no_fault _ _ _ _ _ _ c.in_default.field-0 c.requires.kind types fits tt tt tt c.in_default.ensures.fault

pub returns-clause-ok : goal.returns-clause-ok
returns-clause-ok c =
    let t = type_of c.args.data_type in
    let shape = ap shape_of c.requires.kind.1 in
    let some = (struct_columns t c.requires.kind.0 shape).some in
    rw c.in-Ok.ensures.ok (refl, struct_rows_null t _ c.args.columns.items (field_types t) c.args.length shape some c.requires.types c.requires.rows (ap Some c.in_ok-validity.ensures.ok))
