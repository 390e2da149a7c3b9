use Rattle.std.proofs.Common.{◌∙◌, Some, length, ap, refl}
use Rattle.arrow_types.specs.TypeOf.{type_of}
use Rattle.arrow_arrays.specs.Any.{any_array_rows}
use Rattle.arrow_arrays.specs.AnyOffsetsBuffer.{offsets_of}
use Rattle.arrow_arrays.proofs.NullLemmas.{no_fault}
use Rattle.arrow_arrays.proofs.NullPartsLemmas.{list_rows_null, list_parts_fit, lists_shape}
use Rattle.arrow_arrays.proofs.ShapeLemmas.{shape_of}
use Rattle.arrow_new.proofs.new.nested.null_lists.Goals as goal

pub unreachable-requires : goal.unreachable-requires
unreachable-requires c =
    let count = length (any_array_rows c.args.items.value) in
    let fits = list_parts_fit c.in_ok-validity.validity (offsets_of c.args.offsets) count c.args.length c.in_ok-validity.ensures.ok c.requires.zeros in
    no_fault _ _ _ _ _ _ c.in_default.field-0 c.requires.kind c.requires.items fits.0 fits.1 tt tt c.in_default.ensures.fault

pub returns-clause-ok : goal.returns-clause-ok
returns-clause-ok c =
    let shape = ap shape_of c.requires.kind.1 ∙ lists_shape c.args.offsets in
    rw c.in-Ok.ensures.ok (refl, list_rows_null (type_of c.args.data_type) _ _ _ c.args.length shape (ap Some c.in_ok-validity.ensures.ok) c.requires.zeros)
