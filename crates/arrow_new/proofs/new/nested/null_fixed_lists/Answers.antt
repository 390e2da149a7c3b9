use Rattle.std.proofs.Common.{Some, ap, refl}
use Rattle.arrow_types.specs.Slot.{null_slot}
use Rattle.arrow_types.specs.TypeOf.{type_of}
use Rattle.arrow_arrays.specs.Any.{any_array_rows}
use Rattle.arrow_arrays.specs.TypeParts.{item_type, list_size}
use Rattle.arrow_arrays.proofs.TypeLemmas.{some_items}
use Rattle.arrow_arrays.proofs.NullLemmas.{no_fault}
use Rattle.arrow_arrays.proofs.NullPartsLemmas.{fixed_rows_null, fixed_parts_fit}
use Rattle.arrow_arrays.proofs.ShapeLemmas.{shape_of}
use Rattle.arrow_new.proofs.new.nested.null_fixed_lists.Goals as goal

pub unreachable-requires : goal.unreachable-requires
unreachable-requires c =
    let t = type_of c.args.data_type in
    let fits = fixed_parts_fit (list_size t) (any_array_rows c.args.items.value) (null_slot (item_type t)) c.in_ok-validity.validity c.args.length (some_items t c.requires.kind.0 c.requires.kind.1) c.in_ok-validity.ensures.ok c.requires.items.1 in
    no_fault _ _ _ _ _ _ c.in_default.field-0 c.requires.kind c.requires.items.0 fits tt tt tt c.in_default.ensures.fault

pub returns-clause-ok : goal.returns-clause-ok
returns-clause-ok c =
    let t = type_of c.args.data_type in
    rw c.in-Ok.ensures.ok (refl, fixed_rows_null t _ (list_size t) (any_array_rows c.args.items.value) (null_slot (item_type t)) c.args.length (ap shape_of c.requires.kind.1) (some_items t c.requires.kind.0 c.requires.kind.1) (ap Some c.in_ok-validity.ensures.ok) c.requires.items.1)
