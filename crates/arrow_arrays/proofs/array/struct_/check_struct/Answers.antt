use Rattle.std.proofs.Common.{arith}
use Rattle.std.proofs.lemmas.List.{length-map}
use Rattle.arrow_types.specs.TypeOf.{type_of}
use Rattle.arrow_arrays.specs.Any.{layout_of}
use Rattle.arrow_arrays.specs.TypeParts.{field_types}
use Rattle.arrow_arrays.proofs.TypeLemmas.{children_decide, refuted, struct_has_field}
use Rattle.arrow_arrays.proofs.UnionLemmas.{count_of_children}
use Rattle.arrow_arrays.proofs.array.struct_.check_struct.Goals as goal

pub returns-then-not-have_types-clause-fault : goal.returns-then-not-have_types-clause-fault
returns-then-not-have_types-clause-fault c =
    let types = field_types (type_of c.args.data_type.now) in
    let children = children_decide c.args.values.now c.fields_of.result.now types c.have_types.result c.have_types.ensures c.fields_of.ensures in
    (c.is_carried_as.ensures.0 c.if-not-is_carried_as.false, refuted c.have_types.result children c.if-not-have_types.true)

pub fits_columns-requires : goal.fits_columns-requires
fits_columns-requires c =
    let types = field_types (type_of c.args.data_type.now) in
    let children = children_decide c.args.values.now c.fields_of.result.now types c.have_types.result c.have_types.ensures c.fields_of.ensures in
    omega (arith, struct_has_field (type_of c.args.data_type.now) (c.is_carried_as.ensures.0 c.if-not-is_carried_as.false), count_of_children c.args.values.now types (children.0 c.if-not-have_types.false), length-map c.args.values.now layout_of)

pub returns-then-not-fits_columns-clause-fault : goal.returns-then-not-fits_columns-clause-fault
returns-then-not-fits_columns-clause-fault c =
    let types = field_types (type_of c.args.data_type.now) in
    let children = children_decide c.args.values.now c.fields_of.result.now types c.have_types.result c.have_types.ensures c.fields_of.ensures in
    (c.is_carried_as.ensures.0 c.if-not-is_carried_as.false, children.0 c.if-not-have_types.false, refuted c.fits_columns.result c.fits_columns.ensures c.if-not-fits_columns.true)

pub returns-clause-ok : goal.returns-clause-ok
returns-clause-ok c =
    let types = field_types (type_of c.args.data_type.now) in
    let children = children_decide c.args.values.now c.fields_of.result.now types c.have_types.result c.have_types.ensures c.fields_of.ensures in
    (c.is_carried_as.ensures.0 c.if-not-is_carried_as.false, children.0 c.if-not-have_types.false, c.fits_columns.ensures.0 c.if-not-fits_columns.false)
