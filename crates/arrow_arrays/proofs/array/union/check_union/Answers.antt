use Rattle.arrow_types.specs.TypeOf.{type_of}
use Rattle.arrow_arrays.specs.TypeParts.{field_types}
use Rattle.arrow_arrays.proofs.TypeLemmas.{children_decide, refuted}
use Rattle.arrow_arrays.proofs.UnionLemmas.{count_of_children}
use Rattle.arrow_arrays.proofs.array.union.check_union.Goals as goal

pub returns-then-not-have_types-clause-fault : goal.returns-then-not-have_types-clause-fault
returns-then-not-have_types-clause-fault c =
    let types = field_types (type_of c.args.data_type.now) in
    let children = children_decide c.args.fields.now c.fields_of.result.now types c.have_types.result c.have_types.ensures c.fields_of.ensures in
    (c.is_carried_as.ensures.0 c.if-not-is_carried_as.false, refuted c.have_types.result children c.if-not-have_types.true)

pub returns-then-not-fits_mode-clause-fault : goal.returns-then-not-fits_mode-clause-fault
returns-then-not-fits_mode-clause-fault c =
    let types = field_types (type_of c.args.data_type.now) in
    let children = children_decide c.args.fields.now c.fields_of.result.now types c.have_types.result c.have_types.ensures c.fields_of.ensures in
    let mode = rw c.mode.ensures at c.fits_mode.ensures in
    (c.is_carried_as.ensures.0 c.if-not-is_carried_as.false, children.0 c.if-not-have_types.false, refuted c.fits_mode.result mode c.if-not-fits_mode.true)

pub returns-then-not-fits_offsets-clause-fault : goal.returns-then-not-fits_offsets-clause-fault
returns-then-not-fits_offsets-clause-fault c =
    let types = field_types (type_of c.args.data_type.now) in
    let children = children_decide c.args.fields.now c.fields_of.result.now types c.have_types.result c.have_types.ensures c.fields_of.ensures in
    let mode = rw c.mode.ensures at c.fits_mode.ensures in
    (c.is_carried_as.ensures.0 c.if-not-is_carried_as.false, children.0 c.if-not-have_types.false, mode.0 c.if-not-fits_mode.false, refuted c.fits_offsets.result c.fits_offsets.ensures c.if-not-fits_offsets.true)

pub returns-then-not-are_known-clause-fault : goal.returns-then-not-are_known-clause-fault
returns-then-not-are_known-clause-fault c =
    let types = field_types (type_of c.args.data_type.now) in
    let children = children_decide c.args.fields.now c.fields_of.result.now types c.have_types.result c.have_types.ensures c.fields_of.ensures in
    let mode = rw c.mode.ensures at c.fits_mode.ensures in
    let same = children.0 c.if-not-have_types.false in
    let known = rw (count_of_children c.args.fields.now types same) at c.are_known.ensures in
    (c.is_carried_as.ensures.0 c.if-not-is_carried_as.false, same, mode.0 c.if-not-fits_mode.false, c.fits_offsets.ensures.0 c.if-not-fits_offsets.false, refuted c.are_known.result known c.if-not-are_known.true)

pub returns-clause-ok : goal.returns-clause-ok
returns-clause-ok c =
    let types = field_types (type_of c.args.data_type.now) in
    let children = children_decide c.args.fields.now c.fields_of.result.now types c.have_types.result c.have_types.ensures c.fields_of.ensures in
    let mode = rw c.mode.ensures at c.fits_mode.ensures in
    let same = children.0 c.if-not-have_types.false in
    let known = rw (count_of_children c.args.fields.now types same) at c.are_known.ensures in
    (c.is_carried_as.ensures.0 c.if-not-is_carried_as.false, same, mode.0 c.if-not-fits_mode.false, c.fits_offsets.ensures.0 c.if-not-fits_offsets.false, known.0 c.if-not-are_known.false)
