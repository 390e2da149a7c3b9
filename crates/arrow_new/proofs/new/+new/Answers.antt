use Rattle.std.proofs.Common.{rules, IfErr, ◌∙◌, ◌*◌, ◌<◌, length, ap, sym, subst, arith}
use Rattle.arrow_types.specs.Carried.{IsCarried}
use Rattle.arrow_types.specs.TypeOf.{type_of}
use Rattle.arrow_types.proofs.FitsLemmas.{Fits-nil}
use Rattle.arrow_memory.specs.Grown.{IsGrowthError}
use Rattle.arrow_arrays.specs.TypeDepth.{type_depth}
use Rattle.arrow_arrays.specs.TypeParts.{field_types}
use Rattle.arrow_arrays.proofs.ColumnLemmas.{only_memory, first_columns, other_columns, carried_at, fits_at, less_deep}
use Rattle.arrow_arrays.proofs.FitNullLemmas.{items_fit, struct_fits, sparse_fits, dense_fits}
use Rattle.arrow_arrays.proofs.NullPartsLemmas.{lists_shape}
use Rattle.arrow_arrays.proofs.ShapeLemmas.{shape_of, list_child, dictionary_child, struct_columns, union_columns}
use Rattle.arrow_new.proofs.new.+new.Goals as goal

pub empty_child-null_rows-requires : goal.empty_child-null_rows-requires
empty_child-null_rows-requires t c =
    let same = c.in_ok-clone.ensures.cases in
    (omega (arith, c.decreases, ap type_depth same), subst IsCarried (sym same) c.requires)

pub empty_child-returns-in_err-child-clause-err : goal.empty_child-returns-in_err-child-clause-err
empty_child-returns-in_err-child-clause-err t c =
    let passed = c.from_residual-in_err-child in
    let growth : IfErr passed.result IsGrowthError = search rules in
    only_memory passed.result growth (λ is.
    let gives = rw is at passed.ensures.1 in
    c.in_err-child.ensures.overflow (cc) (Fits-nil (type_of c.in_ok-clone.field-0)))

pub null_columns-push_columns-requires : goal.null_columns-push_columns-requires
null_columns-push_columns-requires t c =
    let first = first_columns c.fields_of-fields.result.now (field_types (type_of c.args.data_type.now)) c.fields_of-fields.ensures c.requires.carried in
    (omega (arith, c.decreases, first.depth), first.carried)

pub null_columns-push_columns-requires-2 : goal.null_columns-push_columns-requires-2
null_columns-push_columns-requires-2 t c =
    let others = other_columns c.fields_of-fields.result.now (field_types (type_of c.args.data_type.now)) c.fields_of-fields.ensures c.requires.carried in
    (omega (arith, c.decreases, others.depth), others.carried)

pub null_dictionaries-empty_child-requires : goal.null_dictionaries-empty_child-requires
null_dictionaries-empty_child-requires t c =
    let same = c.values_type.ensures in
    let child = dictionary_child (type_of c.args.data_type) c.requires.0 (ap shape_of c.requires.1) in
    (omega (arith, c.decreases, child.1, ap type_depth same), subst IsCarried (sym same) child.0)

pub null_fixed_lists-returns-in_default-clause-overflow : goal.null_fixed_lists-returns-in_default-clause-overflow
null_fixed_lists-returns-in_default-clause-overflow t c =
    λ is fits. c.in_default.ensures (rw c.list_size.ensures (items_fit (type_of c.args.data_type) c.args.length c.requires.1 fits).0)

pub null_fixed_lists-null_rows-requires : goal.null_fixed_lists-null_rows-requires
null_fixed_lists-null_rows-requires t c =
    let same = c.in_ok-item_type.ensures.cases ∙ c.item_type.ensures in
    let child = list_child (type_of c.args.data_type) c.requires.0 (ap shape_of c.requires.1) in
    (omega (arith, c.decreases, child.1, ap type_depth same), subst IsCarried (sym same) child.0)

pub null_fixed_lists-returns-in_err-null_rows-clause-overflow : goal.null_fixed_lists-returns-in_err-null_rows-clause-overflow
null_fixed_lists-returns-in_err-null_rows-clause-overflow t c =
    λ is fits.
    let gives = rw is at c.from_residual-in_err-null_rows.ensures.1 in
    let same = c.in_ok-item_type.ensures.cases ∙ c.item_type.ensures in
    let count = c.in-Some.ensures.1 ∙ ap (λ s. c.args.length * s) c.list_size.ensures in
    let items = (items_fit (type_of c.args.data_type) c.args.length c.requires.1 fits).1 in
    c.in_err-null_rows.ensures.overflow (cc) (rw (same, count) items)

pub null_lists-empty_child-requires : goal.null_lists-empty_child-requires
null_lists-empty_child-requires t c =
    let same = c.item_type.ensures in
    let child = list_child (type_of c.args.data_type) c.requires.kind.0 (ap shape_of c.requires.kind.1 ∙ lists_shape c.args.offsets) in
    (omega (arith, c.decreases, child.1, ap type_depth same), subst IsCarried (sym same) child.0)

pub null_maps-empty_child-requires : goal.null_maps-empty_child-requires
null_maps-empty_child-requires t c =
    let same = c.item_type.ensures in
    let child = list_child (type_of c.args.data_type) c.requires.0 (ap shape_of c.requires.1) in
    (omega (arith, c.decreases, child.1, ap type_depth same), subst IsCarried (sym same) child.0)

pub null_structs-null_columns-requires : goal.null_structs-null_columns-requires
null_structs-null_columns-requires t c =
    let columns = struct_columns (type_of c.args.data_type) c.requires.0 (ap shape_of c.requires.1) in
    (omega (arith, c.decreases, columns.depth), (columns.carried, columns.some))

pub null_structs-returns-in_err-columns-clause-overflow : goal.null_structs-returns-in_err-columns-clause-overflow
null_structs-returns-in_err-columns-clause-overflow t c =
    λ is fits.
    let gives = rw is at c.from_residual.ensures.1 in
    c.in_err-columns.ensures.overflow (cc) (struct_fits (type_of c.args.data_type) c.args.length (ap shape_of c.requires.1) fits)

pub null_unions-null_columns-requires : goal.null_unions-null_columns-requires
null_unions-null_columns-requires t c =
    let columns = union_columns (type_of c.args.data_type) c.requires.0 (ap shape_of c.requires.1) in
    (omega (arith, c.decreases, columns.depth), (columns.carried, columns.some))

pub null_unions-returns-in_err-fields-in-Sparse-clause-overflow : goal.null_unions-returns-in_err-fields-in-Sparse-clause-overflow
null_unions-returns-in_err-fields-in-Sparse-clause-overflow t c =
    λ is fits.
    let gives = rw is at c.from_residual.ensures.1 in
    c.in_err-fields-in-Sparse.ensures.overflow (cc) (sparse_fits (type_of c.args.data_type) c.args.length c.requires.0 (ap shape_of c.requires.1) (sym c.mode.ensures ∙ c.in-Sparse.is) fits)

pub null_unions-null_columns-requires-in-Dense : goal.null_unions-null_columns-requires-in-Dense
null_unions-null_columns-requires-in-Dense t c =
    let columns = union_columns (type_of c.args.data_type) c.requires.0 (ap shape_of c.requires.1) in
    (omega (arith, c.decreases, columns.depth), (columns.carried, columns.some))

pub null_unions-returns-in_err-fields-in-Dense-clause-overflow : goal.null_unions-returns-in_err-fields-in-Dense-clause-overflow
null_unions-returns-in_err-fields-in-Dense-clause-overflow t c =
    λ is fits.
    let gives = rw is at c.from_residual-in_err-fields-in-Dense.ensures.1 in
    c.in_err-fields-in-Dense.ensures.overflow (cc) (rw c.min.ensures (dense_fits (type_of c.args.data_type) c.args.length (ap shape_of c.requires.1) (sym c.mode.ensures ∙ c.in-Dense.is) fits))

pub push_columns-null_rows-requires : goal.push_columns-null_rows-requires
push_columns-null_rows-requires t c =
    let i = c.loop-field.field-index in
    let fs = c.args.fields.now in
    let f = c.field-item.result in
    let within : i < length fs = omega arith in
    let same = c.in_ok-clone.ensures.cases ∙ c.data_type.ensures in
    (omega (arith, c.decreases, less_deep fs i f within c.field-item.is, ap type_depth same), subst IsCarried (sym same) (carried_at fs i f within c.field-item.is c.requires))

pub push_columns-returns-in_err-column-clause-overflow : goal.push_columns-returns-in_err-column-clause-overflow
push_columns-returns-in_err-column-clause-overflow t c =
    λ is fits.
    let gives = rw is at c.from_residual-in_err-column.ensures.1 in
    let within : c.loop-field.field-index < length c.args.fields.now = omega arith in
    let same = c.in_ok-clone.ensures.cases ∙ c.data_type.ensures in
    c.in_err-column.ensures.overflow (cc) (rw same (fits_at c.args.fields.now c.loop-field.field-index c.args.count c.field-item.result within c.field-item.is fits))
