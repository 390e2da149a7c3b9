use Rattle.arrow_select.proofs.Common.{All, Err, arith, ap, length, map, sym, subst, take, [], ◌∷◌, ◌∙◌, length-map, map-append, take_all, All-push, Fits, layout_of, Layout, rows, type_of_layout, passed_on, slice_get-map_read, selected_rows}
use Rattle.arrow_select.proofs.ChunkLemmas.{column_long, column_next, kept_fit}
use Rattle.arrow_select.proofs.filter.filter_columns.Goals as goal

pub kept-requires : goal.kept-requires
kept-requires c =
    record { lengths = column_long (length c.args.mask.now) c.args.columns.now c.loop-column.column-index c.column-item.result c.requires.lengths c.loop-column-test.true c.column-item.is; count = c.count_set-count.ensures }

pub returns-in_err-kept-clause-overflow : goal.returns-in_err-kept-clause-overflow
returns-in_err-kept-clause-overflow c overflows =
    let over = c.in_err-kept.ensures.overflow (ap Err (passed_on c.from_residual-in_err-kept.result _ _ c.from_residual-in_err-kept.ensures.1 overflows)) in
    let columns = map layout_of c.args.columns.now in
    let before = kept_fit c.args.mask.now (take c.loop-column.column-index columns) (map layout_of c.loop-column.all.items) c.loop-column.invariant.fits c.loop-column.invariant.types c.loop-column.invariant.rows in
    (c.loop-column.column-index, layout_of c.column-item.result, slice_get-map_read layout_of c.args.columns.now c.loop-column.column-index c.column-item.result c.loop-column-test.true c.column-item.is, before, over)

pub loop-column-preserved : goal.loop-column-preserved
loop-column-preserved c =
    let columns = c.args.columns.now in
    let i = c.loop-column.column-index in
    let item = c.column-item.result in
    let x = c.in_ok-kept.field-0 in
    let kept = c.loop-column.all.items in
    let P = λ (l : Layout). Fits (type_of_layout l) (rows l) in
    let grown = ap (map layout_of) c.in_ok-push.ensures.items in
    let all = All-push P (map layout_of kept) (layout_of x) c.loop-column.invariant.fits c.in_ok-kept.ensures.fits in
    record {
      fits = subst (All P) (sym (grown ∙ map-append layout_of kept (x ∷ []))) all;
      types = ap (map type_of_layout) grown ∙ column_next type_of_layout type_of_layout kept columns x item i c.loop-column-test.true c.column-item.is c.in_ok-kept.ensures.array_type c.loop-column.invariant.types;
      rows = ap (map rows) grown ∙ column_next rows (selected_rows c.args.mask.now) kept columns x item i c.loop-column-test.true c.column-item.is c.in_ok-kept.ensures.rows c.loop-column.invariant.rows;
    }

pub returns-clause-types : goal.returns-clause-types
returns-clause-types c =
    let columns = c.args.columns.now in
    let whole = take_all c.loop-column.column-index (map layout_of columns) (omega (arith, c.loop-column-test.false, length-map columns layout_of)) in
    c.loop-column.invariant.types ∙ ap (map type_of_layout) whole

pub returns-clause-rows : goal.returns-clause-rows
returns-clause-rows c =
    let columns = c.args.columns.now in
    let whole = take_all c.loop-column.column-index (map layout_of columns) (omega (arith, c.loop-column-test.false, length-map columns layout_of)) in
    c.loop-column.invariant.rows ∙ ap (map (selected_rows c.args.mask.now)) whole
