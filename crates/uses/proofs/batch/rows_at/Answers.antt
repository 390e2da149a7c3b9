use Rattle.uses.proofs.Common.{All, All-map, AreColumns, AreKeys, HaveRows, Layout, List, Slot, are_columns, arith, column_long, column_next, gather, get_or, get_or-map, layout_of, length, length-gather, length-map, map, row_count, rows, rows_named, subst, sym, take_all, type_of_layout, uint_rows, ◌∙◌, ◌≡◌}
use Rattle.uses.proofs.batch.rows_at.Goals as goal

-- rows by their places are as many as the places, in each column
named_columns : (places : List Slot) (columns taken : List Layout) → map rows taken ≡ rows_named places columns → AreColumns taken
named_columns places columns taken same =
    let AreLong = λ (xs : List Slot). length xs ≡ length places in
    let each : All AreLong (map rows taken) = rw same (All-map AreLong (λ column. gather (rows column) places (type_of_layout column)) columns (λ k d within. length-gather (rows (get_or columns k d)) places (type_of_layout (get_or columns k d)))) in
    are_columns (length places) taken (λ k d within. rw (← get_or-map rows taken k d (rows d) within) (each k (rows d) (omega (arith, within, length-map taken rows))))

pub take-requires : goal.take-requires
take-requires c =
    let each = subst (HaveRows (row_count c.args.batch.now)) (sym c.arrays-columns.ensures.same) c.arrays-columns.ensures.columns in
    let long = column_long (row_count c.args.batch.now) c.arrays-columns.result.now c.loop-column.column-index c.column-item.result each c.loop-column-test.true c.column-item.is in
    record { inside = subst (λ n. AreKeys n (uint_rows c.args.places.now)) (c.len.ensures ∙ long) (c.are_within.ensures.0 c.if-not-are_within.false) }

pub loop-column-preserved : goal.loop-column-preserved
loop-column-preserved c =
    let columns = c.arrays-columns.result.now in
    let i = c.loop-column.column-index in
    let item = c.column-item.result in
    let x = c.in_ok-take.field-0 in
    let kept = c.loop-column.taken.items in
    let named = λ (column : Layout). gather (rows column) (uint_rows c.args.places.now) (type_of_layout column) in
    record {
      types = rw c.in_ok-push.ensures.items (column_next type_of_layout type_of_layout kept columns x item i c.loop-column-test.true c.column-item.is c.in_ok-take.ensures.array_type c.loop-column.invariant.types);
      rows_are = rw c.in_ok-push.ensures.items (column_next rows named kept columns x item i c.loop-column-test.true c.column-item.is c.in_ok-take.ensures.rows c.loop-column.invariant.rows_are);
    }

pub new-requires : goal.new-requires
new-requires c =
    let columns = map layout_of c.arrays-columns.result.now in
    let whole = take_all c.loop-column.column-index columns (omega (arith, c.loop-column-test.false, length-map c.arrays-columns.result.now layout_of)) in
    named_columns (uint_rows c.args.places.now) columns (map layout_of c.loop-column.taken.items) (rw whole at c.loop-column.invariant.rows_are)
