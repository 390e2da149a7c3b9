use Rattle.uses.proofs.Common.{AnyArray, HaveRows, IfOk-weaker, Layout, List, Number, above, any_array_rows, any_rows, ap, boolean_rows, column_long, column_rows, get_or, gt, int_rows, layout_of, length, length-map, map, map-map, mask_of, related, row_count, rows, rows_where, selects, source_is, subst, sym, to_z-of_z, w64, ℕ, ◌<◌, ◌∙◌, ◌≡◌}
use Rattle.uses.proofs.batch.rows_above.Goals as goal

-- the rows of a column that was read
column_is : (arrays : List AnyArray) (batch : List Layout) (column : ℕ) (x : AnyArray) → map layout_of arrays ≡ batch → column < length arrays → x ≡ get_or arrays column x → column_rows batch column ≡ any_array_rows x
column_is arrays batch column x same within is = rw (← same) (ap rows (source_is layout_of arrays column x within is))

pub filter_chunk-requires : goal.filter_chunk-requires
filter_chunk-requires c =
    let arrays = c.arrays.result.now in
    let x = c.in-Some-Primitive-Int64 in
    let numbers = int_rows x.numbers in
    let each = subst (HaveRows (row_count c.args.batch.now)) (sym c.arrays.ensures.same) c.arrays.ensures.columns in
    let long = column_long (row_count c.args.batch.now) arrays c.args.column x.field-0.now each x.ensures.lookup.3.0 x.ensures.lookup.1 in
    let stored : any_array_rows x.field-0.now ≡ numbers = ap any_array_rows x.field-0-is ∙ ap any_rows x.field-0-0-is in
    let count = long ∙ (ap length stored ∙ sym (ap length c.in_ok-are_above.ensures.rows ∙ length-map numbers _)) in
    record { lengths = subst (λ n. HaveRows n c.args.batch.now) count c.arrays.ensures.columns }

pub returns-clause-rows : goal.returns-clause-rows
returns-clause-rows c =
    let batch = c.args.batch.now in
    let bound = c.args.bound in
    let x = c.in-Some-Primitive-Int64 in
    let numbers = int_rows x.numbers in
    let whole : column_rows batch c.args.column ≡ numbers = column_is c.arrays.result.now batch c.args.column x.field-0.now c.arrays.ensures.same x.ensures.lookup.3.0 x.ensures.lookup.1 ∙ (ap any_array_rows x.field-0-is ∙ ap any_rows x.field-0-0-is) in
    let truths = rw (to_z-of_z w64 bound c.ranges.bound) at c.in_ok-are_above.ensures.rows in
    let mask : mask_of (boolean_rows c.in_ok-are_above.are_above) ≡ above bound (column_rows batch c.args.column) = rw (truths, whole) (map-map selects (λ s. related gt s (Number bound)) numbers) in
    IfOk-weaker c.filter_chunk.result _ _ (λ kept is. is ∙ ap (λ m. rows_where m batch) mask) c.filter_chunk.ensures.rows
