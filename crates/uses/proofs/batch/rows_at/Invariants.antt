use Rattle.uses.proofs.Common.{layout_of, map, rows, rows_named, take, type_of_layout, uint_rows, ◌≡◌}
use Rattle.uses.proofs.batch.rows_at.Given as goal

-- the columns so far are taken
abbrev pub invariant-loop-column : goal.invariant-loop-column
invariant-loop-column l = record {
  types : map type_of_layout (map layout_of l.taken.items) ≡ map type_of_layout (take l.column-index (map layout_of l.columns));
  rows_are : map rows (map layout_of l.taken.items) ≡ rows_named (uint_rows l.places) (take l.column-index (map layout_of l.columns));
}
