use Rattle.arrow_select.proofs.Common.{◌≡◌, All, map, take, Fits, layout_of, rows, type_of_layout, selected_rows}
use Rattle.arrow_select.proofs.filter.filter_columns.Given as goal

-- the columns so far are kept
abbrev pub invariant-loop-column : goal.invariant-loop-column
invariant-loop-column l = record {
  fits : All (λ column. Fits (type_of_layout column) (rows column)) (map layout_of l.all.items);
  types : map type_of_layout (map layout_of l.all.items) ≡ map type_of_layout (take l.column-index (map layout_of l.columns));
  rows : map rows (map layout_of l.all.items) ≡ map (selected_rows l.mask) (take l.column-index (map layout_of l.columns));
}
