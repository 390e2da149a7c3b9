use Rattle.uses.proofs.Common.{any_array_rows, flat_map, rows_of_parts, sliced, take, ◌≡◌}
use Rattle.uses.proofs.store.FilterStore.parts.Given as goal

-- the parts so far are those of the ranges so far
abbrev pub invariant-loop-start : goal.invariant-loop-start
invariant-loop-start l = rows_of_parts l.parts.items ≡ flat_map (λ r. sliced (any_array_rows l.column) r.0 r.1) (take l.start-index l.start-items)
