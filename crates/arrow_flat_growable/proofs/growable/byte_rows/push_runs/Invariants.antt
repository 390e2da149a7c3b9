use Rattle.arrow_flat_growable.proofs.Common.{◌≡◌, ◌+◌, ◌-◌, ◌<◌, ◌≤◌, ℕ, List, [], length, get_or, vec_capacity, vec_len, last_of, valid_values}
use Rattle.arrow_flat_growable.proofs.PartLemmas.{PartsSoFar}
use Rattle.arrow_flat_growable.proofs.growable.byte_rows.push_runs.Given as goal

-- there is room for a part for each row that is left, and the parts so far have the values of the rows before
abbrev pub invariant-loop-row : goal.invariant-loop-row
invariant-loop-row g l =
    (l.row + length l.left ≡ l.end) × (vec_len l.parts + l.end ≤ vec_capacity l.parts + l.row) × ((sources : List (List ℕ)) → l.index < length sources → last_of l.rows ≤ length (get_or sources l.index []) → PartsSoFar sources l.fn.parts.items l.parts.items (valid_values l.left l.rows (get_or sources l.index []) l.row) (valid_values l.fn.runs l.rows (get_or sources l.index []) l.start))

abbrev pub decreases-loop-row : goal.decreases-loop-row
decreases-loop-row g l = l.end - l.row
