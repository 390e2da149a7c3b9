use Rattle.std.proofs.Common.{◌≡◌, ◌<◌, ℕ, length, get_or}
use Rattle.arrow_arrays.specs.Any.{layout_of}
use Rattle.arrow_arrays.specs.Layout.{rows}
use Rattle.arrow_arrays.proofs.array.struct_.have_rows.Given as goal

-- the arrays so far have so many rows
abbrev pub invariant-loop-array : goal.invariant-loop-array
invariant-loop-array l =
    (k : ℕ) (d : _) → k < l.array-index → length (rows (layout_of (get_or l.values k d))) ≡ l.len
