use Rattle.std.proofs.Common.{◌≡◌, take}
use Rattle.arrow_arrays.proofs.array.+clone.Given as goal

-- the arrays so far are copied
abbrev pub invariant-any::clone_all-loop-array : goal.invariant-any::clone_all-loop-array
invariant-any::clone_all-loop-array l = l.copies.items ≡ take l.array-index l.arrays.items
