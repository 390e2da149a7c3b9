use Rattle.std.proofs.Common.{All}
use Rattle.arrow_arrays.specs.Any.{any_array_type}
use Rattle.arrow_tool.specs.Written.{IsWritten}
use Rattle.arrow_tool.proofs.commands.selection.concatenate.Given as goal

-- the arrays so far can be written
abbrev pub invariant-loop-argument : goal.invariant-loop-argument
invariant-loop-argument l = All (λ array. IsWritten (any_array_type array.now)) l.arrays.items
