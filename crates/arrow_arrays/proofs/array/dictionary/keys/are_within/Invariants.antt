use Rattle.std.proofs.Common.{ℕ, ◌<◌, map, get_or}
use Rattle.arrow_types.specs.Slot.{Null}
use Rattle.arrow_flat.specs.Parts.{rows_by}
use Rattle.arrow_arrays.specs.KeyedParts.{IsKey}
use Rattle.arrow_arrays.proofs.array.dictionary.keys.are_within.Given as goal

-- the rows so far are null or name a row
abbrev pub invariant-loop-i : goal.invariant-loop-i
invariant-loop-i g l =
    (k : ℕ) → k < l.i → IsKey l.len (get_or (rows_by (map g.I.NativeType.slot) l.indices) k Null)
