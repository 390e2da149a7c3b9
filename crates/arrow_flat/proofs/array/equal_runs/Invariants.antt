use Rattle.std.proofs.Common.{◌≡◌, ◌-◌, ◌≤◌, take}
use Rattle.arrow_types.specs.Rows.{mask}
use Rattle.arrow_memory.specs.Sliced.{sliced}
use Rattle.arrow_flat.specs.Parts.{bits_of_slice}
use Rattle.arrow_flat.proofs.array.equal_runs.Given as goal

-- the rows so far are the same
abbrev pub invariant-loop-i : goal.invariant-loop-i
invariant-loop-i g l =
    (l.i ≤ l.len) × (take l.i (mask (bits_of_slice l.validity l.start l.len) (sliced (g.V.Values.slots l.values) l.start l.len)) ≡ take l.i (mask (bits_of_slice l.validity l.start l.len) (sliced (g.V.Values.slots l.others) l.other_start l.len)))

abbrev pub decreases-loop-i : goal.decreases-loop-i
decreases-loop-i g l = l.len - l.i
