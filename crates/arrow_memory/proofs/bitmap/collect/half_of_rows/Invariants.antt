use Rattle.arrow_memory.proofs.Common.{GathersBits}
use Rattle.arrow_memory.proofs.bitmap.collect.half_of_rows.Given as goal

-- the word holds the bits so far
abbrev pub invariant-loop-k : goal.invariant-loop-k
invariant-loop-k g l = GathersBits (goal.F-post g l.test) l.start l.k l.half
