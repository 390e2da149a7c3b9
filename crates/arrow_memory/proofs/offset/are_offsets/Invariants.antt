use Rattle.arrow_memory.proofs.Common.{pos, ◌↔◌, map, drop, RisesFrom}
use Rattle.arrow_memory.proofs.offset.are_offsets.Given as goal

-- all rise where those behind the last one seen rise from it
abbrev pub invariant-loop-offset : goal.invariant-loop-offset
invariant-loop-offset g l =
    RisesFrom (g.O.NativeOrd.number l.low) (map g.O.NativeOrd.number (drop l.offset-index l.offsets)) ↔ RisesFrom (pos 0) (map g.O.NativeOrd.number l.offsets)
