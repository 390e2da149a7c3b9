use Rattle.arrow_memory.proofs.Common.{◌≡◌, ◌+ℤ◌, ◌-ℤ◌, map, take, drop}
use Rattle.arrow_memory.proofs.offset.shift.Given as goal

-- the offsets so far are counted on, and the others as they were
abbrev pub invariant-loop-offset : goal.invariant-loop-offset
invariant-loop-offset g l = record {
  done : map g.O.NativeOrd.number (take l.offset-index l.offsets) ≡ map (λ z. g.O.NativeOrd.number l.to +ℤ (z -ℤ g.O.NativeOrd.number l.from)) (map g.O.NativeOrd.number (take l.offset-index l.initial.offsets));
  left : drop l.offset-index l.offsets ≡ drop l.offset-index l.initial.offsets;
}
