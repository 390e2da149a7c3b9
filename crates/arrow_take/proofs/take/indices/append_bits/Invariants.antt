use Rattle.arrow_take.proofs.Common.{◌≡◌, ◌-◌, ◌%◌, ◌<◌, ◌≤◌, length, map, take, option_copied, masked, named_bit}
use Rattle.arrow_take.proofs.take.indices.append_bits.Given as goal

-- the bits of the indices so far, which are whole words of them where some are left
abbrev pub invariant-loop-row : goal.invariant-loop-row
invariant-loop-row g l = record {
  within : l.row ≤ length l.stored;
  aligned : l.row < length l.stored → l.row % 64 ≡ 0;
  bits : l.taken ≡ map (named_bit l.bits) (take l.row (masked (option_copied l.validity) (map g.I.NativeType.slot l.stored)));
}

abbrev pub decreases-loop-row : goal.decreases-loop-row
decreases-loop-row g l = length l.stored - l.row
