use Rattle.arrow_take.proofs.Common.{◌≡◌, ◌+◌, ◌-◌, ◌%◌, ◌<◌, ◌≤◌, ◌++◌, length, map, take, option_copied, vec_len, vec_capacity, masked}
use Rattle.arrow_take.proofs.take.indices.append_named.Given as goal

-- the values of the indices so far, which are whole words of them where some are left
abbrev pub invariant-loop-row : goal.invariant-loop-row
invariant-loop-row g l = record {
  within : l.row ≤ length l.stored;
  aligned : l.row < length l.stored → l.row % 64 ≡ 0;
  items : l.taken.items ≡ l.initial.taken.items ++ map (g.S.ByIndex.named l.source) (take l.row (masked (option_copied l.validity) (map g.I.NativeType.slot l.stored)));
  len : vec_len l.taken ≡ vec_len l.initial.taken + l.row;
  capacity : vec_capacity l.taken ≡ vec_capacity l.initial.taken;
}

abbrev pub decreases-loop-row : goal.decreases-loop-row
decreases-loop-row g l = length l.stored - l.row
