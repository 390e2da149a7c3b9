use Rattle.arrow_choice.proofs.Common.{◌≡◌, ◌+◌, ◌-◌, ◌++◌, length, sliced, valid_values}
use Rattle.arrow_choice.proofs.if_then_else.bytes.append_valid_bytes.Given as goal

-- the bytes so far, with those of the rows that are left, are all
abbrev pub invariant-loop-row : goal.invariant-loop-row
invariant-loop-row g l = record {
  count : l.row + length l.left ≡ l.until;
  bytes : l.bytes.items ++ valid_values l.left l.ends l.values l.row ≡ l.initial.bytes.items ++ valid_values (sliced l.validity l.start l.count) l.ends l.values l.start;
}

abbrev pub decreases-loop-row : goal.decreases-loop-row
decreases-loop-row g l = l.until - l.row
