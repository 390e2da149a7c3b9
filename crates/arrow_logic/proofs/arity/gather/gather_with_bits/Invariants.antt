use Rattle.arrow_logic.proofs.Common.{◌≡◌, ◌≤◌, ◌-◌, length, zip, vec_capacity, AnswersFrom}
use Rattle.arrow_logic.proofs.arity.gather.gather_with_bits.Given as goal

-- the answers so far, and room for all values
abbrev pub invariant-loop-row : goal.invariant-loop-row
invariant-loop-row g l = record {
  within : l.row ≤ l.len;
  each : AnswersFrom (goal.F-post g l.op) 0 (zip l.values.items l.bits);
  count : length l.values.items ≡ l.row;
  bits : length l.bits ≡ l.row;
  room : l.len ≤ vec_capacity l.values;
}

abbrev pub decreases-loop-row : goal.decreases-loop-row
decreases-loop-row g l = l.len - l.row
