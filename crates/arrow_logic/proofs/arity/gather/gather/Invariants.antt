use Rattle.arrow_logic.proofs.Common.{◌≡◌, ◌≤◌, length, vec_capacity, AnswersFrom}
use Rattle.arrow_logic.proofs.arity.gather.gather.Given as goal

-- the answers so far, and room for all
abbrev pub invariant-loop-row : goal.invariant-loop-row
invariant-loop-row g l = record {
  each : AnswersFrom (goal.F-post g l.op) 0 l.values.items;
  count : length l.values.items ≡ l.row;
  room : l.len ≤ vec_capacity l.values;
}
