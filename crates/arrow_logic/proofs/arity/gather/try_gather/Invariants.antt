use Rattle.arrow_logic.proofs.Common.{◌≡◌, ◌≤◌, length, vec_capacity, answers_ok, AnswersFrom}
use Rattle.arrow_logic.proofs.arity.gather.try_gather.Given as goal

-- what was answered so far, without an error, and room for all
abbrev pub invariant-loop-row : goal.invariant-loop-row
invariant-loop-row g l = record {
  each : AnswersFrom (answers_ok (goal.F-post g l.op)) 0 l.values.items;
  count : length l.values.items ≡ l.row;
  room : l.len ≤ vec_capacity l.values;
}
