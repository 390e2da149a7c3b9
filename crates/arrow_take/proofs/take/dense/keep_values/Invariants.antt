use Rattle.arrow_take.proofs.Common.{◌≡◌, ◌≤◌, length, take, kept, have_id}
use Rattle.arrow_take.proofs.take.dense.keep_values.Given as goal

-- the values so far that are kept
abbrev pub invariant-loop-row : goal.invariant-loop-row
invariant-loop-row g l = record {
  items : take l.count l.own.items ≡ kept (take l.row (have_id l.id l.types)) (take l.row l.values);
  within : l.count ≤ l.row;
  long : length l.own.items ≡ length l.values;
}
