use Rattle.arrow_take.proofs.Common.{◌≡◌, ◌≤◌, length, take, kept, have_id}
use Rattle.arrow_take.proofs.take.dense.keep_validity.Given as goal

-- the bits so far that are kept
abbrev pub invariant-loop-row : goal.invariant-loop-row
invariant-loop-row l = record {
  items : l.own ≡ kept (take l.row (have_id l.id l.types)) (take l.row l.bits);
  count : length l.own ≤ l.row;
}
