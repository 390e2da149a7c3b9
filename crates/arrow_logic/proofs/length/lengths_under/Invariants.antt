use Rattle.arrow_logic.proofs.Common.{◌≡◌, ◌-◌, ◌%◌, ◌<◌, ◌≤◌, pos, length, map, take, vec_len, vec_capacity, row_bytes, kept}
use Rattle.arrow_logic.proofs.length.lengths_under.Given as goal

-- the lengths of the rows so far, which are whole words of rows where some are left
abbrev pub invariant-loop-row : goal.invariant-loop-row
invariant-loop-row g l = record {
  within : l.row ≤ l.count;
  aligned : l.row < l.count → l.row % 64 ≡ 0;
  items : map g.O.NativeOrd.number l.lengths.items ≡ map pos (take l.row (kept 0 length l.texts.validity (row_bytes l.texts.values)));
  len : vec_len l.lengths ≡ l.row;
  capacity : l.count ≤ vec_capacity l.lengths;
}

abbrev pub decreases-loop-row : goal.decreases-loop-row
decreases-loop-row g l = l.count - l.row
