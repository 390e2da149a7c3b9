use Rattle.arrow_memory.proofs.Common.{◌≡◌, pos, ◌+◌, ◌-◌, ◌≤◌, ◌≤ℤ◌, ◌++◌, map, unsigned_abs, vec_len, vec_capacity, valid_items, valid_ends, sliced}
use Rattle.arrow_memory.proofs.offset.append_valid_rows.Given as goal

-- with the rows that are left, those so far are all
abbrev pub invariant-loop-row : goal.invariant-loop-row
invariant-loop-row g l = record {
  order : l.start ≤ l.row;
  within : l.row ≤ l.end;
  room : vec_len l.offsets + (l.end - l.row) ≤ vec_capacity l.offsets;
  not_negative : pos 0 ≤ℤ g.O.NativeOrd.number l.last;
  total : unsigned_abs (g.O.NativeOrd.number l.last) + valid_items (sliced l.validity l.row (l.end - l.row)) l.other l.row ≡ unsigned_abs (g.O.NativeOrd.number l.fn.last) + valid_items (sliced l.validity l.start l.len) l.other l.start;
  ends : map g.O.NativeOrd.number l.offsets.items ++ map pos (valid_ends (unsigned_abs (g.O.NativeOrd.number l.last)) (sliced l.validity l.row (l.end - l.row)) l.other l.row) ≡ map g.O.NativeOrd.number l.initial.offsets.items ++ map pos (valid_ends (unsigned_abs (g.O.NativeOrd.number l.fn.last)) (sliced l.validity l.start l.len) l.other l.start);
}

abbrev pub decreases-loop-row : goal.decreases-loop-row
decreases-loop-row g l = l.end - l.row
