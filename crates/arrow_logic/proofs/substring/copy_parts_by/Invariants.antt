use Rattle.arrow_logic.proofs.Common.{◌≡◌, ◌+◌, ◌≤◌, [], length, take, slice_index, row_bytes, kept}
use Rattle.arrow_logic.proofs.PartLemmas.{Holds}
use Rattle.arrow_logic.proofs.substring.copy_parts_by.Given as goal

-- the parts of the rows so far, which have no more bytes than these
abbrev pub invariant-loop-row : goal.invariant-loop-row
invariant-loop-row g l = record {
  held : Holds l.ends l.bytes.items (take l.row (kept [] (g.K.Units.cut l.fn.start l.fn.count) l.rows.validity (row_bytes l.rows.values)));
  long : length l.ends ≡ l.row + 1;
  few : length l.bytes.items + slice_index l.rows.values.offsets 0 ≤ slice_index l.rows.values.offsets l.row;
}
