use Rattle.arrow_select.proofs.Common.{◌≡◌, ◌+◌, ◌-◌, ◌<◌, ◌++◌, false, length, replicate, slice_index, places_from, item_bits}
use Rattle.arrow_select.proofs.SetBytes.{EndsUpTo}
use Rattle.arrow_select.proofs.filter.list.kept_items.Given as goal

-- the bits and the ends so far, with those of the rows at which the bits that are left are set, are all
abbrev pub invariant-loop-row : goal.invariant-loop-row
invariant-loop-row g l = record {
  count : l.row + length l.left ≡ l.len;
  long : length l.own ≡ slice_index l.rows l.row;
  own : l.own ++ item_bits l.left l.rows l.row ≡ replicate (slice_index l.rows 0) false ++ item_bits l.mask l.rows 0;
  some : 0 < length l.ends;
  ends : EndsUpTo l.rows l.ends (places_from l.row l.left) (places_from 0 l.mask);
}

-- the rows that are left
abbrev pub decreases-loop-row : goal.decreases-loop-row
decreases-loop-row g l = l.len - l.row
