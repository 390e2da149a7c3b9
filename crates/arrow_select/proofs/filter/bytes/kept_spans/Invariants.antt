use Rattle.arrow_select.proofs.Common.{◌≡◌, ◌+◌, ◌-◌, ◌<◌, ◌≤◌, ◌++◌, ℕ, List, length, last_of, valid_values, places_from, IsSpanWithin, spanned, All}
use Rattle.arrow_select.proofs.SetBytes.{EndsUpTo}
use Rattle.arrow_select.proofs.filter.bytes.kept_spans.Given as goal

-- the bytes in the spans so far and the ends so far, with those of the rows at which the bits that are left are set, are all
abbrev pub invariant-loop-row : goal.invariant-loop-row
invariant-loop-row g l = record {
  count : l.row + length l.left ≡ l.len;
  within : All (IsSpanWithin (last_of l.rows)) l.spans.items;
  bytes : (bytes : List ℕ) → last_of l.rows ≤ length bytes → spanned bytes l.spans.items ++ valid_values l.left l.rows bytes l.row ≡ valid_values l.mask l.rows bytes 0;
  some : 0 < length l.ends;
  ends : EndsUpTo l.rows l.ends (places_from l.row l.left) (places_from 0 l.mask);
}

-- the rows that are left
abbrev pub decreases-loop-row : goal.decreases-loop-row
decreases-loop-row g l = l.len - l.row
