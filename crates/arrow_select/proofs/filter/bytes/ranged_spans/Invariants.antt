use Rattle.arrow_select.proofs.Common.{◌≡◌, ◌<◌, ◌≤◌, ℕ, List, drop, length, map, take, concat, named, last_of, places_from, IsSpanWithin, spanned, row_in, All}
use Rattle.arrow_select.proofs.SetBytes.{EndsUpTo}
use Rattle.arrow_select.proofs.filter.bytes.ranged_spans.Given as goal

-- the spans so far have the bytes of the rows of the ranges so far, and the ends so far, with those of the ranges that are left, are all
abbrev pub invariant-loop-start : goal.invariant-loop-start
invariant-loop-start g l = record {
  within : All (IsSpanWithin (last_of l.rows)) l.spans.items;
  bytes : (bytes : List ℕ) → last_of l.rows ≤ length bytes → spanned bytes l.spans.items ≡ concat (map (row_in l.rows bytes) (named (take l.start-index l.ranges)));
  some : 0 < length l.ends;
  ends : EndsUpTo l.rows l.ends (named (drop l.start-index l.ranges)) (places_from 0 l.filter);
}
