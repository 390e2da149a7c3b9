use Rattle.arrow_take.proofs.Common.{◌≡◌, ◌+◌, ◌-◌, ◌%◌, ◌<◌, ◌≤◌, ◌∷◌, length, map, take, vec_len, vec_capacity, rows_by, ends_from, span_length, taken_span}
use Rattle.arrow_take.proofs.take.bytes.take_spans.Given as goal

-- where the rows so far lie, which are whole words of indices where some are left, and where they end
abbrev pub invariant-loop-row : goal.invariant-loop-row
invariant-loop-row g l = record {
  within : l.row ≤ length l.stored;
  aligned : l.row < length l.stored → l.row % 64 ≡ 0;
  spans : l.spans.items ≡ map (taken_span l.fn.values.validity l.fn.values.values.offsets) (take l.row (rows_by (map g.I.NativeType.slot) l.fn.indices));
  len : vec_len l.spans ≡ vec_len l.initial.spans + l.row;
  capacity : vec_capacity l.spans ≡ vec_capacity l.initial.spans;
  offsets : l.offsets ≡ 0 ∷ ends_from 0 (map (span_length l.fn.values.validity l.fn.values.values.offsets) (take l.row (rows_by (map g.I.NativeType.slot) l.fn.indices)));
}

abbrev pub decreases-loop-row : goal.decreases-loop-row
decreases-loop-row g l = length l.stored - l.row

-- and of the rows of a word where those so far end
abbrev pub invariant-loop-first : goal.invariant-loop-first
invariant-loop-first g l =
    l.offsets ≡ 0 ∷ ends_from 0 (map (span_length l.fn.values.validity l.fn.values.values.offsets) (take (l.row + l.first-index) (rows_by (map g.I.NativeType.slot) l.fn.indices)))
