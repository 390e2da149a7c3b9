use Rattle.arrow_logic.proofs.Common.{◌≡◌, ◌+◌, ◌++◌, pos, map, range_with_len, vec_len, vec_capacity, word_length}
use Rattle.arrow_logic.proofs.length.append_half.Given as goal

-- the lengths of the rows so far
abbrev pub invariant-loop-k : goal.invariant-loop-k
invariant-loop-k g l = record {
  items : map g.O.NativeOrd.number l.lengths.items ≡ map g.O.NativeOrd.number l.initial.lengths.items ++ map (λ k. pos (word_length l.fn.word l.fn.offsets l.fn.start k)) (range_with_len l.fn.first l.k);
  len : vec_len l.lengths ≡ vec_len l.initial.lengths + l.k;
  capacity : vec_capacity l.lengths ≡ vec_capacity l.initial.lengths;
}
