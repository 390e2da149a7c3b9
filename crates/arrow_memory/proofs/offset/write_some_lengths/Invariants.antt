use Rattle.arrow_memory.proofs.Common.{◌≡◌, pos, ◌+◌, length, map, take, word_lengths}
use Rattle.arrow_memory.proofs.offset.write_some_lengths.Given as goal

-- the lengths of the rows so far
abbrev pub invariant-loop-k : goal.invariant-loop-k
invariant-loop-k g l = record {
  long : length l.lengths ≡ length l.initial.lengths;
  so_far : map g.O.NativeOrd.number (take (l.fn.done + l.k) l.lengths) ≡ map pos (word_lengths l.fn.word l.fn.offsets l.fn.start (l.fn.done + l.k));
}
