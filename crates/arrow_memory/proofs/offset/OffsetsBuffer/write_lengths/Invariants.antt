use Rattle.arrow_memory.proofs.Common.{◌≡◌, pos, ◌-◌, ◌≤◌, length, map, take, word_lengths}
use Rattle.arrow_memory.proofs.offset.OffsetsBuffer.write_lengths.Given as goal

-- the lengths of the rows so far
abbrev pub invariant-loop-done : goal.invariant-loop-done
invariant-loop-done g l = record {
  within : l.done ≤ l.count;
  long : length l.lengths ≡ l.count;
  so_far : map g.O.NativeOrd.number (take l.done l.lengths) ≡ map pos (word_lengths l.word l.self l.start l.done);
}

abbrev pub decreases-loop-done : goal.decreases-loop-done
decreases-loop-done g l = l.count - l.done
