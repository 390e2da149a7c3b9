use Rattle.arrow_memory.proofs.Common.{◌≡◌, flat_map, replicate, take, sliced, word_of}
use Rattle.arrow_memory.proofs.bitmap.mask.repeated_word.Given as goal

-- the rows so far
abbrev pub invariant-loop-row : goal.invariant-loop-row
invariant-loop-row l =
    l.word ≡ word_of (flat_map (replicate l.times) (take l.row (sliced l.bits l.start l.len)))
