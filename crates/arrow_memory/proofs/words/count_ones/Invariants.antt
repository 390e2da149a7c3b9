use Rattle.arrow_memory.proofs.Common.{◌≡◌, ◌+◌, ◌*◌, ◌/◌, bits_in, set_count}
use Rattle.arrow_memory.proofs.words.count_ones.Given as goal

-- the words so far are counted
abbrev pub invariant-loop-word : goal.invariant-loop-word
invariant-loop-word l =
    l.ones ≡ l.initial.ones + set_count (bits_in l.words (64 * (l.start / 64)) (64 * l.word-index))
