use Rattle.arrow_memory.proofs.Common.{◌≡◌, ◌++◌, Bool, List, rev_source, iter_rest, word_of}
use Rattle.arrow_memory.proofs.words.pack.Given as goal

-- the bits that are packed stand behind those that are left
abbrev pub invariant-loop-bit : goal.invariant-loop-bit
invariant-loop-bit l =
    (packed : List Bool) × (l.bits ≡ iter_rest (rev_source l.bit-iterator) ++ packed) × (l.word ≡ word_of packed)
