use Rattle.arrow_memory.proofs.Common.{◌≡◌, length, not}
use Rattle.arrow_memory.proofs.LogicLemmas.{GivesUpTo}
use Rattle.arrow_memory.proofs.bitmap.bitmap_ops.turn.Given as goal

-- the words so far are turned
abbrev pub invariant-loop-j : goal.invariant-loop-j
invariant-loop-j l = record {
  long : length l.words ≡ length l.initial.words;
  each : GivesUpTo (λ bit i. not bit) l.initial.words l.words l.j;
}
