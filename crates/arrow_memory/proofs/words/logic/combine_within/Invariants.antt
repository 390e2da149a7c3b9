use Rattle.arrow_memory.proofs.Common.{◌≡◌, ◌+◌, length, is_set}
use Rattle.arrow_memory.proofs.LogicLemmas.{GivesUpTo}
use Rattle.arrow_memory.proofs.words.logic.combine_within.Given as goal

-- the words so far are what the bits give
abbrev pub invariant-loop-j : goal.invariant-loop-j
invariant-loop-j g l = record {
  long : length l.words ≡ length l.initial.words;
  each : GivesUpTo (λ bit i. g.L.Logic.bits bit (is_set l.others (l.from + i))) l.initial.words l.words l.j;
}
