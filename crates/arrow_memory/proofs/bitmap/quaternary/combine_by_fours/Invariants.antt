use Rattle.arrow_memory.proofs.Common.{◌≡◌, length}
use Rattle.arrow_memory.proofs.FoursLemmas.{GivesFoursUpTo}
use Rattle.arrow_memory.proofs.bitmap.quaternary.combine_by_fours.Given as goal

-- the words so far are what the bits give
abbrev pub invariant-loop-j : goal.invariant-loop-j
invariant-loop-j g l = record {
  long : length l.words ≡ length l.initial.words;
  each : GivesFoursUpTo g.L.QuaternaryLogic.bits l.second l.second_from l.third l.third_from l.fourth l.fourth_from l.initial.words l.words l.j;
}
