use Rattle.arrow_select.proofs.Common.{◌*◌}
use Rattle.arrow_select.proofs.PlanLemmas.{WalksUpTo, WalksWord}
use Rattle.arrow_select.proofs.filter.ranges.ranges_of.Given as goal

-- the ranges that are done and the run that is under way are those of the words so far
abbrev pub invariant-loop-j : goal.invariant-loop-j
invariant-loop-j l = WalksUpTo l.ranges.items l.first l.count (64 * l.j) l.mask

-- and of the bits of this word that are taken
abbrev pub invariant-loop-word : goal.invariant-loop-word
invariant-loop-word l = WalksWord l.ranges.items l.first l.count l.word (64 * l.j) l.mask

-- each run makes the word less
abbrev pub decreases-loop-word : goal.decreases-loop-word
decreases-loop-word l = l.word
