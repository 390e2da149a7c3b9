use Rattle.arrow_select.proofs.SetLemmas.{GathersUpTo}
use Rattle.arrow_select.proofs.filter.words.gather_each.Given as goal

abbrev pub invariant-loop-left : goal.invariant-loop-left
invariant-loop-left l = GathersUpTo l.mask l.bits l.left l.kept l.count

-- the bits that are left
abbrev pub decreases-loop-left : goal.decreases-loop-left
decreases-loop-left l = l.left
