use Rattle.arrow_select.proofs.Common.{◌≡◌, vec_capacity}
use Rattle.arrow_select.proofs.SetLemmas.{GathersUpTo, TakesUpTo}
use Rattle.arrow_select.proofs.filter.words.push_both.Given as goal

abbrev pub invariant-loop-left : goal.invariant-loop-left
invariant-loop-left g l = record {
  taken : TakesUpTo l.word l.left l.values l.initial.out.items l.out.items;
  room : vec_capacity l.out ≡ vec_capacity l.initial.out;
  bits : GathersUpTo l.word l.bits l.left l.kept l.count;
}

-- the bits that are left
abbrev pub decreases-loop-left : goal.decreases-loop-left
decreases-loop-left g l = l.left
