use Rattle.arrow_select.proofs.Common.{arith, ◌-◌, ◌∙◌, and_le_r}
use Rattle.arrow_select.proofs.SetLemmas.{takes_all, takes_few, takes_more, takes_within}
use Rattle.arrow_select.proofs.filter.words.push_set.Goals as goal

pub offset_bounds-values-left : goal.offset_bounds-values-left
offset_bounds-values-left g c =
    omega (arith, takes_within c.loop-left.invariant.taken c.loop-left-test.true c.loop-left.auto.left-fits.fits)

pub bounds-values-left : goal.bounds-values-left
bounds-values-left g c = takes_within c.loop-left.invariant.taken c.loop-left-test.true c.loop-left.auto.left-fits.fits

pub push_reserved-requires : goal.push_reserved-requires
push_reserved-requires g c =
    omega (arith, takes_few c.loop-left.invariant.taken c.loop-left-test.true c.loop-left.auto.left-fits.fits c.index-values-left.result c.index-values-left.is, c.args.out.now.ok.0, c.loop-left.out.ok.0, c.loop-left.invariant.room)

pub loop-left-preserved : goal.loop-left-preserved
loop-left-preserved g c = record {
  taken = takes_more c.loop-left.invariant.taken c.loop-left-test.true c.loop-left.auto.left-fits.fits c.index-values-left.result c.index-values-left.is _ c.push_reserved.ensures.items;
  room = c.push_reserved.ensures.capacity ∙ c.loop-left.invariant.room;
}

pub loop-left-smaller : goal.loop-left-smaller
loop-left-smaller g c = omega (arith, and_le_r c.loop-left.left (c.loop-left.left - 1), c.loop-left-test.true)

pub returns-clause-items : goal.returns-clause-items
returns-clause-items g c = takes_all c.loop-left.invariant.taken c.loop-left-test.false
