use Rattle.arrow_select.proofs.Common.{arith, ◌-◌, ◌∙◌, and_le_r}
use Rattle.arrow_select.proofs.SetLemmas.{gathers_all, gathers_below, gathers_more, takes_all, takes_few, takes_more, takes_within}
use Rattle.arrow_select.proofs.filter.words.push_both.Goals as goal

pub offset_bounds-values-place : goal.offset_bounds-values-place
offset_bounds-values-place g c =
    omega (arith, takes_within c.loop-left.invariant.taken c.loop-left-test.true c.loop-left.auto.left-fits.fits)

pub bounds-values-place : goal.bounds-values-place
bounds-values-place g c = takes_within c.loop-left.invariant.taken c.loop-left-test.true c.loop-left.auto.left-fits.fits

pub push_reserved-requires : goal.push_reserved-requires
push_reserved-requires g c =
    omega (arith, takes_few c.loop-left.invariant.taken c.loop-left-test.true c.loop-left.auto.left-fits.fits c.index-values-place.result c.index-values-place.is, c.args.out.now.ok.0, c.loop-left.out.ok.0, c.loop-left.invariant.room)

pub overflow_shl-kept : goal.overflow_shl-kept
overflow_shl-kept g c =
    gathers_below c.loop-left.invariant.bits c.loop-left-test.true c.loop-left.auto.left-fits.fits

pub overflow_add-count : goal.overflow_add-count
overflow_add-count g c =
    record { fits = omega (arith, gathers_below c.loop-left.invariant.bits c.loop-left-test.true c.loop-left.auto.left-fits.fits) }

pub loop-left-preserved : goal.loop-left-preserved
loop-left-preserved g c = record {
  taken = takes_more c.loop-left.invariant.taken c.loop-left-test.true c.loop-left.auto.left-fits.fits c.index-values-place.result c.index-values-place.is _ c.push_reserved.ensures.items;
  room = c.push_reserved.ensures.capacity ∙ c.loop-left.invariant.room;
  bits = gathers_more c.loop-left.invariant.bits c.loop-left-test.true c.loop-left.auto.left-fits.fits c.from.result c.from.ensures;
}

pub loop-left-smaller : goal.loop-left-smaller
loop-left-smaller g c = omega (arith, and_le_r c.loop-left.left (c.loop-left.left - 1), c.loop-left-test.true)

pub returns-clause-items : goal.returns-clause-items
returns-clause-items g c = takes_all c.loop-left.invariant.taken c.loop-left-test.false

pub returns-clause-bits : goal.returns-clause-bits
returns-clause-bits g c = gathers_all c.loop-left.invariant.bits c.loop-left-test.false
