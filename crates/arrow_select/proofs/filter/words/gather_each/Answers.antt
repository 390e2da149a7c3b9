use Rattle.arrow_select.proofs.Common.{arith, ◌-◌, and_le_r}
use Rattle.arrow_select.proofs.SetLemmas.{gathers_all, gathers_below, gathers_more}
use Rattle.arrow_select.proofs.filter.words.gather_each.Goals as goal

pub overflow_shl-kept : goal.overflow_shl-kept
overflow_shl-kept c = gathers_below c.loop-left.invariant c.loop-left-test.true c.loop-left.auto.left-fits.fits

pub overflow_add-count : goal.overflow_add-count
overflow_add-count c =
    record { fits = omega (arith, gathers_below c.loop-left.invariant c.loop-left-test.true c.loop-left.auto.left-fits.fits) }

pub loop-left-preserved : goal.loop-left-preserved
loop-left-preserved c =
    gathers_more c.loop-left.invariant c.loop-left-test.true c.loop-left.auto.left-fits.fits c.from.result c.from.ensures

pub loop-left-smaller : goal.loop-left-smaller
loop-left-smaller c = omega (arith, and_le_r c.loop-left.left (c.loop-left.left - 1), c.loop-left-test.true)

pub returns : goal.returns
returns c = gathers_all c.loop-left.invariant c.loop-left-test.false
