use Rattle.arrow_memory.proofs.Common.{pos, ◌+ℤ◌, ◌-ℤ◌, ◌≤ℤ◌, ◌<◌, length, sym, ap, ◌∙◌, subst, arith}
use Rattle.arrow_memory.proofs.OffsetLemmas.{same_at, mapped_next, left_next}
use Rattle.arrow_memory.proofs.offset.shift.Goals as goal

pub shifted-requires-clause-rises : goal.shifted-requires-clause-rises
shifted-requires-clause-rises g c =
    let number = g.O.NativeOrd.number in
    let i = c.loop-offset.offset-index in
    let d = c.offset-item.result in
    let same = same_at c.loop-offset.offsets c.args.offsets.now i d c.loop-offset.invariant.left in
    subst (λ x. number c.args.from ≤ℤ number x) (sym same) (c.requires.fits i d c.loop-offset-test.true).0

pub shifted-requires-clause-fits : goal.shifted-requires-clause-fits
shifted-requires-clause-fits g c =
    let number = g.O.NativeOrd.number in
    let i = c.loop-offset.offset-index in
    let d = c.offset-item.result in
    let same = same_at c.loop-offset.offsets c.args.offsets.now i d c.loop-offset.invariant.left in
    subst (λ x. (number c.args.to +ℤ (number x -ℤ number c.args.from)) ≤ℤ pos g.O.Index.greatest) (sym same) (c.requires.fits i d c.loop-offset-test.true).1

pub loop-offset-preserved : goal.loop-offset-preserved
loop-offset-preserved g c =
    let number = g.O.NativeOrd.number in
    let offsets = c.loop-offset.offsets in
    let old = c.args.offsets.now in
    let i = c.loop-offset.offset-index in
    let d = c.offset-item.result in
    let same = same_at offsets old i d c.loop-offset.invariant.left in
    let inside : i < length old = c.loop-offset-test.true in
    let within : i < length offsets = omega (arith, inside, c.loop-offset.auto.offsets) in
    record {
      done = mapped_next number (λ z. number c.args.to +ℤ (z -ℤ number c.args.from)) old offsets i c.shifted.result d within inside (c.shifted.ensures ∙ ap (λ x. number c.args.to +ℤ (number x -ℤ number c.args.from)) same) c.loop-offset.invariant.done;
      left = left_next old offsets i c.shifted.result c.loop-offset.invariant.left;
    }
