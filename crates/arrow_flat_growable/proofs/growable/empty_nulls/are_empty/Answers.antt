use Rattle.arrow_flat_growable.proofs.Common.{arith, ◌≡◌, ◌+◌, ◌<◌, slice_index, w64, trailing_zeros}
use Rattle.arrow_flat_growable.proofs.EmptyNullLemmas.{lowest_set, one_done, others_left, others_less}
use Rattle.arrow_flat_growable.proofs.growable.empty_nulls.are_empty.Goals as goal

pub overflow_add-start : goal.overflow_add-start
overflow_add-start g c =
    let left = c.loop-left.left in
    let some : 0 < left = omega (arith, c.loop-left-test.true) in
    omega (arith, c.requires (trailing_zeros w64 left) (c.loop-left.invariant.0 _ (lowest_set left some c.loop-left.auto.left-fits.fits)), c.len.ensures.count, c.len.type_inv)

pub start_end-begin-requires : goal.start_end-begin-requires
start_end-begin-requires g c =
    let left = c.loop-left.left in
    let some : 0 < left = omega (arith, c.loop-left-test.true) in
    c.requires (trailing_zeros w64 left) (c.loop-left.invariant.0 _ (lowest_set left some c.loop-left.auto.left-fits.fits))

pub loop-left-smaller : goal.loop-left-smaller
loop-left-smaller g c =
    let left = c.loop-left.left in
    let some : 0 < left = omega (arith, c.loop-left-test.true) in
    others_less left some c.loop-left.auto.left-fits.fits

pub loop-left-preserved : goal.loop-left-preserved
loop-left-preserved g c =
    let left = c.loop-left.left in
    let some : 0 < left = omega (arith, c.loop-left-test.true) in
    let small = c.loop-left.auto.left-fits.fits in
    let rows = c.args.rows.now in
    let start = c.args.start in
    let place = trailing_zeros w64 left in
    let here : slice_index rows (start + place + 1) ≡ slice_index rows (start + place) = omega (arith, c.if-begin-end.false, c.start_end-begin.ensures.start, c.start_end-begin.ensures.end) in
    (λ k set. c.loop-left.invariant.0 k (others_left left some small k set), one_done left some small c.args.word c.ranges.word.fits (λ k. slice_index rows (start + k + 1) ≡ slice_index rows (start + k)) here c.loop-left.invariant.1)
