use Rattle.arrow_select.proofs.Common.{rules, arith, ◌≡◌, ◌+◌, ◌^◌, ◌<◌, IfOk, ap, get_or, length, subst, ◌∙◌, IsRangesOf}
use Rattle.arrow_select.proofs.RangedLemmas.{ranged_all, ranged_below}
use Rattle.arrow_select.proofs.filter.ranged.ranged_bits.Goals as goal

pub returns-in_err-extend_from_bitmap-clause-err : goal.returns-in_err-extend_from_bitmap-clause-err
returns-in_err-extend_from_bitmap-clause-err c =
    let items = c.ranges-start-items.result.now in
    let mask = c.args.filter.now in
    let k = c.loop-start.start-index in
    let are : IsRangesOf items mask = record { names = c.ranges-start-items.ensures.named; shortest = c.ranges-start-items.ensures.shortest; within = c.ranges-start-items.ensures.within } in
    let below = ranged_below items mask c.args.bits.now k are c.requires c.loop-start-test.true in
    let room : length c.loop-start.kept + (get_or items k (0, 0)).1 < 2 ^ 64 = omega (arith, below, ap length c.loop-start.invariant, c.count.ensures, c.count.type_inv) in
    search (rules, room)

pub returns-clause-ok : goal.returns-clause-ok
returns-clause-ok c =
    let all = c.loop-start.invariant ∙ ranged_all c.ranges-start-items.result.now c.args.filter.now c.args.bits.now c.loop-start.start-index c.ranges-start-items.ensures.named c.requires c.loop-start-test.false in
    subst (λ bits. IfOk c.into_bitmap.result (λ kept. kept ≡ bits)) all c.into_bitmap.ensures.ok
