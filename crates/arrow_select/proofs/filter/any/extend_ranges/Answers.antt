use Rattle.arrow_select.proofs.Common.{arith, Err, ap, ◌∙◌, take_all, Failed, failed, grown_of, RefusesRange, with_ranges, IsRangesOf}
use Rattle.arrow_select.proofs.ExtendLemmas.{extended_all, refuses_range, same_error}
use Rattle.arrow_select.proofs.filter.any.extend_ranges.Goals as goal

pub returns-in_err-extend-clause-err : goal.returns-in_err-extend-clause-err
returns-in_err-extend-clause-err c =
    let mask = c.args.filter.now in
    let i = c.args.index in
    let old = grown_of c.args.growable.now in
    let new = grown_of c.extend.new.self in
    let items = c.ranges-start-items.result.now in
    let e = c.in_err-extend.field-0.0 in
    let are : IsRangesOf items mask = record { names = c.ranges-start-items.ensures.named; shortest = c.ranges-start-items.ensures.shortest; within = c.ranges-start-items.ensures.within } in
    let refused = refuses_range mask i old (grown_of c.loop-start.growable) new items c.loop-start.start-index e are c.loop-start-test.true c.loop-start.invariant.now c.in_err-extend.ensures.err (λ is. c.in_err-extend.ensures.overflow (ap Err is)) (λ is. c.in_err-extend.ensures.failed.0 (ap Err is)) (λ had. same_error e Failed (c.in_err-extend.ensures.failed.1 had)) in
    failed c.from_residual.result e (RefusesRange mask i old new) c.from_residual.ensures.1 refused

pub returns-clause-ok : goal.returns-clause-ok
returns-clause-ok c =
    let items = c.ranges-start-items.result.now in
    let old = grown_of c.args.growable.now in
    let are : IsRangesOf items c.args.filter.now = record { names = c.ranges-start-items.ensures.named; shortest = c.ranges-start-items.ensures.shortest; within = c.ranges-start-items.ensures.within } in
    let all = take_all c.loop-start.start-index items (omega (arith, c.loop-start-test.false)) in
    extended_all old (grown_of c.loop-start.growable) c.args.index items c.args.filter.now c.requires are (c.loop-start.invariant.now ∙ ap (with_ranges old c.args.index) all)
