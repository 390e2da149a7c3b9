use Rattle.arrow_select.proofs.Common.{arith, ◌≡◌, ◌+◌, length, subst, [], ◌∷◌, ◌++◌, Err, ap, sym, ◌∙◌, take_all, sliced, select, any_array_rows, layout_of, passed_on, run_long, grown_of, HasAppended, holds_none, holds_more, refuses_whole, too_many_first}
use Rattle.arrow_growable.proofs.GrowLemmas.{named}
use Rattle.arrow_select.proofs.FilterLemmas.{keeps_all, keeps_run}
use Rattle.arrow_select.proofs.filter.any.append_selected.Goals as goal

pub loop-row-init : goal.loop-row-init
loop-row-init c =
    let mask = c.args.mask.now in
    let whole : c.runs-left.result ≡ mask = c.runs-left.ensures ∙ take_all c.len-len.result mask (omega (arith, c.requires.lengths, c.len-len.ensures)) in
    let xs = any_array_rows c.args.array.now in
    ([], holds_none (layout_of c.args.array.now ∷ []) _ c.requires.bound, ap (λ bits. select bits xs) whole, omega (arith, ap length whole, c.requires.lengths, c.len-len.ensures))

pub returns-in_err-extend-clause-overflow : goal.returns-in_err-extend-clause-overflow
returns-in_err-extend-clause-overflow c overflows fits =
    let layouts = layout_of c.args.array.now ∷ [] in
    let xs = any_array_rows c.args.array.now in
    let kept = c.loop-row.invariant.0 in
    let held = c.loop-row.invariant.1 in
    let unset = c.next_set-unset.result.0 in
    let count = c.next_set-unset.result.1 in
    let row = c.loop-row.row in
    let whole = keeps_run unset count c.loop-row.left c.next_set-unset.new.self c.next_set-unset.ensures.bits xs row kept c.args.mask.now c.loop-row.invariant.2 in
    let refused = c.in_err-extend.ensures.overflow (ap Err (passed_on c.from_residual.result _ _ c.from_residual.ensures.1 overflows)) in
    refuses_whole layouts _ kept held _ _ _ _ (named layouts _ kept held 0 (row + unset) count) (too_many_first layouts _ kept held (row + unset) count refused) (sym whole) fits

pub loop-row-preserved : goal.loop-row-preserved
loop-row-preserved c =
    let layouts = layout_of c.args.array.now ∷ [] in
    let xs = any_array_rows c.args.array.now in
    let kept = c.loop-row.invariant.0 in
    let held = c.loop-row.invariant.1 in
    let unset = c.next_set-unset.result.0 in
    let count = c.next_set-unset.result.1 in
    let row = c.loop-row.row in
    let long = run_long unset count c.loop-row.left c.next_set-unset.new.self c.next_set-unset.ensures.bits in
    let more = holds_more layouts _ kept held _ _ _ (named layouts _ kept held 0 (row + unset) count) c.in_ok-extend.ensures.ok c.in_ok-extend.ensures.fits in
    let kept_more = keeps_run unset count c.loop-row.left c.next_set-unset.new.self c.next_set-unset.ensures.bits xs row kept c.args.mask.now c.loop-row.invariant.2 in
    (kept ++ sliced xs (row + unset) count, more, kept_more, omega (arith, c.loop-row.invariant.3, long))

pub returns-clause-ok : goal.returns-clause-ok
returns-clause-ok c =
    let layouts = layout_of c.args.array.now ∷ [] in
    let xs = any_array_rows c.args.array.now in
    let i = c.loop-row.invariant in
    let all = keeps_all i.0 c.loop-row.left c.args.mask.now xs c.loop-row.row (omega (arith, i.3, c.loop-row-test.false)) i.2 in
    subst (HasAppended layouts (grown_of c.loop-row.growable)) all i.1
