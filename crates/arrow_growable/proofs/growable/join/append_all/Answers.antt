use Rattle.arrow_growable.proofs.Common.{arith, ◌≡◌, ◌<◌, subst, Bor, Err, ap, length, map, sym, ◌∙◌, length-map, layout_of, layouts_in, rows, source_at, source_is, passed_on, grown_of, HasAppended}
use Rattle.arrow_growable.proofs.GrowLemmas.{cannot_append, holds_none, holds_more, named, whole_source}
use Rattle.arrow_growable.proofs.JoinedLemmas.{joined_next, joined_around, rows_read}
use Rattle.arrow_growable.proofs.growable.join.append_all.Goals as goal

pub loop-index-init : goal.loop-index-init
loop-index-init c = holds_none (layouts_in c.args.arrays.now) _ c.requires.bound

pub returns-in_err-extend-clause-overflow : goal.returns-in_err-extend-clause-overflow
returns-in_err-extend-clause-overflow c overflows =
    let arrays = c.args.arrays.now in
    let layouts = layouts_in arrays in
    let i = c.loop-index.index in
    let bound : i < length layouts = omega (arith, c.loop-index-test.true, length-map arrays (λ (a : Bor _). layout_of a.now)) in
    let source = source_is (λ (a : Bor _). layout_of a.now) arrays i c.index-arrays-index.result c.loop-index-test.true c.index-arrays-index.is in
    let all : c.len.result ≡ length (rows (source_at layouts i)) = c.len.ensures ∙ ap (λ l. length (rows l)) (sym source) in
    let overflow = ap Err (passed_on c.from_residual.result _ _ c.from_residual.ensures.1 overflows) in
    cannot_append layouts _ _ c.loop-index.invariant i c.len.result _ bound all (c.in_err-extend.ensures.overflow overflow) (joined_around (map rows layouts) i _ (rows_read layouts i bound))

pub loop-index-preserved : goal.loop-index-preserved
loop-index-preserved c =
    let arrays = c.args.arrays.now in
    let layouts = layouts_in arrays in
    let i = c.loop-index.index in
    let bound : i < length layouts = omega (arith, c.loop-index-test.true, length-map arrays (λ (a : Bor _). layout_of a.now)) in
    let source = source_is (λ (a : Bor _). layout_of a.now) arrays i c.index-arrays-index.result c.loop-index-test.true c.index-arrays-index.is in
    let all : c.len.result ≡ length (rows (source_at layouts i)) = c.len.ensures ∙ ap (λ l. length (rows l)) (sym source) in
    let more = named layouts _ _ c.loop-index.invariant i 0 c.len.result ∙ whole_source layouts i c.len.result all in
    subst (HasAppended layouts (grown_of c.extend.new.self)) (sym (joined_next (map rows layouts) i _ (rows_read layouts i bound))) (holds_more layouts _ _ c.loop-index.invariant _ _ _ more c.in_ok-extend.ensures.ok c.in_ok-extend.ensures.fits)
