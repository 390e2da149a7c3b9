use Rattle.arrow_growable.proofs.Common.{arith, rules, ◌≡◌, ◌<◌, ◌+◌, [], ◌∷◌, pos, w8, w32, get_or, length, map, refl, ap, ◌∙◌, SFits, to_z-of_z, get_or-map, length-map, child_row_of}
use Rattle.arrow_growable.proofs.UnionRunLemmas.{next_risen, next_same, one_is}
use Rattle.arrow_growable.proofs.growable.union_runs.risen.Goals as goal

pub loop-count-init : goal.loop-count-init
loop-count-init c =
    let zs = c.args.offsets.now in
    let i = c.args.start in
    let within : i < length zs = omega (arith, c.requires.some, c.requires.covered) in
    let fits : SFits w32 (get_or zs i (pos 0)) = search rules in
    let first : c.to_usize-next.result ≡ child_row_of (get_or zs i (pos 0)) = ap child_row_of (c.to_usize-next.ensures.value ∙ to_z-of_z w32 (get_or zs i (pos 0)) fits) in
    (omega arith, omega (arith, c.requires.some), ap (λ k. k + 1) first, one_is c.args.ids.now i (pos 0) (omega (arith, c.requires.some, c.requires.part)), one_is (map child_row_of zs) i 0 (omega (arith, within, length-map zs child_row_of)) ∙ (λ j. get_or-map child_row_of zs i (pos 0) 0 within j ∷ []))

pub loop-count-preserved : goal.loop-count-preserved
loop-count-preserved c =
    let zs = c.args.offsets.now in
    let ids = c.args.ids.now in
    let i = c.args.start in
    let n = c.loop-count.count in
    let inv = c.loop-count.invariant in
    let within : i + n < length zs = omega (arith, inv.1, c.loop-count-test.true, c.requires.covered) in
    let typed : i + n < length ids = omega (arith, inv.1, c.loop-count-test.true, c.requires.part) in
    let id_fits : SFits w8 (get_or ids i (pos 0)) = search rules in
    let next : get_or (map child_row_of zs) (i + n) 0 ≡ child_row_of (get_or zs i (pos 0)) + n = get_or-map child_row_of zs (i + n) (pos 0) 0 within ∙ (c.if-follows.ensures.next refl ∙ inv.2) in
    (omega arith, omega (arith, inv.1, c.loop-count-test.true), omega (arith, inv.2), next_same ids i n (get_or ids i (pos 0)) (pos 0) typed (c.if-follows.ensures.same refl ∙ to_z-of_z w8 (get_or ids i (pos 0)) id_fits) inv.3, next_risen (map child_row_of zs) i n (child_row_of (get_or zs i (pos 0))) (omega (arith, within, length-map zs child_row_of)) next inv.4)
