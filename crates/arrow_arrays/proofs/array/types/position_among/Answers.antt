use Rattle.std.proofs.Common.{◌∙◌, sym, ap, subst, pos, Some, length, get_or, of_z, to_z, w8, w32, rules}
use mir.Val.{SFits}
use Rattle.std.proofs.lemmas.Int.{to_z-of_z}
use Rattle.arrow_arrays.specs.UnionParts.{FindsField}
use Rattle.arrow_arrays.proofs.TypeLemmas.{position_found, position_next, same_stored}
use Rattle.arrow_arrays.proofs.array.types.position_among.Goals as goal

pub returns-then-given-from : goal.returns-then-given-from
returns-then-given-from c =
    let ids = c.args.ids.now in
    let id = to_z w8 (of_z w8 c.args.id) in
    let fits : SFits w32 (get_or ids c.loop-i.i (pos 0)) = search rules in
    let other_fits : SFits w32 c.from.result = search rules in
    let is = same_stored _ c.from.result fits other_fits c.if-given-from.true ∙ c.from.ensures in
    subst (λ z. FindsField (Some ids) (length ids) z (Some c.loop-i.i)) (to_z-of_z w8 c.args.id c.ranges.id) (position_found ids c.loop-i.i id c.loop-i-test.true is c.loop-i.invariant)

pub loop-i-preserved : goal.loop-i-preserved
loop-i-preserved c =
    let id = to_z w8 (of_z w8 c.args.id) in
    position_next c.args.ids.now c.loop-i.i id c.loop-i-test.true (λ is. c.if-given-from.false (ap (of_z w32) (is ∙ sym c.from.ensures))) c.loop-i.invariant
