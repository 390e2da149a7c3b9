use Rattle.uses.proofs.Common.{arith, ints, rules, to_z-of_z}
use Rattle.uses.proofs.MergeLemmas.{number_at}
use Rattle.uses.proofs.merge.comes_first.Goals as goal

pub returns : goal.returns
returns c =
    let left = c.args.left.now in
    let right = c.args.right.now in
    let here = number_at left.validity left.values c.args.i c.value.result c.value.ensures (search rules) in
    let there = number_at right.validity right.values c.args.j c.value-2.result c.value-2.ensures (search rules) in
    rw (here, there) (grind (arith, ints, to_z-of_z))
