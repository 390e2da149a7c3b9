use Rattle.arrow_growable.proofs.Common.{arith}
use Rattle.arrow_growable.proofs.SourceLemmas.{value_is, value_there}
use Rattle.arrow_growable.proofs.growable.bound.StructArrayNestedArray.child.Goals as goal

pub bounds-values-f : goal.bounds-values-f
bounds-values-f c =
    value_there c.values.result.now c.args.self.now.children c.values.ensures.same c.args.f c.requires

pub offset_bounds-values-f : goal.offset_bounds-values-f
offset_bounds-values-f c = omega (arith, bounds-values-f c, c.values.type_inv.1)

pub returns : goal.returns
returns c =
    value_is c.values.result.now c.args.self.now.children c.values.ensures.same c.args.f c.requires c.index-values-f.result c.index-values-f.is
