use Rattle.arrow_growable.proofs.Common.{arith}
use Rattle.arrow_growable.proofs.UnionMakeLemmas.{child_read, child_there, child_type_is}
use Rattle.arrow_growable.proofs.growable.union.child_of.Goals as goal

pub bounds-fields-f : goal.bounds-fields-f
bounds-fields-f c =
    child_there c.args.array.now c.fields.result.now c.args.f c.fields.ensures.fields c.fields.ensures.same c.requires

pub offset_bounds-fields-f : goal.offset_bounds-fields-f
offset_bounds-fields-f c = omega (arith, bounds-fields-f c, c.fields.type_inv.1)

pub returns-clause-child : goal.returns-clause-child
returns-clause-child c =
    child_read c.args.array.now c.fields.result.now c.args.f c.index-fields-f.result c.fields.ensures.same (child_there c.args.array.now c.fields.result.now c.args.f c.fields.ensures.fields c.fields.ensures.same c.requires) c.index-fields-f.is

pub returns-clause-field : goal.returns-clause-field
returns-clause-field c = child_type_is c.args.array.now c.args.f c.fields.ensures.fields
