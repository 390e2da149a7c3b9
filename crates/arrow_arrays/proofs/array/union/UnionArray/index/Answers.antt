use Rattle.std.proofs.Common.{subst}
use Rattle.arrow_arrays.specs.UnionParts.{IsUnion}
use Rattle.arrow_arrays.proofs.UnionLemmas.{row_is, row_within}
use Rattle.arrow_arrays.proofs.array.union.UnionArray.index.Goals as goal

pub returns-clause-row : goal.returns-clause-row
returns-clause-row c =
    let union = subst (IsUnion c.self.inside.offsets) c.self.view_is c.self.invariant in
    row_is c.args.self.now c.args.i c.field_of.result c.child_row_of.result union c.requires c.field_of.ensures c.child_row_of.ensures

pub returns-clause-within : goal.returns-clause-within
returns-clause-within c =
    let union = subst (IsUnion c.self.inside.offsets) c.self.view_is c.self.invariant in
    row_within c.args.self.now c.args.i c.field_of.result c.child_row_of.result union c.requires c.field_of.ensures c.child_row_of.ensures
