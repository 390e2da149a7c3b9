use Rattle.std.proofs.Common.{length, subst}
use Rattle.std.specs.List.{All}
use Rattle.arrow_arrays.specs.Layout.{field_ids}
use Rattle.arrow_arrays.specs.UnionParts.{IsKnown}
use Rattle.arrow_arrays.proofs.array.union.UnionArray.types.Goals as goal

pub returns-clause-known : goal.returns-clause-known
returns-clause-known c =
    subst (λ p. All (IsKnown (field_ids p.arrow_type) (length p.children)) p.types) c.self.view_is c.self.invariant.known
