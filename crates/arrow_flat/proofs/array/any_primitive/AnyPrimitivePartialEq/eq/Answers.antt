use Rattle.std.proofs.Common.{◌≡◌, sym, ap, ◌∙◌}
use Rattle.std.specs.Bool.{Decides}
use Rattle.arrow_types.specs.Physical.{physical_type_of}
use Rattle.arrow_flat.specs.AnyPrimitive.{any_type, any_meaning}
use Rattle.arrow_flat.proofs.PartsLemmas.{same_by_meaning, types_decide}
use Rattle.arrow_flat.proofs.array.any_primitive.AnyPrimitivePartialEq.eq.Goals as goal
use Rattle.arrow_flat.proofs.array.any_primitive.AnyPrimitivePartialEq.eq.Goals.{After-eq}

-- the test of the types tells whether they are equal
types : (c : After-eq) → Decides c.eq.result (any_type c.args.self.now ≡ any_type c.args.other.now)
types c = types_decide _ _ _ _ c.eq.result c.eq.ensures c.data_type.ensures.same c.data_type-2.ensures.same

pub equal_rows-requires : goal.equal_rows-requires
equal_rows-requires c =
    let types = types (goal.at.equal_rows-requires c).After-eq in
    let kinds = sym c.data_type.ensures.kind ∙ (ap physical_type_of (types.0 c.if-eq.true) ∙ c.data_type-2.ensures.kind) in
    cc kinds

pub returns-then-eq-clause-rows : goal.returns-then-eq-clause-rows
returns-then-eq-clause-rows c =
    let same = (types (goal.at.returns-then-eq-clause-rows c).After-eq).0 c.if-eq.true in
    (λ e. (same, c.equal_rows.ensures.0 e), λ both. c.equal_rows.ensures.1 both.1)

pub returns-then-eq-clause-value : goal.returns-then-eq-clause-value
returns-then-eq-clause-value c =
    same_by_meaning (any_meaning c.args.self.now) (any_meaning c.args.other.now) _ (returns-then-eq-clause-rows c)

pub returns-else-eq-clause-rows : goal.returns-else-eq-clause-rows
returns-else-eq-clause-rows c =
    (λ e. cc c.if-eq.false, λ both. (types (goal.at.returns-else-eq-clause-rows c).After-eq).1 both.0)

pub returns-else-eq-clause-value : goal.returns-else-eq-clause-value
returns-else-eq-clause-value c =
    same_by_meaning (any_meaning c.args.self.now) (any_meaning c.args.other.now) _ (returns-else-eq-clause-rows c)
