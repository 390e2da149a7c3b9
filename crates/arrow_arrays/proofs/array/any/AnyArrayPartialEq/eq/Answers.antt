use Rattle.std.proofs.Common.{◌≡◌}
use Rattle.std.specs.Bool.{Decides}
use Rattle.arrow_arrays.specs.Any.{any_array_type, any_array_meaning}
use Rattle.arrow_flat.proofs.PartsLemmas.{same_by_meaning, types_decide}
use Rattle.arrow_arrays.proofs.array.any.AnyArrayPartialEq.eq.Goals as goal
use Rattle.arrow_arrays.proofs.array.any.AnyArrayPartialEq.eq.Goals.{After-eq}

-- the test of the types tells whether they are equal
types : (c : After-eq) → Decides c.eq.result (any_array_type c.args.self.now ≡ any_array_type c.args.other.now)
types c = types_decide _ _ _ _ c.eq.result c.eq.ensures c.data_type.ensures.same c.data_type-2.ensures.same

pub equal_rows-requires : goal.equal_rows-requires
equal_rows-requires c =
    (types (goal.at.equal_rows-requires c).After-eq).0 c.if-eq.true

pub returns-then-eq-clause-rows : goal.returns-then-eq-clause-rows
returns-then-eq-clause-rows c =
    let same = (types (goal.at.returns-then-eq-clause-rows c).After-eq).0 c.if-eq.true in
    (λ e. (same, c.equal_rows.ensures.0 e), λ both. c.equal_rows.ensures.1 both.1)

pub returns-then-eq-clause-value : goal.returns-then-eq-clause-value
returns-then-eq-clause-value c =
    same_by_meaning (any_array_meaning c.args.self.now) (any_array_meaning c.args.other.now) _ (returns-then-eq-clause-rows c)

pub returns-else-eq-clause-rows : goal.returns-else-eq-clause-rows
returns-else-eq-clause-rows c =
    (λ e. cc c.if-eq.false, λ both. (types (goal.at.returns-else-eq-clause-rows c).After-eq).1 both.0)

pub returns-else-eq-clause-value : goal.returns-else-eq-clause-value
returns-else-eq-clause-value c =
    same_by_meaning (any_array_meaning c.args.self.now) (any_array_meaning c.args.other.now) _ (returns-else-eq-clause-rows c)
