use Rattle.arrow_logic.proofs.Common.{refl, type_of, types_decide}
use Rattle.arrow_logic.proofs.nullif.can_nullif.Goals as goal

pub returns-then-eq : goal.returns-then-eq
returns-then-eq c =
    let types = types_decide _ _ (type_of c.args.lhs.now) (type_of c.args.rhs.now) c.eq.result c.eq.ensures refl refl in
    let offered = rw c.to_physical_type.ensures at c.has_equality.ensures in
    (λ yes. (types.0 c.if-eq.true, (offered.0 yes).0, (offered.0 yes).1), λ can. offered.1 (can.1, can.2))

pub returns-else-eq : goal.returns-else-eq
returns-else-eq c =
    let types = types_decide _ _ (type_of c.args.lhs.now) (type_of c.args.rhs.now) c.eq.result c.eq.ensures refl refl in
    (λ yes. cc c.if-eq.false, λ can. types.1 can.0)
