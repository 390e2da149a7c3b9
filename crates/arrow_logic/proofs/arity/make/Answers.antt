use Rattle.arrow_logic.proofs.Common.{ap, length, subst, sym, type_of, carried_as_element, FitsRows}
use Rattle.arrow_logic.proofs.arity.make.Goals as goal

pub new-requires-clause-kind : goal.new-requires-clause-kind
new-requires-clause-kind g c =
    (carried_as_element g.O.NativeType.PRIMITIVE (type_of c.args.data_type) g.O.NativeType.carried c.requires.layout, c.requires.layout)

pub new-requires-clause-length : goal.new-requires-clause-length
new-requires-clause-length g c =
    subst (λ n. FitsRows c.args.validity n) (sym (ap length c.in_ok-values.ensures.ok)) c.requires.fits
