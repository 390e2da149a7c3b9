use Rattle.arrow_flat_growable.proofs.Common.{arith, type_of}
use Rattle.arrow_flat_growable.proofs.NullLemmas.{more_nulls}
use Rattle.arrow_flat_growable.proofs.growable.null.GrowableNull.extend_nulls.Goals as goal

pub returns-clause-ok : goal.returns-clause-ok
returns-clause-ok c =
    rw (← c.self.view_is) (more_nulls (type_of c.self.inside.data_type) c.self.inside.len c.args.additional c.in-Some.total c.self.inside.has_failed (omega (arith, c.in-Some.ensures)) c.if-self.false)
