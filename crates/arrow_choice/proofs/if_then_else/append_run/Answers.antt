use Rattle.arrow_choice.proofs.if_then_else.append_run.Goals as goal

pub returns-in-None-clause-overflow : goal.returns-in-None-clause-overflow
returns-in-None-clause-overflow g c overflows =
    rw c.in-None.is (c.extend_validity.ensures.overflow overflows)
