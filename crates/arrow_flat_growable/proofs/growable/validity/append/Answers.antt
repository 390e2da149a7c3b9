use Rattle.arrow_flat_growable.proofs.ResultLemmas.{on_ok}
use Rattle.arrow_flat_growable.proofs.ValidityLemmas.{set_appended, set_overflows}
use Rattle.arrow_flat_growable.proofs.growable.validity.append.Goals as goal

pub returns-in-None-clause-ok : goal.returns-in-None-clause-ok
returns-in-None-clause-ok c =
    rw c.in-None.is (on_ok c.append_set.result c.append_set.ensures.ok (λ is. set_appended c.args.bits.now c.append_set.new.bits c.args.rows c.args.len is c.requires.counted))

pub returns-in-None-clause-overflow : goal.returns-in-None-clause-overflow
returns-in-None-clause-overflow c overflows =
    set_overflows c.args.bits.now c.args.rows c.args.len c.requires.counted (c.append_set.ensures.overflow overflows)
