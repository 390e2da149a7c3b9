use Rattle.std.proofs.Common.{arith}
use Rattle.arrow_arrays.proofs.TypeLemmas.{types_agree, types_differ, refuted}
use Rattle.arrow_arrays.proofs.array.list.check_list.Goals as goal

pub returns-then-ne-clause-fault : goal.returns-then-ne-clause-fault
returns-then-ne-clause-fault c =
    (c.is_carried_as.ensures.0 c.if-not-is_carried_as.false, types_differ _ _ _ _ c.ne.result c.ne.ensures c.data_type.ensures.same c.item_type.ensures c.if-ne.true)

pub returns-then-not-fits_rows-clause-fault : goal.returns-then-not-fits_rows-clause-fault
returns-then-not-fits_rows-clause-fault c =
    (c.is_carried_as.ensures.0 c.if-not-is_carried_as.false, types_agree _ _ _ _ c.ne.result c.ne.ensures c.data_type.ensures.same c.item_type.ensures c.if-ne.false, refuted c.fits_rows.result c.fits_rows.ensures c.if-not-fits_rows.true)

pub returns-then-end-len-clause-fault : goal.returns-then-end-len-clause-fault
returns-then-end-len-clause-fault c =
    (c.is_carried_as.ensures.0 c.if-not-is_carried_as.false, types_agree _ _ _ _ c.ne.result c.ne.ensures c.data_type.ensures.same c.item_type.ensures c.if-ne.false, c.fits_rows.ensures.0 c.if-not-fits_rows.false, λ held. omega (arith, held, c.if-end-len.true, c.len.ensures))

pub returns-clause-ok : goal.returns-clause-ok
returns-clause-ok c =
    (c.is_carried_as.ensures.0 c.if-not-is_carried_as.false, types_agree _ _ _ _ c.ne.result c.ne.ensures c.data_type.ensures.same c.item_type.ensures c.if-ne.false, c.fits_rows.ensures.0 c.if-not-fits_rows.false, omega (arith, c.if-end-len.false, c.len.ensures))
