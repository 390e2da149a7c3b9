use Rattle.std.proofs.Common.{arith}
use Rattle.arrow_types.specs.TypeOf.{type_of}
use Rattle.arrow_arrays.proofs.TypeLemmas.{types_agree, types_differ, refuted, some_items}
use Rattle.arrow_arrays.proofs.array.fixed_size_list.check_fixed.Goals as goal

pub returns-then-ne-clause-fault : goal.returns-then-ne-clause-fault
returns-then-ne-clause-fault c =
    (c.is_carried_as.ensures.0 c.if-not-is_carried_as.false, types_differ _ _ _ _ c.ne.result c.ne.ensures c.data_type.ensures.same c.item_type.ensures c.if-ne.true)

pub fits_items-requires : goal.fits_items-requires
fits_items-requires c =
    let carried = c.is_carried_as.ensures.0 c.if-not-is_carried_as.false in
    rw c.list_size.ensures (some_items (type_of c.args.data_type.now) carried.0 carried.1)

pub returns-then-not-fits_items-clause-fault : goal.returns-then-not-fits_items-clause-fault
returns-then-not-fits_items-clause-fault c =
    let told = rw (c.len.ensures, c.list_size.ensures) at c.fits_items.ensures in
    (c.is_carried_as.ensures.0 c.if-not-is_carried_as.false, types_agree _ _ _ _ c.ne.result c.ne.ensures c.data_type.ensures.same c.item_type.ensures c.if-ne.false, refuted c.fits_items.result told c.if-not-fits_items.true)

pub returns-clause-ok : goal.returns-clause-ok
returns-clause-ok c =
    let told = rw (c.len.ensures, c.list_size.ensures) at c.fits_items.ensures in
    (c.is_carried_as.ensures.0 c.if-not-is_carried_as.false, types_agree _ _ _ _ c.ne.result c.ne.ensures c.data_type.ensures.same c.item_type.ensures c.if-ne.false, told.0 c.if-not-fits_items.false, omega (arith, c.len.ensures, c.len.type_inv))
