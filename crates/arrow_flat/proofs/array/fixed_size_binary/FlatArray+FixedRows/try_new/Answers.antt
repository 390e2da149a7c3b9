use Rattle.std.proofs.Common.{refl}
use Rattle.arrow_types.specs.TypeOf.{type_of}
use Rattle.arrow_flat.proofs.FixedLemmas.{some_bytes}
use Rattle.arrow_flat.proofs.array.fixed_size_binary.FlatArray+FixedRows.try_new.Goals as goal

pub nonzero_rem-len : goal.nonzero_rem-len
nonzero_rem-len c =
    let kind = c.if-not-is_carried_as.ensures.0 refl in
    rw c.fixed_size-size.ensures (some_bytes (type_of c.args.data_type) kind.0 kind.1)

pub nonzero_div-len : goal.nonzero_div-len
nonzero_div-len c =
    let kind = c.if-not-is_carried_as.ensures.0 refl in
    rw c.fixed_size-size.ensures (some_bytes (type_of c.args.data_type) kind.0 kind.1)
