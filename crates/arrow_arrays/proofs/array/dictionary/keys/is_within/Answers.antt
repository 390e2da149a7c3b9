use Rattle.std.proofs.Common.{rules}
use Rattle.arrow_arrays.proofs.KeyLemmas.{key_within, null_row, number_row, key_in_range}
use Rattle.arrow_arrays.proofs.array.dictionary.keys.is_within.Goals as goal

pub value-requires : goal.value-requires
value-requires g c =
    key_within g.I.NativeType.slot c.args.indices.now.validity c.args.indices.now.values c.args.i c.validity.ensures.fits c.requires

pub returns-then-not-is_valid : goal.returns-then-not-is_valid
returns-then-not-is_valid g c =
    let null = null_row c.args.indices.now.validity _ c.args.i c.validity.ensures.fits c.requires c.if-not-is_valid.ensures.bit in
    rw (null, c.if-not-is_valid.true) (λ _. tt, λ _. search rules)

pub returns-else-not-is_valid : goal.returns-else-not-is_valid
returns-else-not-is_valid g c =
    let row = number_row g.I.NativeType.slot g.I.NativeOrd.number g.met.I.NativeOrd.slot_is_number c.args.indices.now.validity c.args.indices.now.values c.args.i c.value.result c.validity.ensures.fits c.requires c.if-not-is_valid.ensures.bit c.value.ensures in
    key_in_range c.args.len _ _ c.in_range.result row c.in_range.ensures
