use Rattle.std.proofs.Common.{ap, sym, ◌∙◌}
use Rattle.arrow_types.specs.Slot.{Number}
use Rattle.arrow_arrays.specs.KeyedParts.{key_in}
use Rattle.arrow_arrays.proofs.KeyLemmas.{key_within, null_row, number_row, not_negative}
use Rattle.arrow_arrays.proofs.array.dictionary.keys.key_at.Goals as goal

pub value-requires : goal.value-requires
value-requires g c =
    key_within g.K.NativeType.slot c.args.keys.now.validity c.args.keys.now.values c.args.i c.validity.ensures.fits c.requires.within

pub to_usize-requires : goal.to_usize-requires
to_usize-requires g c =
    let row = number_row g.K.NativeType.slot g.K.NativeOrd.number g.met.K.NativeOrd.slot_is_number c.args.keys.now.validity c.args.keys.now.values c.args.i c.value.result c.validity.ensures.fits c.requires.within c.if-is_valid.ensures.bit c.value.ensures in
    not_negative _ _ c.requires.not_negative row

pub returns-then-is_valid : goal.returns-then-is_valid
returns-then-is_valid g c =
    let row = number_row g.K.NativeType.slot g.K.NativeOrd.number g.met.K.NativeOrd.slot_is_number c.args.keys.now.validity c.args.keys.now.values c.args.i c.value.result c.validity.ensures.fits c.requires.within c.if-is_valid.ensures.bit c.value.ensures in
    sym (ap key_in (row ∙ ap Number (sym c.to_usize.ensures.value)))

pub returns-else-is_valid : goal.returns-else-is_valid
returns-else-is_valid g c =
    sym (ap key_in (null_row c.args.keys.now.validity _ c.args.i c.validity.ensures.fits c.requires.within c.if-is_valid.ensures.bit))
