use Rattle.arrow_take.proofs.Common.{ap, sym, ◌∙◌, Number, key_in, not_negative}
use Rattle.arrow_take.proofs.IndexLemmas.{null_at, number_at}
use Rattle.arrow_take.proofs.take.indices.index_at.Goals as goal

pub to_usize-requires : goal.to_usize-requires
to_usize-requires g c =
    not_negative _ _ c.requires.key (number_at g.I.NativeType.slot g.I.NativeOrd.number g.met.I.NativeOrd.slot_is_number _ c.args.stored.now c.args.row c.requires.fits c.requires.within c.index-stored-row.result c.if-is_valid.ensures c.index-stored-row.is)

pub returns-then-is_valid : goal.returns-then-is_valid
returns-then-is_valid g c =
    sym (ap key_in (number_at g.I.NativeType.slot g.I.NativeOrd.number g.met.I.NativeOrd.slot_is_number _ c.args.stored.now c.args.row c.requires.fits c.requires.within c.index-stored-row.result c.if-is_valid.ensures c.index-stored-row.is ∙ ap Number (sym c.to_usize.ensures.value)))

pub returns-else-is_valid : goal.returns-else-is_valid
returns-else-is_valid g c =
    sym (ap key_in (null_at g.I.NativeType.slot g.I.NativeOrd.number g.met.I.NativeOrd.slot_is_number _ c.args.stored.now c.args.row c.requires.fits c.requires.within c.if-is_valid.ensures))
