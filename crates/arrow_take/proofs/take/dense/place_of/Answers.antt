use Rattle.arrow_take.proofs.Common.{arith}
use Rattle.arrow_take.proofs.TakenPlaces.{field_named}
use Rattle.arrow_take.proofs.take.dense.place_of.Goals as goal

pub unreachable-requires : goal.unreachable-requires
unreachable-requires g c =
    let few = field_named g.I.Index.greatest c.args.values.now.children c.requires.named c.index.result.0 c.index.ensures.field.0 in
    cc (c.in-None-from_usize.ensures.fits.1 (omega (arith, few, c.index.ensures.within)))
