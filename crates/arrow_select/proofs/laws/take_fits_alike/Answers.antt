use Rattle.arrow_select.proofs.Common.{List, map, ArrowType, gather, Slot, rows_by, any_array_meaning}
use Rattle.arrow_select.proofs.LawLemmas.{fits_alike}
use Rattle.arrow_select.proofs.laws.take_fits_alike.Goals as goal

pub returns : goal.returns
returns g c =
    fits_alike {A = List Slot × (ArrowType × List Slot)} (λ x. (x.1.0, gather x.1.1 x.0 x.1.0)) (rows_by (map g.I.NativeType.slot) c.args.indices.now, any_array_meaning c.args.array.now) (rows_by (map g.J.NativeType.slot) c.args.other_indices.now, any_array_meaning c.args.other.now) (any_array_meaning c.args.taken.now) (λ i. (c.requires.indices i, c.requires.same i)) c.requires.taken c.requires.fits
