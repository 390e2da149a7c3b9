use Rattle.arrow_flat_growable.proofs.Common.{◌++◌, refl, sym, subst, length, map-append, Fits, row_bytes, sliced, filled, slots_fit, slots_pass}
use Rattle.arrow_flat_growable.proofs.ResultLemmas.{on_both}
use Rattle.arrow_flat_growable.proofs.WaitingLemmas.{filled_counted}
use Rattle.arrow_flat_growable.proofs.growable.waiting.GrowableBytesGrowableValues.extend_under.Goals as goal

pub returns-clause-fits : goal.returns-clause-fits
returns-clause-fits g c =
    let slot = g.K.ByteKind.slot in
    let array = c.args.array.now in
    let rows = c.append_under.new.self.1 in
    λ t kind.
    on_both c.append_under.result c.append_under.ensures.ok c.append_under.ensures.few (λ is few. slots_fit slot g.met.K.GrowableKind.counts g.O.Offset.IS_LARGE t _ (g.met.K.GrowableKind.lies_as_bytes g.O.Offset.IS_LARGE) kind rows _ g.O.Index.greatest refl (filled_counted slot (c.args.bits.now) c.args.self.now.1 (row_bytes array.values) rows c.args.start (length c.args.bits.now) is c.requires.within c.requires.room) few g.met.O.Offset.greatest_is)

pub returns-clause-overflow : goal.returns-clause-overflow
returns-clause-overflow g c =
    let slot = g.K.ByteKind.slot in
    let array = c.args.array.now in
    let more = filled (c.args.bits.now) (sliced (row_bytes array.values) c.args.start (length c.args.bits.now)) in
    λ t kind over fits.
    let all = subst (Fits t) (sym (map-append slot c.args.self.now.1 more)) fits in
    slots_pass slot g.met.K.GrowableKind.counts g.O.Offset.IS_LARGE t _ (g.met.K.GrowableKind.lies_as_bytes g.O.Offset.IS_LARGE) kind (c.args.self.now.1 ++ more) g.O.Index.greatest (c.append_under.ensures.overflow over) g.met.O.Offset.greatest_is all
