use Rattle.arrow_flat_growable.proofs.Common.{◌++◌, refl, sym, subst, bits_of_slice, map-append, Fits, row_bytes, sliced, filled, slots_fit, slots_pass}
use Rattle.arrow_flat_growable.proofs.ResultLemmas.{on_both}
use Rattle.arrow_flat_growable.proofs.WaitingLemmas.{filled_counted}
use Rattle.arrow_flat_growable.proofs.growable.waiting.GrowableBytesGrowableValues.extend.Goals as goal

pub returns-clause-fits : goal.returns-clause-fits
returns-clause-fits g c =
    let slot = g.K.ByteKind.slot in
    let array = c.args.array.now in
    let rows = c.append.new.self.1 in
    λ t kind.
    on_both c.append.result c.append.ensures.ok c.append.ensures.few (λ is few. slots_fit slot g.met.K.GrowableKind.counts g.O.Offset.IS_LARGE t _ (g.met.K.GrowableKind.lies_as_bytes g.O.Offset.IS_LARGE) kind rows _ g.O.Index.greatest refl (filled_counted slot (bits_of_slice array.validity c.args.start c.args.len) c.args.self.now.1 (row_bytes array.values) rows c.args.start c.args.len is c.requires.within c.requires.room) few g.met.O.Offset.greatest_is)

pub returns-clause-overflow : goal.returns-clause-overflow
returns-clause-overflow g c =
    let slot = g.K.ByteKind.slot in
    let array = c.args.array.now in
    let more = filled (bits_of_slice array.validity c.args.start c.args.len) (sliced (row_bytes array.values) c.args.start c.args.len) in
    λ t kind over fits.
    let all = subst (Fits t) (sym (map-append slot c.args.self.now.1 more)) fits in
    slots_pass slot g.met.K.GrowableKind.counts g.O.Offset.IS_LARGE t _ (g.met.K.GrowableKind.lies_as_bytes g.O.Offset.IS_LARGE) kind (c.args.self.now.1 ++ more) g.O.Index.greatest (c.append.ensures.overflow over) g.met.O.Offset.greatest_is all
