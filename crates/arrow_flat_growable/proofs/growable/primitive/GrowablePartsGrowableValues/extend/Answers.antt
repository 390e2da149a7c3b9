use Rattle.arrow_flat_growable.proofs.Common.{[], arith, length, map, slice_index_or, refl, ap, length-map, sliced, length-sliced}
use Rattle.arrow_flat_growable.proofs.FitsLemmas.{is_only_counted}
use Rattle.arrow_flat_growable.proofs.ResultLemmas.{on_ok}
use Rattle.arrow_flat_growable.proofs.StoreLemmas.{part_fits, slots_part}
use Rattle.arrow_flat_growable.proofs.growable.primitive.GrowablePartsGrowableValues.extend.Goals as goal

pub append_part-requires-clause-part : goal.append_part-requires-clause-part
append_part-requires-clause-part g c =
    omega (arith, c.requires.within, length-map c.args._array.now.values g.T.NativeType.slot, ap length c.requires.bound.1)

pub returns-clause-ok : goal.returns-clause-ok
returns-clause-ok g c =
    on_ok c.append_part.result c.append_part.ensures.ok (λ is. slots_part g.T.NativeType.slot c.args.self.now.1 c.args.self.now.1 c.args._array.now.values (slice_index_or c.args.self.now.0 c.args.index []) c.append_part.new.self.1 c.args.start c.args.len refl c.requires.bound.1 is)

pub returns-clause-fits : goal.returns-clause-fits
returns-clause-fits g c =
    let slots = map g.T.NativeType.slot c.args._array.now.values in
    λ t kind. on_ok c.append_part.result (returns-clause-ok g c) (λ is. part_fits t (ap is_only_counted kind) (map g.T.NativeType.slot c.args.self.now.1) (sliced slots c.args.start c.args.len) _ c.args.len is (length-sliced slots c.args.start c.args.len c.requires.within) c.requires.room)
