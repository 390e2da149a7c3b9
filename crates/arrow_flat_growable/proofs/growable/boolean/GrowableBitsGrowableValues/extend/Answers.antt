use Rattle.arrow_flat_growable.proofs.Common.{◌+◌, ◌≤◌, length, ap, arith, length-map, Boolean, sliced, length-sliced}
use Rattle.arrow_flat_growable.proofs.FitsLemmas.{is_only_counted}
use Rattle.arrow_flat_growable.proofs.ResultLemmas.{on_ok}
use Rattle.arrow_flat_growable.proofs.StoreLemmas.{slots_part, slots_fit, part_too_many, counted_on_ok}
use Rattle.arrow_flat_growable.proofs.growable.boolean.GrowableBitsGrowableValues.extend.Goals as goal

pub returns-clause-ok : goal.returns-clause-ok
returns-clause-ok c =
    on_ok c.extend_from_bitmap.result c.extend_from_bitmap.ensures.ok (λ is. slots_part Boolean c.args.self.now c.self.inside.bits c.args.array.now.values c.values.result.now c.extend_from_bitmap.new.self c.args.start c.args.len c.self.view_is c.values.ensures is)

within : (c : goal.After-extend_from_bitmap) → c.args.start + c.args.len ≤ length c.values.result.now
within c = omega (arith, c.requires.within, length-map c.args.array.now.values Boolean, ap length c.values.ensures)

pub returns-clause-fits : goal.returns-clause-fits
returns-clause-fits c =
    λ t kind. on_ok c.extend_from_bitmap.result (counted_on_ok c.extend_from_bitmap.result _ c.self.inside.bits (sliced c.values.result.now c.args.start c.args.len) c.extend_from_bitmap.new.self c.args.len (length-sliced c.values.result.now c.args.start c.args.len (within c)) c.extend_from_bitmap.ensures.overflow.1 c.extend_from_bitmap.ensures.ok) (slots_fit Boolean t c.extend_from_bitmap.new.self (ap is_only_counted kind))

pub returns-clause-overflow : goal.returns-clause-overflow
returns-clause-overflow c =
    λ t kind is fits. part_too_many Boolean t c.args.self.now c.self.inside.bits c.args.array.now.values c.args.start c.args.len c.self.view_is c.requires.within (c.extend_from_bitmap.ensures.overflow.0 is) fits
