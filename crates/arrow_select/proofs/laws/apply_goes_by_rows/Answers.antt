use Rattle.arrow_select.proofs.Common.{Bool, List, ArrowType, select, Slot, any_array_meaning}
use Rattle.arrow_select.proofs.LawLemmas.{equal_inputs}
use Rattle.arrow_select.proofs.laws.apply_goes_by_rows.Goals as goal

pub returns : goal.returns
returns c =
    equal_inputs {A = List Bool × (ArrowType × List Slot)} (λ x. (x.1.0, select x.0 x.1.1)) (c.args.filter.now, any_array_meaning c.args.array.now) (c.args.other_filter.now, any_array_meaning c.args.other.now) (any_array_meaning c.args.kept.now) (any_array_meaning c.args.other_kept.now) (λ i. (c.requires.filters i, c.requires.same i)) c.requires.kept c.requires.other_kept
