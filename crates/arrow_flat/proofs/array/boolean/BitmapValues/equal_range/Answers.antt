use Rattle.arrow_types.specs.Slot.{Boolean}
use Rattle.arrow_flat.proofs.StoredLemmas.{truth_values_same, sliced-decides}
use Rattle.arrow_flat.proofs.array.boolean.BitmapValues.equal_range.Goals as goal

pub returns : goal.returns
returns c =
    sliced-decides Boolean truth_values_same c.args.self.now c.args.other.now c.args.start c.args.other_start c.args.len c.equal_range.result c.equal_range.ensures
