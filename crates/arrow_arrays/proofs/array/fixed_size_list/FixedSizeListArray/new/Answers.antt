use Rattle.arrow_types.specs.TypeOf.{type_of}
use Rattle.arrow_arrays.specs.Any.{layout_of}
use Rattle.arrow_arrays.proofs.TypeLemmas.{fixed_holds}
use Rattle.arrow_arrays.proofs.array.fixed_size_list.FixedSizeListArray.new.Goals as goal

pub invariant_of-result : goal.invariant_of-result
invariant_of-result c =
    rw c.list_size.ensures (fixed_holds (type_of c.args.data_type) (layout_of c.args.values.value) c.args.validity c.requires)
