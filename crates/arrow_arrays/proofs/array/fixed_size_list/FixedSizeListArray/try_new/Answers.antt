use Rattle.arrow_types.specs.TypeOf.{type_of}
use Rattle.arrow_arrays.specs.Any.{layout_of}
use Rattle.arrow_arrays.proofs.TypeLemmas.{fixed_holds}
use Rattle.arrow_arrays.proofs.array.fixed_size_list.FixedSizeListArray.try_new.Goals as goal

pub new-requires : goal.new-requires
new-requires c = rw c.deref.ensures at c.in_ok-check_fixed.ensures.ok

pub returns-clause-sound : goal.returns-clause-sound
returns-clause-sound c =
    let holds = rw c.deref.ensures at c.in_ok-check_fixed.ensures.ok in
    fixed_holds (type_of c.args.data_type) (layout_of c.args.values.value) c.args.validity holds
