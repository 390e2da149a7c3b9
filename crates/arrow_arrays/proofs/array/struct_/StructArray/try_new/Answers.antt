use Rattle.arrow_types.specs.TypeOf.{type_of}
use Rattle.std.proofs.Common.{map}
use Rattle.arrow_arrays.specs.Any.{layout_of}
use Rattle.arrow_arrays.proofs.TypeLemmas.{struct_holds}
use Rattle.arrow_arrays.proofs.array.struct_.StructArray.try_new.Goals as goal

pub new-requires : goal.new-requires
new-requires c = rw c.deref.ensures.value at c.in_ok-check_struct.ensures.ok

pub returns-clause-sound : goal.returns-clause-sound
returns-clause-sound c =
    let holds = rw c.deref.ensures.value at c.in_ok-check_struct.ensures.ok in
    struct_holds (type_of c.args.data_type) (map layout_of c.args.values.items) c.args.validity holds
