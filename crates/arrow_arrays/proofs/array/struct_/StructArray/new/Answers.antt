use Rattle.std.proofs.Common.{map}
use Rattle.arrow_types.specs.TypeOf.{type_of}
use Rattle.arrow_arrays.specs.Any.{layout_of}
use Rattle.arrow_arrays.proofs.TypeLemmas.{struct_holds}
use Rattle.arrow_arrays.proofs.array.struct_.StructArray.new.Goals as goal

pub invariant_of-result : goal.invariant_of-result
invariant_of-result c =
    struct_holds (type_of c.args.data_type) (map layout_of c.args.values.items) c.args.validity c.requires
