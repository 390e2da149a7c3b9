use Rattle.std.proofs.Common.{ap, refl}
use Rattle.arrow_types.specs.TypeOf.{type_of}
use Rattle.arrow_arrays.proofs.NullLemmas.{slots_null}
use Rattle.arrow_arrays.proofs.ShapeLemmas.{shape_of}
use Rattle.arrow_new.proofs.new.flat.nulls.Goals as goal

pub returns : goal.returns
returns c =
    rw c.in-Ok.ensures.ok (refl, slots_null (type_of c.args.data_type) c.args.length (ap shape_of c.requires.1))
