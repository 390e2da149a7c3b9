use Rattle.std.proofs.Common.{Some, map, ap}
use Rattle.arrow_types.specs.TypeOf.{type_of}
use Rattle.arrow_arrays.proofs.NullLemmas.{flat_rows_null, length-slots}
use Rattle.arrow_arrays.proofs.ShapeLemmas.{shape_of}
use Rattle.arrow_new.proofs.new.flat.null_values.Goals as goal

pub returns-clause-rows : goal.returns-clause-rows
returns-clause-rows g c =
    let zeros = c.in_ok-values.ensures.ok in
    rw c.in-Ok.ensures.ok (flat_rows_null (type_of c.args.data_type) _ (map g.T.NativeType.slot c.in_ok-values.values) c.args.length (ap shape_of c.requires.1) (ap Some c.in_ok-validity.ensures.ok) (length-slots g.T.NativeType.slot c.in_ok-values.values c.args.length g.T.NativeType.zero zeros))
