use Rattle.std.proofs.Common.{◌∙◌, Some, false, map, ap, refl}
use Rattle.arrow_types.specs.Slot.{Boolean}
use Rattle.arrow_types.specs.TypeOf.{type_of}
use Rattle.arrow_arrays.proofs.NullLemmas.{flat_rows_null, length-slots}
use Rattle.arrow_arrays.proofs.ShapeLemmas.{shape_of}
use Rattle.arrow_new.proofs.new.flat.null_booleans.Goals as goal

pub returns-clause-ok : goal.returns-clause-ok
returns-clause-ok c =
    let zeros = c.in_ok-values.ensures.ok in
    let unset = ap Some (c.in_ok-validity.ensures.cases ∙ zeros) in
    rw c.in-Ok.ensures.ok (refl, flat_rows_null (type_of c.args.data_type) _ (map Boolean c.in_ok-values.values) c.args.length (ap shape_of c.requires.1) unset (length-slots Boolean c.in_ok-values.values c.args.length false zeros))
