use Rattle.std.proofs.Common.{◌↔◌, IsTrue, sym, map, subst}
use Rattle.arrow_types.specs.TypeOf.{type_of}
use Rattle.arrow_arrays.specs.Any.{layout_of}
use Rattle.arrow_arrays.specs.Layout.{field_ids}
use Rattle.arrow_arrays.specs.UnionParts.{FitsOffsets}
use Rattle.arrow_arrays.proofs.array.union.fits_offsets.Goals as goal

pub returns-in-Some : goal.returns-in-Some
returns-in-Some c =
    subst (λ offsets. IsTrue c.are_inside.result ↔ FitsOffsets (field_ids (type_of c.args.data_type.now)) (map layout_of c.args.fields.now) c.args.types.now offsets) (sym c.in-Some.is) c.are_inside.ensures
