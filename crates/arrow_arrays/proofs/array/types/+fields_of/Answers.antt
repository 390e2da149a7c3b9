use Rattle.std.proofs.Common.{ap, map, ◌∙◌}
use Rattle.arrow_types.specs.ArrowType.{type_in}
use Rattle.arrow_types.specs.TypeOf.{field_of}
use Rattle.arrow_arrays.proofs.TypeLemmas.{types_listed}
use Rattle.arrow_arrays.proofs.array.types.+fields_of.Goals as goal

pub returns-in-Struct : goal.returns-in-Struct
returns-in-Struct t c =
    ap (map (λ field. type_in (field_of field))) c.deref-in-Struct.ensures.value ∙ types_listed c.args.data_type.now c.in-Struct.fields c.in-Struct.is
