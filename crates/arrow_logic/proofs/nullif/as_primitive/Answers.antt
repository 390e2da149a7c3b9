use Rattle.arrow_logic.proofs.Common.{physical_type_of, any_array_type}
use Rattle.arrow_logic.proofs.LayoutLemmas.{is_primitive}
use Rattle.arrow_logic.proofs.nullif.as_primitive.Goals as goal

pub unreachable-requires : goal.unreachable-requires
unreachable-requires c =
    is_primitive c.args.array.now (physical_type_of (any_array_type c.args.array.now)) c.requires c.data_type.ensures.kind c.in_default.not-Primitive
