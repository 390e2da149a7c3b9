use Rattle.std.proofs.Common.{length, take}
use Rattle.std.specs.List.{All}
use Rattle.arrow_types.specs.TypeOf.{type_of}
use Rattle.arrow_arrays.specs.Layout.{field_ids}
use Rattle.arrow_arrays.specs.TypeParts.{field_types}
use Rattle.arrow_arrays.specs.UnionParts.{IsKnown}
use Rattle.arrow_arrays.proofs.array.union.are_known.Given as goal

-- the ids so far are known
abbrev pub invariant-loop-id : goal.invariant-loop-id
invariant-loop-id l =
    All (IsKnown (field_ids (type_of l.data_type)) (length (field_types (type_of l.data_type)))) (take l.id-index l.types)
