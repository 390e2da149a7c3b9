use Rattle.std.proofs.Common.{map, take}
use Rattle.std.specs.List.{All, zip}
use Rattle.arrow_types.specs.TypeOf.{type_of}
use Rattle.arrow_arrays.specs.Any.{layout_of}
use Rattle.arrow_arrays.specs.Layout.{field_ids}
use Rattle.arrow_arrays.specs.UnionParts.{IsInside}
use Rattle.arrow_arrays.proofs.array.union.are_inside.Given as goal

-- the offsets so far lie inside
abbrev pub invariant-loop-i : goal.invariant-loop-i
invariant-loop-i l =
    All (λ row. IsInside (field_ids (type_of l.data_type)) (map layout_of l.fields) row.0 row.1) (take l.i (zip l.types l.offsets))
