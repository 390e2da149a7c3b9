use Rattle.std.proofs.Common.{◌≡◌, map, take}
use Rattle.arrow_types.specs.ArrowType.{type_in}
use Rattle.arrow_types.specs.TypeOf.{field_of}
use Rattle.arrow_arrays.specs.Any.{any_array_type}
use Rattle.arrow_arrays.proofs.array.types.have_types.Given as goal

-- the types so far are the same
abbrev pub invariant-loop-i : goal.invariant-loop-i
invariant-loop-i l =
    take l.i (map any_array_type l.values) ≡ take l.i (map (λ field. type_in (field_of field)) l.fields)
