-- The type of a child is less deep than that of the array that holds it.
use Rattle.std.specs.Prelude.{◌<◌, ◌≤◌, ℕ, zero, suc, List, [], ◌∷◌, length, map, slice_index_or}
use Rattle.std.proofs.Common.{arith}
use Rattle.arrow_types.specs.ArrowType.{ArrowType, ArrowFields, plain, list, struct, union, dictionary, extension, null, field, no_fields, more_fields, type_in, from_fields}
use Rattle.arrow_arrays.specs.TypeDepth.{type_depth, fields_depth, deepest}
use Rattle.arrow_arrays.specs.TypeParts.{field_types}
use Rattle.arrow_growable.specs.Form.{child_type, child_types}

deepest_field : (fs : ArrowFields) → deepest (map type_in (from_fields fs)) ≤ fields_depth fs
deepest_field no_fields = omega arith
deepest_field (more_fields (field name t nullable) fs) = omega (arith, deepest_field fs)

-- all children of a type are
pub deepest_child : (t : ArrowType) → deepest (child_types t) ≤ type_depth t
deepest_child (plain p) = omega arith
deepest_child (list form (field name t nullable)) = omega arith
deepest_child (struct fs) = deepest_field fs
deepest_child (union mode ids fs) = omega arith
deepest_child (dictionary keys ordered t) = omega arith
deepest_child (extension name metadata t) = deepest_child t

-- and those of all fields
pub deepest_of_fields : (t : ArrowType) → deepest (field_types t) ≤ type_depth t
deepest_of_fields (plain p) = omega arith
deepest_of_fields (list form (field name t nullable)) = omega arith
deepest_of_fields (struct fs) = deepest_field fs
deepest_of_fields (union mode ids fs) = deepest_field fs
deepest_of_fields (dictionary keys ordered t) = omega arith
deepest_of_fields (extension name metadata t) = deepest_of_fields t

below_deepest : (ts : List ArrowType) (f : ℕ) (d : ArrowType) → f < length ts → type_depth (slice_index_or ts f d) < deepest ts
below_deepest [] f d within = absurd (omega (arith, within))
below_deepest (t ∷ ts) zero d within = omega arith
below_deepest (t ∷ ts) (suc f) d within = omega (arith, below_deepest ts f d (omega (arith, within)))

-- and each is
pub child_less_deep : (t : ArrowType) (f : ℕ) → f < length (child_types t) → type_depth (child_type t f) < type_depth t
child_less_deep t f within =
    omega (arith, deepest_child t, below_deepest (child_types t) f (plain null) within)
