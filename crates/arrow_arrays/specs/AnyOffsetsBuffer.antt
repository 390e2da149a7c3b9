-- Offsets of either width as contracts see them.
use Rattle.std.specs.Prelude.{ℕ, List}
use Rattle.arrow_types.specs.declared.datatypes.physical_type.PhysicalType.{PhysicalType}
use Rattle.arrow_types.specs.declared.datatypes.physical_type.PhysicalType.TheVariants as physical
use Rattle.arrow_arrays.specs.declared.array.list.AnyOffsetsBuffer.{AnyOffsetsBuffer}
use Rattle.arrow_arrays.specs.declared.array.list.AnyOffsetsBuffer.TheVariants.{Small, Large}

abbrev pub offsets_of : AnyOffsetsBuffer → List ℕ
offsets_of (Small offsets) = offsets
offsets_of (Large offsets) = offsets

-- the lists that have offsets of this width
abbrev pub lists_of : AnyOffsetsBuffer → PhysicalType
lists_of (Small offsets) = physical.List
lists_of (Large offsets) = physical.LargeList
