pub mod Typed
pub use Rattle.arrow_types.specs.declared.datatypes as DataTypes
pub use Rattle.arrow_types.specs.declared.error as Errors
pub use Rattle.arrow_types.specs.declared.types as ElementTypes
pub use Rattle.arrow_types.specs.ArrowType
pub use Rattle.arrow_types.specs.Carried
pub use Rattle.arrow_types.specs.Fits
pub use Rattle.arrow_types.specs.Greatest
pub use Rattle.arrow_types.specs.Logic
pub use Rattle.arrow_types.specs.Part
pub use Rattle.arrow_types.specs.Physical
pub use Rattle.arrow_types.specs.Ranges
pub use Rattle.arrow_types.specs.Relation
pub use Rattle.arrow_types.specs.Rows
pub use Rattle.arrow_types.specs.Slot
pub use Rattle.arrow_types.specs.TypeOf
pub use Rattle.arrow_types.specs.Wide
pub use Rattle.arrow_memory.specs.Bits
pub use Rattle.arrow_memory.specs.Grown as Growth
pub use Rattle.arrow_memory.specs.Offsets
pub use Rattle.arrow_memory.specs.Sliced
pub use Rattle.arrow_memory.specs.Words
pub use Rattle.arrow_flat.specs.AnyPrimitive
pub use Rattle.arrow_flat.specs.AnyPrimitiveScalar
pub use Rattle.arrow_flat.specs.AnyScalar
pub use Rattle.arrow_flat.specs.ByteRows
pub use Rattle.arrow_flat.specs.DictionaryScalar
pub use Rattle.arrow_flat.specs.Faults
pub use Rattle.arrow_flat.specs.FixedRows
pub use Rattle.arrow_flat.specs.NullParts
pub use Rattle.arrow_flat.specs.Parts
pub use Rattle.arrow_flat.specs.Pieces
pub use Rattle.arrow_flat.specs.RowByRow
pub use Rattle.arrow_flat.specs.Scalars
pub use Rattle.arrow_arrays.specs.declared.array.any as AnyArrays
pub use Rattle.arrow_arrays.specs.Any
pub use Rattle.arrow_arrays.specs.AnyKeys
pub use Rattle.arrow_arrays.specs.AnyOffsetsBuffer
pub use Rattle.arrow_arrays.specs.Crowded
pub use Rattle.arrow_arrays.specs.Faults as NestedFaults
pub use Rattle.arrow_arrays.specs.FixedListParts
pub use Rattle.arrow_arrays.specs.KeyedParts
pub use Rattle.arrow_arrays.specs.Layout
pub use Rattle.arrow_arrays.specs.ListParts
pub use Rattle.arrow_arrays.specs.Nulls
pub use Rattle.arrow_arrays.specs.SliceOf
pub use Rattle.arrow_arrays.specs.StructParts
pub use Rattle.arrow_arrays.specs.TypeParts
pub use Rattle.arrow_arrays.specs.UnionParts
pub use Rattle.arrow_flat_growable.specs.Flat
pub use Rattle.arrow_flat_growable.specs.Grown
pub use Rattle.arrow_growable.specs.AnyGrowable
pub use Rattle.arrow_growable.specs.Bound
pub use Rattle.arrow_growable.specs.Dictionary
pub use Rattle.arrow_growable.specs.GrownUnion
pub use Rattle.arrow_growable.specs.Join
pub use Rattle.arrow_growable.specs.Nested
pub use Rattle.arrow_take.specs.Answers
pub use Rattle.arrow_select.specs.Arrays
pub use Rattle.arrow_choice.specs.Choice
pub use Rattle.arrow_select.specs.Extended
pub use Rattle.arrow_choice.specs.Keys
pub use Rattle.arrow_choice.specs.Refusals as ChoiceRefusals
pub use Rattle.arrow_choice.specs.Sides
pub use Rattle.arrow_select.specs.Laws
pub use Rattle.arrow_select.specs.Refusals
pub use Rattle.arrow_select.specs.Selected
pub use Rattle.arrow_take.specs.Taken
pub use Rattle.arrow_logic.specs.Answers as Closures
pub use Rattle.arrow_logic.specs.Length
pub use Rattle.arrow_logic.specs.Nullif
pub use Rattle.arrow_logic.specs.Substring
pub use Rattle.arrow_flat.specs.Truths
pub use Rattle.arrow_flat.specs.Validities
pub use Rattle.arrow_relate.specs.Finished
pub use Rattle.arrow_relate.specs.Same
pub use Rattle.arrow_compare.specs.Can
pub use Rattle.arrow_compare.specs.Compared
