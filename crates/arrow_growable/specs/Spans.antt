-- Where the rows of an array lie in its children, as contracts see it.
use Rattle.std.specs.Prelude.{ℕ, ◌-◌, ◌*◌, ◌/◌, ◌<◌, List, [], length, slice_index}
use Rattle.arrow_types.specs.declared.datatypes.physical_type.PhysicalType.{PhysicalType}
use Rattle.arrow_types.specs.declared.datatypes.physical_type.PhysicalType.TheVariants as physical
use Rattle.arrow_memory.specs.Offsets.{IsOffsets}
use Rattle.arrow_growable.specs.Form.{Form, by_offsets, by_size, by_fields, null_slots_by}
use Rattle.arrow_growable.specs.declared.growable.spans.Spans.{Spans}
use Rattle.arrow_growable.specs.declared.growable.spans.Spans.TheVariants.{Small, Large, Map, FixedSize, Fields}

-- how they lie
abbrev pub span_form : Spans → Form
span_form (Small offsets) = by_offsets offsets.now
span_form (Large offsets) = by_offsets offsets.now
span_form (Map offsets) = by_offsets offsets.now
span_form (FixedSize size items) = by_size size
span_form (Fields rows) = by_fields

-- the offsets of lists and maps ("Variable-size List Layout")
abbrev pub span_offsets : Spans → List ℕ
span_offsets (Small offsets) = offsets.now
span_offsets (Large offsets) = offsets.now
span_offsets (Map offsets) = offsets.now
span_offsets _ = []

-- the arrays whose rows lie so
abbrev pub span_arrays : Spans → PhysicalType
span_arrays (Small offsets) = physical.List
span_arrays (Large offsets) = physical.LargeList
span_arrays (Map offsets) = physical.Map
span_arrays (FixedSize size items) = physical.FixedSizeList
span_arrays (Fields rows) = physical.Struct

-- where row i begins in each child: at its offset, behind as many items for each row, or at row i
abbrev pub span_place : Spans → ℕ → ℕ
span_place (Small offsets) = slice_index offsets.now
span_place (Large offsets) = slice_index offsets.now
span_place (Map offsets) = slice_index offsets.now
span_place (FixedSize size items) = λ i. i * size
span_place (Fields rows) = λ i. i

-- how many rows there are
abbrev pub span_count : Spans → ℕ
span_count (Small offsets) = length offsets.now - 1
span_count (Large offsets) = length offsets.now - 1
span_count (Map offsets) = length offsets.now - 1
span_count (FixedSize size items) = items / size
span_count (Fields rows) = rows

-- how many null slots a null row has in each child
abbrev pub span_nulls : Spans → ℕ
span_nulls spans = null_slots_by (span_form spans)

-- offsets that rise, and a size that is not 0
abbrev pub AreSpans : Spans → Type 0
AreSpans (Small offsets) = IsOffsets offsets.now
AreSpans (Large offsets) = IsOffsets offsets.now
AreSpans (Map offsets) = IsOffsets offsets.now
AreSpans (FixedSize size items) = 0 < size
AreSpans (Fields rows) = Unit {0}

-- those of fixed-size lists: as many items a row, null or not ("Fixed-Size List Layout")
abbrev pub AreEven : Spans → Type 0
AreEven (FixedSize size items) = Unit {0}
AreEven _ = ⊥
