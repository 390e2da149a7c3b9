-- Lists and maps: their rows, and what a slice keeps.
use Rattle.std.proofs.Common.{◌≡◌, ℕ, ◌+◌, ◌-◌, ◌<◌, ◌≤◌, true, false, List, length, map, get_or, slice_index, refl, ap, sym, subst, ◌∙◌, arith}
use Rattle.std.specs.Prelude.{pos, IfSome, count_by, if◌then◌else◌}
use Rattle.std.specs.List.{All}
use Rattle.std.proofs.lemmas.List.{length-map}
use Rattle.std.proofs.lemmas.List.Elements.{All-map}
use Rattle.arrow_types.specs.declared.datatypes.physical_type.PhysicalType.{PhysicalType}
use Rattle.arrow_types.specs.Relation.{is_null}
use Rattle.arrow_types.specs.Rows.{valid_at}
use Rattle.arrow_types.specs.Slot.{Slot, Null}
use Rattle.arrow_memory.specs.Sliced.{sliced}
use Rattle.arrow_memory.proofs.SlicedLemmas.{length-sliced}
use Rattle.arrow_flat.specs.Parts.{FitsRows, IsValue, MarksNulls, unset_in}
use Rattle.arrow_flat.specs.Pieces.{pieces}
use Rattle.arrow_flat.proofs.PartsLemmas.{length-masked, null_count-masked, marks-masked, row_at, fits_part, fits_within}
use Rattle.arrow_flat.proofs.PieceLemmas.{length-pieces, piece_at, slot_of_row, part_of_offsets, last_of_part}
use Rattle.arrow_arrays.specs.Layout.{type_of_layout, items_row, list_items, rows}
use Rattle.arrow_arrays.specs.ListParts.{ListParts, IsList, list_layout, list_rows, list_slice}
use Rattle.arrow_arrays.specs.TypeParts.{item_type}
use Rattle.arrow_arrays.proofs.PartLemmas.{rows_of_slice}

length-list_items : (offsets : List ℕ) (xs : List Slot) → length (list_items offsets xs) ≡ length offsets - 1
length-list_items offsets xs = length-map (pieces offsets xs) items_row ∙ length-pieces offsets xs

-- a row of items is no null
pub rows_of_items : (xss : List (List Slot)) → All IsValue (map items_row xss)
rows_of_items xss = All-map IsValue items_row xss (λ k d within. refl)

-- as many bits as rows
fits_items : {physical_type : PhysicalType} (p : ListParts) → IsList physical_type p → FitsRows p.validity (length (list_items p.offsets (rows p.child)))
fits_items p list = rw (length-list_items p.offsets (rows p.child)) list.fits

pub length-list_rows : {physical_type : PhysicalType} (p : ListParts) → IsList physical_type p → length (list_rows p) ≡ length p.offsets - 1
length-list_rows p list =
    length-masked p.validity (list_items p.offsets (rows p.child)) (fits_items p list) ∙ length-list_items p.offsets (rows p.child)

-- the null rows are those that the validity marks
pub null_count-list : {physical_type : PhysicalType} (p : ListParts) → IsList physical_type p → count_by is_null (list_rows p) ≡ unset_in p.validity
null_count-list p list =
    null_count-masked p.validity _ (rows_of_items (pieces p.offsets (rows p.child))) (fits_items p list)

pub marks-list : {physical_type : PhysicalType} (p : ListParts) → IsList physical_type p → MarksNulls p.validity (list_rows p)
marks-list p list =
    marks-masked p.validity _ (rows_of_items (pieces p.offsets (rows p.child))) (fits_items p list)

-- one row
abbrev row_from : ListParts → ℕ → Slot
row_from p i = items_row (sliced (rows p.child) (slice_index p.offsets i) (slice_index p.offsets (i + 1) - slice_index p.offsets i))

list_row : {physical_type : PhysicalType} (p : ListParts) (i : ℕ) → IsList physical_type p → i + 1 < length p.offsets → get_or (list_rows p) i Null ≡ (if valid_at p.validity i then row_from p i else Null)
list_row p i list within =
    let item = slot_of_row items_row (pieces p.offsets (rows p.child)) i _ (piece_at p.offsets (rows p.child) i within) in
    row_at p.validity (list_items p.offsets (rows p.child)) i (fits_items p list) (omega (arith, within, length-list_items p.offsets (rows p.child))) ∙ ap (λ s. if valid_at p.validity i then s else Null) item

pub list_row_null : {physical_type : PhysicalType} (p : ListParts) (i : ℕ) → IsList physical_type p → i + 1 < length p.offsets → false ≡ valid_at p.validity i → get_or (list_rows p) i Null ≡ Null
list_row_null p i list within told =
    list_row p i list within ∙ ap (λ b. if b then row_from p i else Null) (sym told)

pub list_row_valid : {physical_type : PhysicalType} (p : ListParts) (i : ℕ) → IsList physical_type p → i + 1 < length p.offsets → true ≡ valid_at p.validity i → get_or (list_rows p) i Null ≡ row_from p i
list_row_valid p i list within told =
    list_row p i list within ∙ ap (λ b. if b then row_from p i else Null) (sym told)

-- a row is one where the parts are seen so
pub row_within : (p q : ListParts) (i : ℕ) → p ≡ q → i + 1 < length q.offsets → i + 1 < length p.offsets
row_within p q i seen within = subst (λ r. i + 1 < length r.offsets) (sym seen) within

-- the offsets of a slice are there, where the parts are seen so
pub offsets_within : {physical_type : PhysicalType} (p q : ListParts) (offset len : ℕ) → IsList physical_type p → p ≡ q → offset + len ≤ length (list_rows q) → offset + (len + 1) ≤ length p.offsets
offsets_within p q offset len list seen within =
    let there : offset + len ≤ length (list_rows p) = subst (λ r. offset + len ≤ length (list_rows r)) (sym seen) within in
    omega (arith, there, length-list_rows p list, list.offsets.some, length-map p.offsets pos)

-- and so are the bits
pub bits_within : {physical_type : PhysicalType} (p q : ListParts) (offset len : ℕ) → IsList physical_type p → p ≡ q → offset + len ≤ length (list_rows q) → IfSome p.validity (λ bits. offset + len ≤ length bits)
bits_within p q offset len list seen within =
    fits_within p.validity (length p.offsets - 1) (offset + len) list.fits (omega (arith, offsets_within p q offset len list seen within))

-- a slice
pub list_part_is : {physical_type : PhysicalType} (p q : ListParts) (offset len : ℕ) → IsList physical_type p → p ≡ q → offset + len ≤ length (list_rows q) → IsList physical_type (list_slice p offset len)
list_part_is p q offset len list seen within =
    let among = offsets_within p q offset len list seen within in
    let rest : length (sliced p.offsets offset (len + 1)) - 1 ≡ len = omega (arith, length-sliced p.offsets offset (len + 1) among) in
    record {
      kind = list.kind;
      child = list.child;
      fits = rw rest (fits_part p.validity (length p.offsets - 1) offset len list.fits (omega (arith, among)));
      offsets = part_of_offsets p.offsets offset (len + 1) list.offsets among (omega arith);
      within = omega (arith, list.within, last_of_part p.offsets offset len list.offsets among);
    }

pub list_part_rows : (p q : ListParts) (offset len : ℕ) → p ≡ q → offset + len ≤ length (list_rows q) → list_rows (list_slice p offset len) ≡ sliced (list_rows p) offset len
list_part_rows p q offset len seen within =
    rows_of_slice (list_layout p) offset len (subst (λ r. offset + len ≤ length (list_rows r)) (sym seen) within)

-- the child of parts that are seen so
pub list_child : (p q : ListParts) → p ≡ q → p.child ≡ q.child
list_child p q seen = λ j. (seen j).child

-- children of arrays of one type are of one type
pub list_items_type : {l m : PhysicalType} (p q : ListParts) → IsList l p → IsList m q → p.arrow_type ≡ q.arrow_type → type_of_layout p.child ≡ type_of_layout q.child
list_items_type p q held other one = held.child ∙ (ap item_type one ∙ sym other.child)
