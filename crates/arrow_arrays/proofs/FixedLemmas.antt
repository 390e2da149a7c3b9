-- Fixed-size lists: their rows, and what a slice keeps.
use Rattle.std.proofs.Common.{◌≡◌, ℕ, ◌+◌, ◌*◌, ◌/◌, ◌<◌, ◌≤◌, true, false, length, get_or, ap, sym, subst, ◌∙◌, arith}
use Rattle.std.specs.Prelude.{IfSome, count_by, if◌then◌else◌}
use Rattle.std.proofs.Math.Nat.{mul-div_cancel, mul-mod_left}
use Rattle.arrow_types.specs.Relation.{is_null}
use Rattle.arrow_types.specs.Rows.{valid_at}
use Rattle.arrow_types.specs.Slot.{Slot, Null}
use Rattle.arrow_memory.specs.Sliced.{sliced}
use Rattle.arrow_memory.proofs.SlicedLemmas.{length-sliced}
use Rattle.arrow_flat.specs.Parts.{FitsRows, MarksNulls, unset_in}
use Rattle.arrow_flat.specs.Pieces.{chunks}
use Rattle.arrow_flat.proofs.FixedLemmas.{chunk_at, whole_rows}
use Rattle.arrow_flat.proofs.PartsLemmas.{length-masked, null_count-masked, marks-masked, row_at, fits_part, fits_within, bit_within}
use Rattle.arrow_flat.proofs.PieceLemmas.{slot_of_row}
use Rattle.arrow_arrays.specs.Layout.{type_of_layout, items_row, fixed_items, rows}
use Rattle.arrow_arrays.specs.FixedListParts.{FixedListParts, IsFixedList, fixed_list_layout, fixed_list_rows, fixed_list_slice}
use Rattle.arrow_arrays.specs.SliceOf.{slice_of}
use Rattle.arrow_arrays.proofs.ListLemmas.{rows_of_items}
use Rattle.arrow_arrays.specs.TypeParts.{item_type}
use Rattle.arrow_arrays.proofs.PartLemmas.{rows_of_slice, type_of_part, length-fixed_items, items_within}

-- as many bits as rows
fits_fixed : (p : FixedListParts) → IsFixedList p → FitsRows p.validity (length (fixed_items p.size (rows p.child)))
fits_fixed p fixed = rw (length-fixed_items p.size (rows p.child)) fixed.fits.1

pub length-fixed_list_rows : (p : FixedListParts) → IsFixedList p → length (fixed_list_rows p) ≡ length (rows p.child) / p.size
length-fixed_list_rows p fixed =
    length-masked p.validity (fixed_items p.size (rows p.child)) (fits_fixed p fixed) ∙ length-fixed_items p.size (rows p.child)

-- the rows are all items
pub fixed_whole : (p : FixedListParts) → IsFixedList p → length (rows p.child) / p.size * p.size ≡ length (rows p.child)
fixed_whole p fixed = whole_rows (length (rows p.child)) p.size fixed.fits.0

pub fixed_rows_whole : (p : FixedListParts) → IsFixedList p → length (fixed_list_rows p) * p.size ≡ length (rows p.child)
fixed_rows_whole p fixed = rw (length-fixed_list_rows p fixed) (fixed_whole p fixed)

-- the null rows are those that the validity marks
pub null_count-fixed : (p : FixedListParts) → IsFixedList p → count_by is_null (fixed_list_rows p) ≡ unset_in p.validity
null_count-fixed p fixed =
    null_count-masked p.validity _ (rows_of_items (chunks (length (rows p.child) / p.size) p.size (rows p.child))) (fits_fixed p fixed)

pub marks-fixed : (p : FixedListParts) → IsFixedList p → MarksNulls p.validity (fixed_list_rows p)
marks-fixed p fixed =
    marks-masked p.validity _ (rows_of_items (chunks (length (rows p.child) / p.size) p.size (rows p.child))) (fits_fixed p fixed)

-- one row
abbrev row_from : FixedListParts → ℕ → Slot
row_from p i = items_row (sliced (rows p.child) (i * p.size) p.size)

fixed_row : (p : FixedListParts) (i : ℕ) → IsFixedList p → i < length (rows p.child) / p.size → get_or (fixed_list_rows p) i Null ≡ (if valid_at p.validity i then row_from p i else Null)
fixed_row p i fixed within =
    let count = length (rows p.child) / p.size in
    let item = slot_of_row items_row (chunks count p.size (rows p.child)) i _ (chunk_at count p.size (rows p.child) i within) in
    row_at p.validity (fixed_items p.size (rows p.child)) i (fits_fixed p fixed) (omega (arith, within, length-fixed_items p.size (rows p.child))) ∙ ap (λ s. if valid_at p.validity i then s else Null) item

pub fixed_row_null : (p : FixedListParts) (i : ℕ) → IsFixedList p → i < length (rows p.child) / p.size → false ≡ valid_at p.validity i → get_or (fixed_list_rows p) i Null ≡ Null
fixed_row_null p i fixed within told =
    fixed_row p i fixed within ∙ ap (λ b. if b then row_from p i else Null) (sym told)

pub fixed_row_valid : (p : FixedListParts) (i : ℕ) → IsFixedList p → i < length (rows p.child) / p.size → true ≡ valid_at p.validity i → get_or (fixed_list_rows p) i Null ≡ row_from p i
fixed_row_valid p i fixed within told =
    fixed_row p i fixed within ∙ ap (λ b. if b then row_from p i else Null) (sym told)

-- a row is one where the parts are seen so, and its items lie inside the child
pub fixed_row_within : (p q : FixedListParts) (i : ℕ) → IsFixedList p → p ≡ q → i < length (fixed_list_rows q) → i < length (rows p.child) / p.size
fixed_row_within p q i fixed seen within =
    let there : i < length (fixed_list_rows p) = subst (λ r. i < length (fixed_list_rows r)) (sym seen) within in
    omega (arith, there, length-fixed_list_rows p fixed)

pub fixed_bit_within : (p q : FixedListParts) (i : ℕ) → IsFixedList p → p ≡ q → i < length (fixed_list_rows q) → IfSome p.validity (λ bits. i < length bits)
fixed_bit_within p q i fixed seen within =
    bit_within p.validity (length (rows p.child) / p.size) i fixed.fits.1 (fixed_row_within p q i fixed seen within)

pub items_of_row_within : (p : FixedListParts) (i : ℕ) → IsFixedList p → i < length (rows p.child) / p.size → i * p.size + p.size ≤ length (rows p.child)
items_of_row_within p i fixed within =
    omega (arith, items_within p.size (length (rows p.child)) i 1 fixed.some (omega (arith, within)))

-- the rows of a slice are there, and its items
pub fixed_part_within : (p q : FixedListParts) (offset len : ℕ) → IsFixedList p → p ≡ q → offset + len ≤ length (fixed_list_rows q) → offset + len ≤ length (rows p.child) / p.size
fixed_part_within p q offset len fixed seen within =
    let there : offset + len ≤ length (fixed_list_rows p) = subst (λ r. offset + len ≤ length (fixed_list_rows r)) (sym seen) within in
    omega (arith, there, length-fixed_list_rows p fixed)

pub fixed_items_within : (p q : FixedListParts) (offset len : ℕ) → IsFixedList p → p ≡ q → offset + len ≤ length (fixed_list_rows q) → offset * p.size + len * p.size ≤ length (rows p.child)
fixed_items_within p q offset len fixed seen within =
    items_within p.size (length (rows p.child)) offset len fixed.some (fixed_part_within p q offset len fixed seen within)

pub fixed_bits_within : (p q : FixedListParts) (offset len : ℕ) → IsFixedList p → p ≡ q → offset + len ≤ length (fixed_list_rows q) → IfSome p.validity (λ bits. offset + len ≤ length bits)
fixed_bits_within p q offset len fixed seen within =
    fits_within p.validity (length (rows p.child) / p.size) (offset + len) fixed.fits.1 (fixed_part_within p q offset len fixed seen within)

-- a slice
pub fixed_list_part_is : (p q : FixedListParts) (offset len : ℕ) → IsFixedList p → p ≡ q → offset + len ≤ length (fixed_list_rows q) → IsFixedList (fixed_list_slice p offset len)
fixed_list_part_is p q offset len fixed seen within =
    let among = fixed_part_within p q offset len fixed seen within in
    let items = fixed_items_within p q offset len fixed seen within in
    let count : length (rows (slice_of p.child (offset * p.size) (len * p.size))) ≡ len * p.size = ap length (rows_of_slice p.child (offset * p.size) (len * p.size) items) ∙ length-sliced (rows p.child) (offset * p.size) (len * p.size) items in
    let whole : len * p.size / p.size ≡ len = mul-div_cancel len fixed.some in
    record {
      kind = fixed.kind;
      child = type_of_part p.child (offset * p.size) (len * p.size) ∙ fixed.child;
      size = fixed.size;
      some = fixed.some;
      fits = rw (count, whole) (mul-mod_left len p.size, fits_part p.validity (length (rows p.child) / p.size) offset len fixed.fits.1 among);
      counted = omega (arith, fixed.counted, count, items);
    }

pub fixed_list_part_rows : (p q : FixedListParts) (offset len : ℕ) → p ≡ q → offset + len ≤ length (fixed_list_rows q) → fixed_list_rows (fixed_list_slice p offset len) ≡ sliced (fixed_list_rows p) offset len
fixed_list_part_rows p q offset len seen within =
    rows_of_slice (fixed_list_layout p) offset len (subst (λ r. offset + len ≤ length (fixed_list_rows r)) (sym seen) within)

-- the child of parts that are seen so
pub fixed_child : (p q : FixedListParts) → p ≡ q → p.child ≡ q.child
fixed_child p q seen = λ j. (seen j).child

-- children of arrays of one type are of one type
pub fixed_items_type : (p q : FixedListParts) → IsFixedList p → IsFixedList q → p.arrow_type ≡ q.arrow_type → type_of_layout p.child ≡ type_of_layout q.child
fixed_items_type p q held other one = held.child ∙ (ap item_type one ∙ sym other.child)
