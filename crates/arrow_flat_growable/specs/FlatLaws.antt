-- What the laws of rows under construction rest on: types whose rows fit by their count, and by that of their bytes where these have a fixed size.
use Rattle.std.specs.Prelude.{◌≡◌, ◌*◌, ◌<◌, ◌^◌, Bool, true, false, List, length}
use Rattle.std.proofs.Common.{ap, sym}
use Rattle.arrow_types.specs.declared.datatypes.UnionMode.TheVariants.{Dense, Sparse}
use Rattle.arrow_types.specs.declared.datatypes.physical_type.PhysicalType.{PhysicalType}
use Rattle.arrow_types.specs.declared.datatypes.physical_type.PhysicalType.TheVariants as physical
use Rattle.arrow_types.specs.ArrowType.{ArrowType, PlainType, plain, list, struct, union, dictionary, extension, field, binary, large_binary, utf8, large_utf8, fixed_size_binary, small, large, fixed_size, mapped}
use Rattle.arrow_types.specs.Fits.{Fits, FitsPlain}
use Rattle.arrow_types.specs.Physical.{physical_type_of, plain_physical_type}
use Rattle.arrow_types.specs.Rows.{mask}
use Rattle.arrow_types.specs.Slot.{Slot, Null, null_slot}
use Rattle.arrow_types.proofs.RowsLemmas.{length-mask}
use Rattle.arrow_types.proofs.SlotLemmas.{null_slot-no_union}
use Rattle.arrow_flat.specs.FixedRows.{fixed_size_in}
use Rattle.arrow_arrays.proofs.FitNullLemmas.{bytes_fit}

-- whether rows that lie so fit by their count
abbrev pub is_counted : PhysicalType → Bool
is_counted physical.Boolean = true
is_counted (physical.Primitive element) = true
is_counted physical.FixedSizeBinary = true
is_counted _ = false

-- rows that fit are counted
pub fits_count : (t : ArrowType) (xs : List Slot) → Fits t xs → length xs < 2 ^ 64
fits_count (plain p) xs fits = fits.0
fits_count (list form (field name t nullable)) xs fits = fits.0
fits_count (struct fs) xs fits = fits.0
fits_count (union Sparse ids fs) xs fits = fits.0
fits_count (union Dense ids fs) xs fits = fits.0
fits_count (dictionary keys ordered t) xs fits = fits
fits_count (extension name metadata t) xs fits = fits_count t xs fits

plain_fits : (p : PlainType) (xs : List Slot) → is_counted (plain_physical_type p) ≡ true → fixed_size_in (plain p) * length xs < 2 ^ 64 → FitsPlain p xs
plain_fits utf8 xs kind bytes = cc
plain_fits binary xs kind bytes = cc
plain_fits large_utf8 xs kind bytes = cc
plain_fits large_binary xs kind bytes = cc
plain_fits (fixed_size_binary s) xs kind bytes = bytes
plain_fits _ xs kind bytes = tt

-- rows fit where they are counted, and their bytes
pub fits_counted : (t : ArrowType) (xs : List Slot) → is_counted (physical_type_of t) ≡ true → length xs < 2 ^ 64 → fixed_size_in t * length xs < 2 ^ 64 → Fits t xs
fits_counted (plain p) xs kind count bytes = (count, plain_fits p xs kind bytes)
fits_counted (list small f) xs kind count bytes = cc
fits_counted (list large f) xs kind count bytes = cc
fits_counted (list (fixed_size s) f) xs kind count bytes = cc
fits_counted (list (mapped sorted) f) xs kind count bytes = cc
fits_counted (struct fs) xs kind count bytes = cc
fits_counted (union mode ids fs) xs kind count bytes = cc
fits_counted (dictionary keys ordered t) xs kind count bytes = cc
fits_counted (extension name metadata t) xs kind count bytes = fits_counted t xs kind count bytes

-- as many rows fit
pub fits_as_many : (t : ArrowType) (xs ys : List Slot) → is_counted (physical_type_of t) ≡ true → length xs ≡ length ys → Fits t xs → Fits t ys
fits_as_many t xs ys kind same fits =
    fits_counted t ys kind (rw (← same) (fits_count t xs fits)) (rw (← same) (bytes_fit t xs fits))

pub fits_unmasked : (t : ArrowType) (bits : List Bool) (xs : List Slot) → is_counted (physical_type_of t) ≡ true → length bits ≡ length xs → Fits t (mask bits xs) → Fits t xs
fits_unmasked t bits xs kind same = fits_as_many t (mask bits xs) xs kind (length-mask bits xs same)

pub fits_mask : (t : ArrowType) (bits : List Bool) (xs : List Slot) → is_counted (physical_type_of t) ≡ true → length bits ≡ length xs → Fits t xs → Fits t (mask bits xs)
fits_mask t bits xs kind same = fits_as_many t xs (mask bits xs) kind (sym (length-mask bits xs same))

-- a null slot is null
pub null_of_counted : (t : ArrowType) → is_counted (physical_type_of t) ≡ true → null_slot t ≡ Null
null_of_counted t kind = null_slot-no_union t (λ is. cc (ap is_counted is))
