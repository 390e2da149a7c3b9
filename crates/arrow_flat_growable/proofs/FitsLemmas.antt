-- Which rows fit a type by their count alone.
use Rattle.arrow_flat_growable.proofs.Common.{◌≡◌, ◌*◌, ◌<◌, ◌^◌, Bool, true, false, List, length, refl, arith, PhysicalType, ArrowType, PlainType, plain, list, extension, null, binary, large_binary, utf8, large_utf8, fixed_size_binary, small, Fits, physical_type_of, plain_physical_type, Slot, fixed_size_in, is_counted, fits_counted}
use Rattle.arrow_types.specs.declared.datatypes.physical_type.PhysicalType.TheVariants as physical

-- whether rows that lie so fit by nothing but their count
abbrev pub is_only_counted : PhysicalType → Bool
is_only_counted physical.Boolean = true
is_only_counted (physical.Primitive element) = true
is_only_counted _ = false

plain_without_bytes : (p : PlainType) → is_only_counted (plain_physical_type p) ≡ true → (fixed_size_in (plain p) ≡ 0) × (is_counted (plain_physical_type p) ≡ true)
plain_without_bytes null kind = cc
plain_without_bytes utf8 kind = cc
plain_without_bytes binary kind = cc
plain_without_bytes large_utf8 kind = cc
plain_without_bytes large_binary kind = cc
plain_without_bytes (fixed_size_binary s) kind = cc
plain_without_bytes _ kind = (refl, refl)

without_bytes : (t : ArrowType) → is_only_counted (physical_type_of t) ≡ true → (fixed_size_in t ≡ 0) × (is_counted (physical_type_of t) ≡ true)
without_bytes (plain p) kind = plain_without_bytes p kind
without_bytes (extension name metadata t) kind = without_bytes t kind
without_bytes (list small f) kind = cc
without_bytes t kind = cc

-- then rows fit where they are counted
pub fits_only_counted : (t : ArrowType) (xs : List Slot) → is_only_counted (physical_type_of t) ≡ true → length xs < 2 ^ 64 → Fits t xs
fits_only_counted t xs kind count =
    let plain = without_bytes t kind in
    let none : fixed_size_in t * length xs ≡ 0 = rw plain.0 (omega arith) in
    fits_counted t xs plain.1 count (omega (arith, none))
