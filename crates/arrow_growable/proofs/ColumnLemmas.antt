-- What children hold of rows, and when rows fit by them.
use Rattle.arrow_growable.proofs.Common.{◌≡◌, ◌+◌, ◌*◌, ◌<◌, ◌^◌, ℕ, zero, suc, List, [], ◌∷◌, ◌++◌, length, map, refl, subst, arith, slice_index_or, map-append, ArrowType, ArrowFields, ListForm, plain, list, struct, union, dictionary, extension, null, small, fixed_size, field, no_fields, more_fields, type_in, from_fields, Fits, FitsParts, child_rows, fixed_items_in, part_in, physical_type_of, Slot, child_rows-append, field_types, item_type, list_size, list_shape, list_shaped, plain_shape, shape_in, struct_shape, child_type, child_types, column_in, flat_map}
use Rattle.arrow_types.specs.declared.datatypes.physical_type.PhysicalType.TheVariants as physical

-- rows behind rows, and none

pub column-append : (t : ArrowType) (f : ℕ) (xs ys : List Slot) → column_in t f (xs ++ ys) ≡ column_in t f xs ++ column_in t f ys
column-append (list form (field name t nullable)) f xs ys = child_rows-append form t xs ys
column-append (struct fs) f xs ys = map-append (part_in f (child_type (struct fs) f)) xs ys
column-append (extension name metadata t) f xs ys = column-append t f xs ys
column-append t f xs ys = refl

no_items : (form : ListForm) (t : ArrowType) → child_rows form t [] ≡ []
no_items small t = refl
no_items form t = refl

pub column-nil : (t : ArrowType) (f : ℕ) → column_in t f [] ≡ []
column-nil (list form (field name t nullable)) f = no_items form t
column-nil (extension name metadata t) f = column-nil t f
column-nil t f = refl

-- what the children of one shape are

pub list_child_types : (t : ArrowType) → shape_in t ≡ list_shape → child_types t ≡ item_type t ∷ []
list_child_types (plain p) shape = cc (plain_shape p)
list_child_types (list form f) shape = refl
list_child_types (extension name metadata t) shape = list_child_types t shape
list_child_types t shape = cc

pub struct_child_types : (t : ArrowType) → shape_in t ≡ struct_shape → child_types t ≡ field_types t
struct_child_types (list form f) shape = cc (list_shaped form)
struct_child_types (union mode ids fs) shape = cc
struct_child_types (dictionary keys ordered t) shape = cc
struct_child_types (extension name metadata t) shape = struct_child_types t shape
struct_child_types t shape = refl

-- and what they hold

pub sized_column : (t : ArrowType) (xs : List Slot) → physical_type_of t ≡ physical.FixedSizeList → column_in t 0 xs ≡ flat_map (fixed_items_in (list_size t) (child_type t 0)) xs
sized_column (plain p) xs kind = cc (plain_shape p)
sized_column (list (fixed_size s) (field name t nullable)) xs kind = refl
sized_column (extension name metadata t) xs kind = sized_column t xs kind
sized_column t xs kind = cc

pub field_column : (t : ArrowType) (f : ℕ) (xs : List Slot) → physical_type_of t ≡ physical.Struct → column_in t f xs ≡ map (part_in f (child_type t f)) xs
field_column (plain p) f xs kind = cc (plain_shape p)
field_column (list form g) f xs kind = cc (list_shaped form)
field_column (struct fs) f xs kind = refl
field_column (extension name metadata t) f xs kind = field_column t f xs kind
field_column t f xs kind = cc

-- rows that fit do so in each child

-- the f-th of these fields, which is field j of all
parts_fit : (fs : ArrowFields) (i f j : ℕ) (xs : List Slot) → j ≡ i + f → f < length (map type_in (from_fields fs)) → FitsParts fs i xs → Fits (slice_index_or (map type_in (from_fields fs)) f (plain null)) (map (part_in j (slice_index_or (map type_in (from_fields fs)) f (plain null))) xs)
parts_fit no_fields i f j xs at within fits = absurd (omega (arith, within))
parts_fit (more_fields (field name t nullable) fs) i zero j xs at within fits =
    let same : i ≡ j = omega (arith, at) in
    subst (λ k. Fits t (map (part_in k t) xs)) same fits.0
parts_fit (more_fields (field name t nullable) fs) i (suc f) j xs at within fits =
    parts_fit fs (suc i) f j xs (omega (arith, at)) (omega (arith, within)) fits.1

pub column_fits : (t : ArrowType) (f : ℕ) (xs : List Slot) → f < length (child_types t) → Fits t xs → Fits (child_type t f) (column_in t f xs)
column_fits (list form (field name t nullable)) zero xs within fits = fits.2
column_fits (struct fs) f xs within fits = parts_fit fs 0 f f xs (omega arith) within fits.1
column_fits (extension name metadata t) f xs within fits = column_fits t f xs within fits
column_fits t f xs within fits = absurd (omega (arith, within))

-- of a fixed-size list: its items fit 64 bits
pub size_fits : (t : ArrowType) (xs : List Slot) → physical_type_of t ≡ physical.FixedSizeList → Fits t xs → list_size t * length xs < 2 ^ 64
size_fits (plain p) xs kind fits = cc (plain_shape p)
size_fits (list (fixed_size s) (field name t nullable)) xs kind fits = fits.1
size_fits (extension name metadata t) xs kind fits = size_fits t xs kind fits
size_fits t xs kind fits = cc

-- a fixed-size list or a struct fits by its children

pub fits_sized : (t : ArrowType) (xs : List Slot) → physical_type_of t ≡ physical.FixedSizeList → length xs < 2 ^ 64 → list_size t * length xs < 2 ^ 64 → Fits (child_type t 0) (column_in t 0 xs) → Fits t xs
fits_sized (plain p) xs kind counted sized items = cc (plain_shape p)
fits_sized (list (fixed_size s) (field name t nullable)) xs kind counted sized items = (counted, sized, items)
fits_sized (extension name metadata t) xs kind counted sized items = fits_sized t xs kind counted sized items
fits_sized t xs kind counted sized items = cc

fit_parts : (fs : ArrowFields) (i : ℕ) (xs : List Slot) → ((f j : ℕ) → j ≡ i + f → f < length (map type_in (from_fields fs)) → Fits (slice_index_or (map type_in (from_fields fs)) f (plain null)) (map (part_in j (slice_index_or (map type_in (from_fields fs)) f (plain null))) xs)) → FitsParts fs i xs
fit_parts no_fields i xs each = tt
fit_parts (more_fields (field name t nullable) fs) i xs each =
    (each 0 i (omega arith) (omega arith), fit_parts fs (suc i) xs (λ f j at within. each (suc f) j (omega (arith, at)) (omega (arith, within))))

pub fits_fields : (t : ArrowType) (xs : List Slot) → physical_type_of t ≡ physical.Struct → length xs < 2 ^ 64 → ((f : ℕ) → f < length (child_types t) → Fits (child_type t f) (column_in t f xs)) → Fits t xs
fits_fields (plain p) xs kind counted each = cc (plain_shape p)
fits_fields (list form f) xs kind counted each = cc (list_shaped form)
fits_fields (struct fs) xs kind counted each =
    let among : (f j : ℕ) → j ≡ 0 + f → f < length (child_types (struct fs)) → Fits (child_type (struct fs) f) (map (part_in j (child_type (struct fs) f)) xs) =
    λ f j at within. subst (λ k. Fits (child_type (struct fs) f) (map (part_in k (child_type (struct fs) f)) xs)) (omega (arith, at)) (each f within) in
    (counted, fit_parts fs 0 xs among)
fits_fields (extension name metadata t) xs kind counted each = fits_fields t xs kind counted each
fits_fields t xs kind counted each = cc
