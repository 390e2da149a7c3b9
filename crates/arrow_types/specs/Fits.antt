-- Which rows an array of a type can hold: every offset, position and count fits its type.
use Rattle.std.specs.Prelude.{ℕ, zero, suc, ℤ, true, false, List, [], ◌∷◌, map, length, sum_by, flat_map, replicate, ◌<◌, ◌≤◌, ◌*◌, ◌^◌, Option, if◌then◌else◌}
use Rattle.std.specs.Ordering.{int_eq}
use Rattle.arrow_types.specs.declared.datatypes.UnionMode.TheVariants.{Dense, Sparse}
use Rattle.arrow_types.specs.ArrowType.{ArrowType, ArrowFields, PlainType, ListForm, utf8, large_utf8, binary, large_binary, fixed_size_binary, small, large, fixed_size, mapped, plain, list, struct, union, dictionary, extension, field, no_fields, more_fields}
use Rattle.arrow_types.specs.Greatest.{greatest_offset}
use Rattle.arrow_types.specs.Slot.{Slot, Slots, Null, Items, Parts, Bytes, Text, Variant, no_slots, more_slots, from_slots, null_slot, id_at}

-- an array has fewer than 2 ^ 64 rows ("Array lengths")
abbrev pub IsCounted : List Slot → Type 0
IsCounted rows = length rows < 2 ^ 64

-- the bytes of a text or of bytes, and none of a null
abbrev pub byte_count : Slot → ℕ
byte_count (Text b) = length b
byte_count (Bytes b) = length b
byte_count _ = 0

-- the rows inside a row of a list or a map, and none of a null
abbrev pub items_in : Slot → List Slot
items_in (Items ss) = from_slots ss
items_in _ = []

-- all rows inside the rows of a list
abbrev pub all_items : List Slot → List Slot
all_items = flat_map items_in

-- the rows inside a row of a fixed-size list of s: s null slots of a null
abbrev pub fixed_items_in : ℕ → ArrowType → Slot → List Slot
fixed_items_in s t (Items ss) = from_slots ss
fixed_items_in s t _ = replicate s (null_slot t)

-- the i-th slot, and d where there are not so many
abbrev pub slot_or : Slot → Slots → ℕ → Slot
slot_or d no_slots i = d
slot_or d (more_slots s ss) zero = s
slot_or d (more_slots s ss) (suc i) = slot_or d ss i

-- the i-th part of a struct's row, and a null slot of a null row
abbrev pub part_in : ℕ → ArrowType → Slot → Slot
part_in i t (Parts ss) = slot_or Null ss i
part_in i t _ = null_slot t

-- what a sparse union's field holds at a row: a null slot where another field is chosen
abbrev pub sparse_part : ℤ → ArrowType → Slot → Slot
sparse_part id t (Variant other s) = if int_eq id other then s else null_slot t
sparse_part id t _ = null_slot t

-- the rows of one id, which are those of a dense union's field
abbrev pub dense_part : ℤ → List Slot → List Slot
dense_part id [] = []
dense_part id (Variant other s ∷ rows) = if int_eq id other then s ∷ dense_part id rows else dense_part id rows
dense_part id (_ ∷ rows) = dense_part id rows

-- a type without children: the bytes of all rows together are at most the greatest offset ("Variable-size Binary Layout"), or their count fits 64 bits
abbrev pub FitsPlain : PlainType → List Slot → Type 0
FitsPlain utf8 rows = sum_by byte_count rows ≤ greatest_offset false
FitsPlain binary rows = sum_by byte_count rows ≤ greatest_offset false
FitsPlain large_utf8 rows = sum_by byte_count rows ≤ greatest_offset true
FitsPlain large_binary rows = sum_by byte_count rows ≤ greatest_offset true
FitsPlain (fixed_size_binary s) rows = s * length rows < 2 ^ 64
FitsPlain _ rows = Unit {0}

-- the rows of a list's child are at most the greatest offset ("Variable-size List Layout"), or their count fits 64 bits ("Fixed-Size List Layout")
abbrev pub FitsForm : ListForm → List Slot → Type 0
FitsForm small rows = length (all_items rows) ≤ greatest_offset false
FitsForm large rows = length (all_items rows) ≤ greatest_offset true
FitsForm (fixed_size s) rows = s * length rows < 2 ^ 64
FitsForm (mapped sorted) rows = length (all_items rows) ≤ greatest_offset false

-- the rows of a list's child: those inside all rows
abbrev pub child_rows : ListForm → ArrowType → List Slot → List Slot
child_rows small t rows = all_items rows
child_rows large t rows = all_items rows
child_rows (fixed_size s) t rows = flat_map (fixed_items_in s t) rows
child_rows (mapped sorted) t rows = all_items rows

-- rows that fit a type: as many as an array can have, in all its children too
abbrev mutual
  pub Fits : ArrowType → List Slot → Type 0
  Fits (plain p) rows = IsCounted rows × FitsPlain p rows
  Fits (list form (field name t nullable)) rows = IsCounted rows × FitsForm form rows × Fits t (child_rows form t rows)
  Fits (struct fs) rows = IsCounted rows × FitsParts fs 0 rows
  Fits (union Sparse ids fs) rows = IsCounted rows × FitsSparse fs ids 0 rows
  Fits (union Dense ids fs) rows = IsCounted rows × FitsDense fs ids 0 rows
  Fits (dictionary keys ordered t) rows = IsCounted rows
  Fits (extension name metadata t) rows = Fits t rows

  -- the columns of a struct fit ("Struct Layout"), from field i on
  pub FitsParts : ArrowFields → ℕ → List Slot → Type 0
  FitsParts no_fields i rows = Unit {0}
  FitsParts (more_fields (field name t nullable) fs) i rows = Fits t (map (part_in i t) rows) × FitsParts fs (suc i) rows

  -- the children of a sparse union fit, each as long as the union ("Sparse Union")
  pub FitsSparse : ArrowFields → Option (List ℤ) → ℕ → List Slot → Type 0
  FitsSparse no_fields ids i rows = Unit {0}
  FitsSparse (more_fields (field name t nullable) fs) ids i rows =
      Fits t (map (sparse_part (id_at ids i) t) rows) × FitsSparse fs ids (suc i) rows

  -- and those of a dense union, each with its own rows alone: at most 2 ^ 31 of one id ("Dense Union")
  pub FitsDense : ArrowFields → Option (List ℤ) → ℕ → List Slot → Type 0
  FitsDense no_fields ids i rows = Unit {0}
  FitsDense (more_fields (field name t nullable) fs) ids i rows =
      (length (dense_part (id_at ids i) rows) ≤ 2 ^ 31) × Fits t (dense_part (id_at ids i) rows) × FitsDense fs ids (suc i) rows
