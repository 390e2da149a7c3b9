-- A flat array as contracts see it: its type, what is stored, and which rows are valid. Its rows follow.
use Rattle.std.specs.Prelude.{◌≡◌, ◌<◌, ℕ, Bool, true, false, not, Option, Some, None, List, length, map, replicate, count_by, option_map, refl}
use Rattle.std.specs.Coded.{Coded, code_by, coded×, coded_list, coded_bool, coded_option}
use Rattle.std.specs.List.{All}
use Rattle.arrow_types.specs.ArrowType.{ArrowType}
use Rattle.arrow_types.specs.Carried.{IsCarried}
use Rattle.arrow_types.specs.Relation.{is_null}
use Rattle.arrow_types.specs.Rows.{masked}
use Rattle.arrow_types.specs.Slot.{Slot, Boolean}
use Rattle.arrow_types.specs.StoredSlot.{slot_code}
use Rattle.arrow_types.specs.StoredType.{type_code}
use Rattle.arrow_memory.specs.Sliced.{sliced}

-- the type, what is stored for each row, null rows too, and the validity, if there is one
pub record Parts (V : Type 0) : Type 0 where
  pub arrow_type : ArrowType
  pub values : V
  pub validity : Option (List Bool)

-- the code that the logic asks for
abbrev pub parts_code : {V : Type 0} → Coded V → Coded (Parts V)
parts_code c =
    code_by (ArrowType × (_ × Option (List Bool))) (coded× type_code (coded× c (coded_option (coded_list coded_bool)))) (λ p. (p.arrow_type, (p.values, p.validity))) (λ t. record { arrow_type = t.0; values = t.1.0; validity = t.1.1 }) (λ _. refl)

-- the validity, where there is one, has a bit for each row ("Validity bitmaps")
abbrev pub FitsRows : Option (List Bool) → ℕ → Type 0
FitsRows None n = Unit {0}
FitsRows (Some validity) n = length validity ≡ n

-- how many rows a validity marks as null
abbrev pub unset_in : Option (List Bool) → ℕ
unset_in None = 0
unset_in (Some validity) = count_by not validity

-- which of `len` rows from one on are valid
abbrev pub bits_of_slice : Option (List Bool) → ℕ → ℕ → List Bool
bits_of_slice None start len = replicate len true
bits_of_slice (Some validity) start len = sliced validity start len

-- the rows: what is stored where it is valid, and Null elsewhere
abbrev pub rows_by : {V : Type 0} → (V → List Slot) → Parts V → List Slot
rows_by slots p = masked p.validity (slots p.values)

-- the rows of truth values
abbrev pub boolean_rows : Parts (List Bool) → List Slot
boolean_rows = rows_by (map Boolean)

-- what an array means: its type and its rows
abbrev pub meaning_by : {V : Type 0} → (V → List Slot) → Parts V → ArrowType × List Slot
meaning_by slots p = (p.arrow_type, rows_by slots p)

abbrev pub meaning_code : Coded (ArrowType × List Slot)
meaning_code = coded× type_code (coded_list slot_code)

-- the parts of a slice
abbrev pub slice_by : {V : Type 0} → (V → ℕ → ℕ → V) → Parts V → ℕ → ℕ → Parts V
slice_by part p offset len =
    record { arrow_type = p.arrow_type; values = part p.values offset len; validity = option_map (λ bits. sliced bits offset len) p.validity }

-- the same parts under another validity
abbrev pub with_bits : {V : Type 0} → Parts V → Option (List Bool) → Parts V
with_bits p validity = record { arrow_type = p.arrow_type; values = p.values; validity = validity }

-- a slot that is not null
abbrev pub IsValue : Slot → Type 0
IsValue s = is_null s ≡ false

-- a validity that marks the null rows: without it none is null, and else its bits are set where a row is not
abbrev pub MarksNulls : Option (List Bool) → List Slot → Type 0
MarksNulls None xs = All IsValue xs
MarksNulls (Some validity) xs = validity ≡ map (λ s. not (is_null s)) xs

-- it marks the nulls of some rows, of which one is row i
abbrev pub HasRow : Option (List Bool) → ℕ → Type 0
HasRow v i = (xs : List Slot) × MarksNulls v xs × (i < length xs)

-- the parts of an array: a carried type whose rows are stored so, and a validity with a bit for each row
pub record IsArray {V : Type 0} (slots : V → List Slot) (are_of : V → ArrowType → Type 0) (p : Parts V) : Type 0 where
  pub carried : IsCarried p.arrow_type
  pub kind : are_of p.values p.arrow_type
  pub fits : FitsRows p.validity (length (slots p.values))
