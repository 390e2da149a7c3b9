-- One row of an array, whatever the layout beneath it: the slot of Arrow's columnar format ("Terminology").
use Rattle.std.specs.Prelude.{ℕ, zero, suc, ℤ, pos, Bool, List, [], ◌∷◌, Option, Some, None}
use Rattle.arrow_types.specs.ArrowType.{ArrowType, plain, list, struct, union, dictionary, extension, field, no_fields, more_fields}

mutual
  pub data Slot : Type 0 where
    -- a row that the validity bitmap marks as null ("Validity bitmaps"), or a row of the null type ("Null Layout")
    Null : Slot
    -- a truth value
    Boolean : Bool → Slot
    -- a number of any width, signed or not; a decimal by its unscaled number
    Number : ℤ → Slot
    -- an interval of days and milliseconds
    DayTime : ℤ → ℤ → Slot
    -- an interval of months, days and nanoseconds
    MonthDayNano : ℤ → ℤ → ℤ → Slot
    -- a row of bytes, of any length or of a fixed size
    Bytes : List ℕ → Slot
    -- a row of text, by its bytes
    Text : List ℕ → Slot
    -- a row of a list, a fixed-size list or a map
    Items : Slots → Slot
    -- a row of a struct
    Parts : Slots → Slot
    -- a row of a dictionary: the value that its key names
    Dict : Slot → Slot
    -- a row of a union: type id and value
    Variant : ℤ → Slot → Slot

  -- the slots inside a row
  pub data Slots : Type 0 where
    no_slots : Slots
    more_slots : Slot → Slots → Slots

-- slots as a list, and back
abbrev pub to_slots : List Slot → Slots
to_slots [] = no_slots
to_slots (s ∷ ss) = more_slots s (to_slots ss)

abbrev pub from_slots : Slots → List Slot
from_slots no_slots = []
from_slots (more_slots s ss) = s ∷ from_slots ss

-- the type id of a union's i-th field: the i-th that is given, and i where none are ("Union Layout")
abbrev pub id_at : Option (List ℤ) → ℕ → ℤ
id_at None i = pos i
id_at (Some []) i = pos i
id_at (Some (id ∷ ids)) zero = id
id_at (Some (id ∷ ids)) (suc i) = id_at (Some ids) i

-- what stands where no row is chosen: Null, and in a union, which has no validity ("Union Layout"), its first field's null slot
abbrev pub null_slot : ArrowType → Slot
null_slot (plain p) = Null
null_slot (list form f) = Null
null_slot (struct fs) = Null
null_slot (union mode ids no_fields) = Variant (id_at ids 0) Null
null_slot (union mode ids (more_fields (field name t nullable) fs)) = Variant (id_at ids 0) (null_slot t)
null_slot (dictionary keys ordered t) = Null
null_slot (extension name metadata t) = null_slot t
