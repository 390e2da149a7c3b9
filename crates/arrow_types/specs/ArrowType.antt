-- A data type as contracts see it: a tree, with names as their bytes. The terms are those of Arrow's columnar format ("Physical Memory Layout") and of its schema.
use Rattle.std.specs.Prelude.{ℕ, ℤ, Bool, List, [], ◌∷◌, Option}
use Rattle.arrow_types.specs.declared.datatypes.TimeUnit.{TimeUnit}
use Rattle.arrow_types.specs.declared.datatypes.IntervalUnit.{IntervalUnit}
use Rattle.arrow_types.specs.declared.datatypes.UnionMode.{UnionMode}
use Rattle.arrow_types.specs.declared.datatypes.IntegerType.{IntegerType}

-- a type without children ("Null Layout", "Fixed-size Primitive Layout", "Variable-size Binary Layout")
pub data PlainType : Type 0 where
  null : PlainType
  boolean : PlainType
  float16 : PlainType
  float32 : PlainType
  float64 : PlainType
  date32 : PlainType
  date64 : PlainType
  binary : PlainType
  large_binary : PlainType
  utf8 : PlainType
  large_utf8 : PlainType
  integer : IntegerType → PlainType
  -- a unit, and a time zone
  timestamp : TimeUnit → Option (List ℕ) → PlainType
  time32 : TimeUnit → PlainType
  time64 : TimeUnit → PlainType
  duration : TimeUnit → PlainType
  interval : IntervalUnit → PlainType
  -- how many bytes a row has
  fixed_size_binary : ℕ → PlainType
  -- precision and scale
  decimal : ℕ → ℕ → PlainType
  decimal256 : ℕ → ℕ → PlainType

-- the forms of lists: offsets of 32 or of 64 bits ("Variable-size List Layout"), a fixed size ("Fixed-Size List Layout"), or a map with its flag for sorted keys
pub data ListForm : Type 0 where
  small : ListForm
  large : ListForm
  fixed_size : ℕ → ListForm
  mapped : Bool → ListForm

-- any type. Nested ones have named children, and a dictionary and an extension another type
mutual
  pub data ArrowType : Type 0 where
    plain : PlainType → ArrowType
    list : ListForm → ArrowField → ArrowType
    -- "Struct Layout"
    struct : ArrowFields → ArrowType
    -- "Union Layout": the type ids of the fields, where they are given, and else 0, 1, 2, ..
    union : UnionMode → Option (List ℤ) → ArrowFields → ArrowType
    -- "Dictionary-encoded Layout": the type of the keys, whether the values are ordered, and their type
    dictionary : IntegerType → Bool → ArrowType → ArrowType
    -- a name, metadata, and the type that it stands on
    extension : List ℕ → Option (List ℕ) → ArrowType → ArrowType

  -- a name, a type, and whether nulls are allowed
  pub data ArrowField : Type 0 where
    field : List ℕ → ArrowType → Bool → ArrowField

  -- the fields of a struct or a union, in order
  pub data ArrowFields : Type 0 where
    no_fields : ArrowFields
    more_fields : ArrowField → ArrowFields → ArrowFields

-- the parts of a field
abbrev pub name_in : ArrowField → List ℕ
name_in (field name t nullable) = name

abbrev pub type_in : ArrowField → ArrowType
type_in (field name t nullable) = t

abbrev pub is_nullable_in : ArrowField → Bool
is_nullable_in (field name t nullable) = nullable

-- fields as a list, and back
abbrev pub to_fields : List ArrowField → ArrowFields
to_fields [] = no_fields
to_fields (f ∷ fs) = more_fields f (to_fields fs)

abbrev pub from_fields : ArrowFields → List ArrowField
from_fields no_fields = []
from_fields (more_fields f fs) = f ∷ from_fields fs

-- a type without the extensions around it; those inside it stay ("Extension Types")
abbrev pub logical : ArrowType → ArrowType
logical (extension name metadata t) = logical t
logical t = t
