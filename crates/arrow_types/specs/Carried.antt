-- The types whose arrays are carried: those of Arrow's columnar format without floats, without nested types that have no field, and without sizes of 0.
use Rattle.std.specs.Prelude.{◌≡◌, ◌≢◌, ℕ, ◌≤◌, ◌<◌, ℤ, pos, ◌≤ℤ◌, Option, Some, None, List, length, All, AllPairs}
use Rattle.arrow_types.specs.declared.types.PrimitiveType.{PrimitiveType}
use Rattle.arrow_types.specs.declared.types.PrimitiveType.TheVariants as primitive
use Rattle.arrow_types.specs.ArrowType.{ArrowType, ArrowFields, PlainType, ListForm, plain, list, struct, union, dictionary, extension, field, no_fields, more_fields, float16, float32, float64, fixed_size_binary, fixed_size, mapped, from_fields, logical}

-- no float, and no bytes of a fixed size of 0
abbrev pub IsCarriedPlain : PlainType → Type 0
IsCarriedPlain float16 = ⊥
IsCarriedPlain float32 = ⊥
IsCarriedPlain float64 = ⊥
IsCarriedPlain (fixed_size_binary size) = 0 < size
IsCarriedPlain _ = Unit {0}

-- an element type that is no float: of these there are arrays
abbrev pub IsCarriedElement : PrimitiveType → Type 0
IsCarriedElement primitive.Float16 = ⊥
IsCarriedElement primitive.Float32 = ⊥
IsCarriedElement primitive.Float64 = ⊥
IsCarriedElement _ = Unit {0}

-- a struct of two fields, as the entries of a map are: a key and a value
abbrev pub IsPair : ArrowType → Type 0
IsPair (struct (more_fields key (more_fields value no_fields))) = Unit {0}
IsPair _ = ⊥

-- a fixed size is not 0, and the child of a map is a struct of two fields, also inside extensions
abbrev pub IsCarriedForm : ListForm → ArrowType → Type 0
IsCarriedForm (fixed_size size) t = 0 < size
IsCarriedForm (mapped sorted) t = IsPair (logical t)
IsCarriedForm _ t = Unit {0}

-- one field at least
abbrev pub HasField : ArrowFields → Type 0
HasField no_fields = ⊥
HasField (more_fields f fs) = Unit {0}

-- a type id is a number from 0 to 127
abbrev pub IsTypeId : ℤ → Type 0
IsTypeId id = (pos 0 ≤ℤ id) × (id ≤ℤ pos 127)

-- type ids of which none comes twice
abbrev pub AreDistinctIds : List ℤ → Type 0
AreDistinctIds ids = AllPairs (λ x y. x ≢ y) ids × All IsTypeId ids

-- the type ids of so many fields: given, they are as many and distinct; not given, they are 0, 1, 2, .., so there are at most 128 fields
abbrev pub AreTypeIds : Option (List ℤ) → ℕ → Type 0
AreTypeIds None count = count ≤ 128
AreTypeIds (Some ids) count = (length ids ≡ count) × AreDistinctIds ids

-- no float anywhere, a field at least in each struct and union, sizes of at least 1, maps of pairs, and type ids as the format has them
abbrev mutual
  pub IsCarried : ArrowType → Type 0
  IsCarried (plain p) = IsCarriedPlain p
  IsCarried (list form (field name t nullable)) = IsCarriedForm form t × IsCarried t
  IsCarried (struct fs) = HasField fs × AreCarried fs
  IsCarried (union mode ids fs) = AreTypeIds ids (length (from_fields fs)) × (HasField fs × AreCarried fs)
  IsCarried (dictionary keys ordered t) = IsCarried t
  IsCarried (extension name metadata t) = IsCarried t

  -- the types of all fields are carried
  pub AreCarried : ArrowFields → Type 0
  AreCarried no_fields = Unit {0}
  AreCarried (more_fields (field name t nullable) fs) = IsCarried t × AreCarried fs
