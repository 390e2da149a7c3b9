-- Keys of dictionaries under construction: those of an array grow by the values of the dictionaries before its own ("Dictionary-encoded Layout").
use Rattle.std.specs.Borrow.{Bor}
use Rattle.std.specs.Prelude.{ℕ, ◌≡◌, ◌+◌, ◌-◌, ◌<◌, ◌≤◌, pos, Option, Some, None, List, [], length, map, slice_index_or}
use Rattle.std.specs.List.{AllZip}
use Rattle.arrow_types.specs.declared.datatypes.IntegerType.{IntegerType}
use Rattle.arrow_types.specs.declared.datatypes.IntegerType.TheVariants as integer
use Rattle.arrow_types.specs.declared.datatypes.physical_type.PhysicalType.TheVariants as physical
use Rattle.arrow_types.specs.Physical.{physical_type_of}
use Rattle.arrow_types.specs.Slot.{Slot, Null, Number}
use Rattle.arrow_arrays.specs.KeyedParts.{KeyedParts}
use Rattle.arrow_flat_growable.specs.declared.growable.keys.GrowableKeys.{GrowableKeys}
use Rattle.arrow_flat_growable.specs.declared.growable.keys.GrowableKeys.TheVariants.{Int8, Int16, Int32, Int64, UInt8, UInt16, UInt32, UInt64}

-- each key by its slot
abbrev pub key_slots : GrowableKeys → List Slot
key_slots (Int8 keys) = map Number keys.1
key_slots (Int16 keys) = map Number keys.1
key_slots (Int32 keys) = map Number keys.1
key_slots (Int64 keys) = map Number keys.1
key_slots (UInt8 keys) = map (λ n. Number (pos n)) keys.1
key_slots (UInt16 keys) = map (λ n. Number (pos n)) keys.1
key_slots (UInt32 keys) = map (λ n. Number (pos n)) keys.1
key_slots (UInt64 keys) = map (λ n. Number (pos n)) keys.1

-- the keys of each array that they grow by, beneath nulls too
abbrev pub key_sources : GrowableKeys → List (List Slot)
key_sources (Int8 keys) = map (map Number) keys.0
key_sources (Int16 keys) = map (map Number) keys.0
key_sources (Int32 keys) = map (map Number) keys.0
key_sources (Int64 keys) = map (map Number) keys.0
key_sources (UInt8 keys) = map (map (λ n. Number (pos n))) keys.0
key_sources (UInt16 keys) = map (map (λ n. Number (pos n))) keys.0
key_sources (UInt32 keys) = map (map (λ n. Number (pos n))) keys.0
key_sources (UInt64 keys) = map (map (λ n. Number (pos n))) keys.0

-- an array whose keys are of a type
abbrev pub HasKeys : IntegerType → Bor KeyedParts → Type 0
HasKeys key_type array = physical_type_of array.now.arrow_type ≡ physical.Dictionary key_type

-- what is stored for a key: itself, and whatever where it is null
abbrev pub StoresKey : Slot → Option ℕ → Type 0
StoresKey stored (Some n) = stored ≡ Number (pos n)
StoresKey stored None = Unit {0}

abbrev pub StoresKeys : List Slot → List (Option ℕ) → Type 0
StoresKeys = AllZip StoresKey

-- keys of which the i-th source stores each
abbrev pub StoresAt : List (List Slot) → ℕ → List (Option ℕ) → Type 0
StoresAt sources i keys = (i < length sources) × StoresKeys (slice_index_or sources i []) keys

-- the keys of an array
abbrev pub BindsKeys : List (List Slot) → ℕ → KeyedParts → Type 0
BindsKeys sources i array = StoresAt sources i array.keys

-- the type of the keys, as a dictionary's type names it
abbrev pub grown_key_type : GrowableKeys → IntegerType
grown_key_type (Int8 keys) = integer.Int8
grown_key_type (Int16 keys) = integer.Int16
grown_key_type (Int32 keys) = integer.Int32
grown_key_type (Int64 keys) = integer.Int64
grown_key_type (UInt8 keys) = integer.UInt8
grown_key_type (UInt16 keys) = integer.UInt16
grown_key_type (UInt32 keys) = integer.UInt32
grown_key_type (UInt64 keys) = integer.UInt64

-- what lies beneath a null
abbrev pub zero_key : Slot
zero_key = Number (pos 0)

-- a key behind so many values
abbrev pub grown_key : ℕ → Slot → Slot
grown_key by (Number (pos k)) = Number (pos (k + by))
grown_key by _ = zero_key

-- a key that is at most the greatest behind so many values, or a null
abbrev pub KeyFits : ℕ → ℕ → Slot → Type 0
KeyFits greatest by (Number (pos k)) = k + by ≤ greatest
KeyFits greatest by _ = Unit {0}

-- how many keys from 0 on are at most the greatest behind so many values
abbrev pub fitting_keys : ℕ → ℕ → ℕ
fitting_keys greatest by = greatest + 1 - by

-- one that passes the greatest, and would not by itself
abbrev pub PassesGreatest : ℕ → ℕ → Slot → Type 0
PassesGreatest greatest by (Number (pos k)) = (0 < by) × (greatest < k + by)
PassesGreatest greatest by _ = ⊥

-- some of the rows start to start + len does
abbrev pub SomePasses : ℕ → ℕ → List Slot → ℕ → ℕ → Type 0
SomePasses greatest by keys start len =
    (j : ℕ) × (start ≤ j) × (j < start + len) × PassesGreatest greatest by (slice_index_or keys j Null)
