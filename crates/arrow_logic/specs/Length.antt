-- Lengths of texts: of which types they are asked, and what is stored.
use Rattle.std.specs.Prelude.{◌≡◌, ◌<◌, ℕ, ◌+◌, ◌==◌, pos, Bool, Option, List, [], length, IfSome}
use Rattle.std.specs.Int.{bit_at}
use Rattle.arrow_types.specs.declared.datatypes.IntegerType.TheVariants.{Int32, Int64}
use Rattle.arrow_types.specs.declared.error.ArgumentFault.TheVariants.{LengthType}
use Rattle.arrow_types.specs.declared.error.Error.{Error}
use Rattle.arrow_types.specs.declared.error.Error.TheVariants.{InvalidArgumentError, OutOfMemory}
use Rattle.arrow_types.specs.ArrowType.{ArrowType, plain, integer, utf8, large_utf8}
use Rattle.arrow_types.specs.Rows.{valid_at}
use Rattle.arrow_types.specs.Slot.{Slot, Number, Text}
use Rattle.arrow_flat.specs.AnyPrimitive.{any_parts}
use Rattle.arrow_arrays.specs.declared.array.any.AnyArray.{AnyArray}
use Rattle.arrow_arrays.specs.declared.array.any.AnyArray.TheVariants.{Primitive}

-- the types of texts; an extension is none
abbrev pub HasLength : ArrowType → Type 0
HasLength (plain utf8) = Unit {0}
HasLength (plain large_utf8) = Unit {0}
HasLength _ = ⊥

-- the type of their lengths: a number of the width of their offsets ("Variable-size Binary Layout")
abbrev pub length_type : ArrowType → ArrowType
length_type (plain large_utf8) = plain (integer Int64)
length_type _ = plain (integer Int32)

-- what is stored of a row: how many bytes a text has, and 0 beneath a null
abbrev pub stored_length : Slot → Slot
stored_length (Text bytes) = Number (pos (length bytes))
stored_length _ = Number (pos 0)

-- the stored values of an array of numbers, one a row, null rows too; none of any other array
abbrev pub stored_numbers : AnyArray → List Slot
stored_numbers (Primitive p) = (any_parts p).values
stored_numbers _ = []

-- a word has the bits of 64 rows from one on, as far as there are rows
abbrev pub HasBitsFrom : ℕ → Option (List Bool) → ℕ → Type 0
HasBitsFrom start validity word =
    (k : ℕ) → k < 64 → IfSome validity (λ bits. start + k < length bits) → (bit_at word k == 1) ≡ valid_at validity (start + k)

-- an error that `length` may answer
abbrev pub IsLengthRefusal : Error → Type 0
IsLengthRefusal (InvalidArgumentError LengthType) = Unit {0}
IsLengthRefusal OutOfMemory = Unit {0}
IsLengthRefusal _ = ⊥
