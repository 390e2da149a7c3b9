-- Lengths and parts of texts and bytes.
use Rattle.std.specs.Prelude.{ℕ, ℤ, pos, negsuc, suc, ◌-◌, min, List, take, drop, length, Option, None, Some, encode_utf8_all}
use Rattle.std.specs.Str.{chars}
use Rattle.arrow_types.specs.Slot.{Slot, Null, Number, Text, Bytes}

-- how many bytes a text has; Null of a null
abbrev pub bytes_of : Slot → Slot
bytes_of (Text b) = Number (pos (length b))
bytes_of _ = Null

-- the place at which a part begins among n units: counted from the front, or from the end where it is negative, and never outside
abbrev pub part_begin : ℤ → ℕ → ℕ
part_begin (pos k) n = min k n
part_begin (negsuc k) n = n - suc k

-- at most so many units, where a length is given
abbrev pub at_most : Option ℕ → List ℕ → List ℕ
at_most None units = units
at_most (Some k) units = take k units

-- the units from the place on, at most so many
abbrev pub cut : ℤ → Option ℕ → List ℕ → List ℕ
cut start len units = at_most len (drop (part_begin start (length units)) units)

-- a part of a text by characters, and of bytes by bytes; Null of a null
abbrev pub part : ℤ → Option ℕ → Slot → Slot
part start len (Text b) = Text (encode_utf8_all (cut start len (chars b)))
part start len (Bytes b) = Bytes (cut start len b)
part start len _ = Null
