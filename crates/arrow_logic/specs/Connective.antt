-- The two connectives, and what each logic makes of two rows by one of them.
use Rattle.std.specs.Prelude.{Bool, true, false, not, ◌&&◌, ◌||◌, List, Option, option_map}
use Rattle.arrow_types.specs.Logic.{both, either, kleene_both, kleene_either}
use Rattle.arrow_types.specs.Slot.{Slot, Boolean}
use Rattle.arrow_memory.specs.Bits.{both_bits, either_bits}
use Rattle.arrow_logic.specs.declared.connective.Connective.{Connective}
use Rattle.arrow_logic.specs.declared.connective.Connective.TheVariants.{And, Or}

-- of bits
abbrev pub bits_by : Connective → List Bool → List Bool → List Bool
bits_by And = both_bits
bits_by Or = either_bits

-- of slots, Null where a side is Null
abbrev pub slot_by : Connective → Slot → Slot → Slot
slot_by And = both
slot_by Or = either

-- and in Kleene's logic
abbrev pub kleene_by : Connective → Slot → Slot → Slot
kleene_by And = kleene_both
kleene_by Or = kleene_either

-- the truth value that decides, whatever the other side is
abbrev pub decider : Connective → Bool
decider And = false
decider Or = true

-- whether a row is that value
abbrev pub decides : Connective → Slot → Bool
decides And (Boolean false) = true
decides Or (Boolean true) = true
decides _ _ = false

-- the bits of a validity, and those of the rows at which the other side decides
abbrev pub known_side : Option (List Bool) → List Bool → Option (List Bool)
known_side validity deciding = option_map (λ bits. either_bits bits deciding) validity

-- whether a row of Kleene's logic is known, by the validity and the value of each side
abbrev pub known_bit : Connective → Bool → Bool → Bool → Bool → Bool
known_bit And v x w y = (v || (w && not y)) && (w || (v && not x))
known_bit Or v x w y = (v || (w && y)) && (w || (v && x))
