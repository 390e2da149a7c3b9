-- Truth values of which nulls become one or the other.
use Rattle.std.specs.Prelude.{Bool}
use Rattle.arrow_types.specs.Slot.{Slot, Boolean}

-- a truth value as it is, and a null as one that is given
abbrev pub known_or : Bool → Slot → Slot
known_or spare (Boolean b) = Boolean b
known_or spare _ = Boolean spare
