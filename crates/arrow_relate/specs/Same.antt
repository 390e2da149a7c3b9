-- Whether two rows are the same, as rows.
use Rattle.std.specs.Prelude.{not}
use Rattle.arrow_types.specs.Relation.{same}
use Rattle.arrow_types.specs.Slot.{Slot, Boolean}

-- whether two rows are the same: Null is the same as Null alone
abbrev pub is_same : Slot → Slot → Slot
is_same s r = Boolean (same s r)

-- whether they are not
abbrev pub differs : Slot → Slot → Slot
differs s r = Boolean (not (same s r))
