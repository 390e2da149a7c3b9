-- Rows with others in the place of nulls.
use Rattle.std.specs.Prelude.{if◌then◌else◌}
use Rattle.gevaindy.specs.Relation.{is_null}
use Rattle.gevaindy.specs.Slot.{Slot}

-- a row, or, where it is null, another one
abbrev pub or_else : Slot → Slot → Slot
or_else x y = if is_null x then y else x
