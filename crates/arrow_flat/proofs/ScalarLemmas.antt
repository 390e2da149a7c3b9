-- Scalars, and whether they are null.
use Rattle.std.proofs.Common.{◌≡◌, not, Option, Some, None, refl}
use Rattle.std.specs.Prelude.{is_some}
use Rattle.arrow_types.specs.Relation.{is_null}
use Rattle.arrow_types.specs.Slot.{Slot}
use Rattle.arrow_flat.specs.Parts.{IsValue}
use Rattle.arrow_flat.specs.Scalars.{slot_by}

-- a scalar with a value is not null
pub valid_scalar : {T : Type 0} (slot : T → Slot) (v : Option T) → ((x : T) → IsValue (slot x)) → is_some v ≡ not (is_null (slot_by slot v))
valid_scalar slot None values = refl
valid_scalar slot (Some x) values = rw (values x) refl
