-- Slots: as a list and back, and those that stand for null.
use Rattle.std.proofs.Common.{◌≡◌, Bool, List, [], ◌∷◌, Option, ℤ, refl, ap}
use Rattle.std.specs.Bool.{Decides}
use Rattle.arrow_types.specs.declared.datatypes.UnionMode.{UnionMode}
use Rattle.arrow_types.specs.declared.datatypes.physical_type.PhysicalType.TheVariants as physical
use Rattle.arrow_types.specs.ArrowType.{ArrowType, ArrowField, ArrowFields, union, extension, field, more_fields, type_in, logical}
use Rattle.arrow_types.specs.Physical.{physical_type_of}
use Rattle.arrow_types.specs.Relation.{Relation, related, same}
use Rattle.arrow_types.specs.SameTree.{same_by-decides}
use Rattle.arrow_types.specs.Slot.{Slot, Slots, Null, Boolean, Variant, no_slots, more_slots, to_slots, from_slots, id_at, null_slot}
use Rattle.arrow_types.specs.StoredSlot.{slot_code}

pub from_slots-to_slots : (xs : List Slot) → from_slots (to_slots xs) ≡ xs
from_slots-to_slots [] = refl
from_slots-to_slots (x ∷ xs) = ap (λ ys. x ∷ ys) (from_slots-to_slots xs)

pub to_slots-from_slots : (ss : Slots) → to_slots (from_slots ss) ≡ ss
to_slots-from_slots no_slots = refl
to_slots-from_slots (more_slots s ss) = ap (λ ys. more_slots s ys) (to_slots-from_slots ss)

-- an extension changes no null slot
pub null_slot-logical : (t : ArrowType) → null_slot (logical t) ≡ null_slot t
null_slot-logical (extension name metadata t) = null_slot-logical t
null_slot-logical t = refl

-- of a union it is the first field's, under the first id
pub null_slot-union : (mode : UnionMode) (ids : Option (List ℤ)) (f : ArrowField) (fs : ArrowFields) → null_slot (union mode ids (more_fields f fs)) ≡ Variant (id_at ids 0) (null_slot (type_in f))
null_slot-union mode ids (field name t nullable) fs = refl

-- and of any other type Null
pub null_slot-no_union : (t : ArrowType) → (physical_type_of t ≡ physical.Union → ⊥) → null_slot t ≡ Null
null_slot-no_union (union mode ids fs) other = absurd (other refl)
null_slot-no_union (extension name metadata t) other = null_slot-no_union t other
null_slot-no_union t other = refl

-- what a relation answers about is not null
related-null : (op : Relation) (r : Slot) → related op Null r ≡ Null
related-null op r = refl

pub related_not_null : (op : Relation) (s r : Slot) (b : Bool) → related op s r ≡ Boolean b → s ≡ Null → ⊥
related_not_null op s r b answer is = cc (related-null op r)

pub same-decides : (s r : Slot) → Decides (same s r) (s ≡ r)
same-decides = same_by-decides slot_code
