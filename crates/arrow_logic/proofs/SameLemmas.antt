-- Slots of values: none is null, and two are the same exactly where the values are equal.
use Rattle.arrow_logic.proofs.Common.{◌≡◌, Bool, ap, IsTrue, Decides-like, same_from_decides, related, eq, same, same_by-decides, Slot, Boolean, slot_code, is_value, IsValue, slots_same, ◌↔◌}

-- `==` of the values is the same of their slots
pub same_slots : {A : Type 0} (slot : A → Slot) (equal : A → A → Bool) → ((x y : A) → related eq (slot x) (slot y) ≡ Boolean (equal x y)) → ((x y : A) → IsTrue (equal x y) ↔ (x ≡ y)) → (x y : A) → same (slot x) (slot y) ≡ equal x y
same_slots slot equal answers decides x y =
    same_from_decides (same (slot x) (slot y)) (equal x y) (same_by-decides slot_code (slot x) (slot y)) (Decides-like (equal x y) (λ e. ap slot e) (slots_same slot equal answers decides x y) (decides x y))

-- the slot of a value is not null
pub slot_is_value : {A : Type 0} (slot : A → Slot) (equal : A → A → Bool) → ((x y : A) → related eq (slot x) (slot y) ≡ Boolean (equal x y)) → (x : A) → IsValue (slot x)
slot_is_value slot equal answers x = is_value (slot x) (equal x x) (answers x x)
