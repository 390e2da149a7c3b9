-- A scalar as contracts see it: its type and its value, if it is not null.
use Rattle.std.specs.Prelude.{◌≡◌, ℕ, Option, Some, None, IfSome, List, refl}
use Rattle.std.specs.Coded.{Coded, code_by, coded×, coded_option}
use Rattle.arrow_types.specs.ArrowType.{ArrowType, PlainType, plain}
use Rattle.arrow_types.specs.Slot.{Slot, Null}
use Rattle.arrow_types.specs.StoredType.{type_code}

pub record ScalarParts (V : Type 0) : Type 0 where
  pub arrow_type : ArrowType
  pub value : Option V

-- the code that the logic asks for
abbrev pub scalar_code : {V : Type 0} → Coded V → Coded (ScalarParts V)
scalar_code c =
    code_by (ArrowType × Option _) (coded× type_code (coded_option c)) (λ p. (p.arrow_type, p.value)) (λ t. record { arrow_type = t.0; value = t.1 }) (λ _. refl)

-- the slot of a value: Null of none
abbrev pub slot_by : {V : Type 0} → (V → Slot) → Option V → Slot
slot_by slot None = Null
slot_by slot (Some x) = slot x

-- the parts of a text or of bytes: the type by its kind and offsets, and bytes that are as the kind asks
pub record IsByteScalar (t : PlainType) (Allows : List ℕ → Type 0) (p : ScalarParts (List ℕ)) : Type 0 where
  pub kind : p.arrow_type ≡ plain t
  pub value : IfSome p.value Allows
