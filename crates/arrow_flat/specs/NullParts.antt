-- An array of the null type as contracts see it: its type and its length ("Null Layout").
use Rattle.std.specs.Prelude.{ℕ, List, replicate, refl}
use Rattle.std.specs.Coded.{Coded, code_by, coded×, coded_ℕ}
use Rattle.arrow_types.specs.ArrowType.{ArrowType}
use Rattle.arrow_types.specs.StoredType.{type_code}
use Rattle.arrow_types.specs.Slot.{Slot, Null}

pub record NullParts : Type 0 where
  pub arrow_type : ArrowType
  pub count : ℕ

-- the code that the logic asks for
abbrev pub null_parts_code : Coded NullParts
null_parts_code =
    code_by (ArrowType × ℕ) (coded× type_code coded_ℕ) (λ p. (p.arrow_type, p.count)) (λ t. record { arrow_type = t.0; count = t.1 }) (λ _. refl)

-- the rows, all null
abbrev pub null_rows : NullParts → List Slot
null_rows p = replicate p.count Null

-- what an array means: its type and its rows
abbrev pub null_meaning : NullParts → ArrowType × List Slot
null_meaning p = (p.arrow_type, null_rows p)
