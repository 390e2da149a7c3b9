-- Relations of two slots.
use Rattle.std.specs.Prelude.{ℕ, Bool, true, false, List, not, ◌&&◌, if◌then◌else◌}
use Rattle.std.specs.declared.cmp.Ordering.{Ordering}
use Rattle.std.specs.declared.cmp.Ordering.TheVariants.{Less, Equal, Greater}
use Rattle.std.specs.Ordering.{nat_cmp, int_cmp, int_eq}
use Rattle.std.specs.Cmp.Lexicographic.{slice_cmp}
use Rattle.arrow_types.specs.SameTree.{same_by}
use Rattle.arrow_types.specs.StoredSlot.{slot_code}
use Rattle.arrow_types.specs.Slot.{Slot, Null, Boolean, Number, DayTime, MonthDayNano, Bytes, Text, Dict}

-- the six relations of the comparison kernels
pub data Relation : Type 0 where
  eq : Relation
  neq : Relation
  lt : Relation
  lt_eq : Relation
  gt : Relation
  gt_eq : Relation

-- whether a relation holds of two values that compare so
abbrev pub holds : Relation → Ordering → Bool
holds eq Equal = true
holds eq _ = false
holds neq Equal = false
holds neq _ = true
holds lt Less = true
holds lt _ = false
holds lt_eq Greater = false
holds lt_eq _ = true
holds gt Greater = true
holds gt _ = false
holds gt_eq Less = false
holds gt_eq _ = true

-- false comes before true
abbrev pub bool_order : Bool → Bool → Ordering
bool_order false true = Less
bool_order true false = Greater
bool_order _ _ = Equal

-- bytes by the first that differs, unsigned; a beginning comes before what goes on
abbrev pub byte_order : List ℕ → List ℕ → Ordering
byte_order = slice_cmp nat_cmp

-- a relation of values that have equality alone
abbrev pub by_equality : Relation → Bool → Slot
by_equality eq same = Boolean same
by_equality neq same = Boolean (not same)
by_equality _ same = Null

-- Null where a side is Null; else whether the relation holds of the numbers, the truth values, the bytes or the interval parts
abbrev pub related : Relation → Slot → Slot → Slot
related op (Number m) (Number n) = Boolean (holds op (int_cmp m n))
related op (Boolean a) (Boolean b) = Boolean (holds op (bool_order a b))
related op (Text a) (Text b) = Boolean (holds op (byte_order a b))
related op (Bytes a) (Bytes b) = Boolean (holds op (byte_order a b))
related op (DayTime days ms) (DayTime other_days other_ms) =
    by_equality op (int_eq days other_days && int_eq ms other_ms)
related op (MonthDayNano months days ns) (MonthDayNano other_months other_days other_ns) =
    by_equality op (int_eq months other_months && int_eq days other_days && int_eq ns other_ns)
related op _ _ = Null

-- a slot through its dictionaries: the value that the key names, at any depth
abbrev pub through : Slot → Slot
through (Dict s) = through s
through s = s

-- whether two slots are the same: Null is the same as Null alone
abbrev pub same : Slot → Slot → Bool
same = same_by slot_code

-- whether a slot is Null
abbrev pub is_null : Slot → Bool
is_null Null = true
is_null _ = false

-- Null where the left is Null, or where the right is a value that equals it; else the left
abbrev pub nulled : Slot → Slot → Slot
nulled s r = if not (is_null r) && same s r then Null else s
