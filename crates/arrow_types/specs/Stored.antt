-- How the logic stores the values that contracts see: each as a tree of numbers that gives it back.
use Rattle.std.specs.Prelude.{ℕ, zero, suc, ℤ, pos, negsuc, ◌≡◌, refl, Bool, true, false, Option, None, Some, List, [], ◌∷◌}
use Rattle.std.proofs.Common.{ap}
use base.Stored.{Gv, gnil, gnum, gcons, num}
use Rattle.arrow_types.specs.declared.datatypes.TimeUnit.{TimeUnit}
use Rattle.arrow_types.specs.declared.datatypes.TimeUnit.TheVariants.{Second, Millisecond, Microsecond, Nanosecond}
use Rattle.arrow_types.specs.declared.datatypes.IntervalUnit.{IntervalUnit}
use Rattle.arrow_types.specs.declared.datatypes.IntervalUnit.TheVariants.{YearMonth, DayTime, MonthDayNano}
use Rattle.arrow_types.specs.declared.datatypes.UnionMode.{UnionMode}
use Rattle.arrow_types.specs.declared.datatypes.UnionMode.TheVariants.{Dense, Sparse}
use Rattle.arrow_types.specs.declared.datatypes.IntegerType.{IntegerType}
use Rattle.arrow_types.specs.declared.datatypes.IntegerType.TheVariants.{Int8, Int16, Int32, Int64, UInt8, UInt16, UInt32, UInt64}

abbrev pub store_bool : Bool → Gv
store_bool false = gnum 0
store_bool true = gnum 1

abbrev pub load_bool : Gv → Bool
load_bool (gnum zero) = false
load_bool _ = true

pub load_bool-store_bool : (b : Bool) → load_bool (store_bool b) ≡ b
load_bool-store_bool false = refl
load_bool-store_bool true = refl

abbrev pub store_int : ℤ → Gv
store_int (pos n) = gnum n
store_int (negsuc n) = gcons (gnum n) gnil

abbrev pub load_int : Gv → ℤ
load_int gnil = pos 0
load_int (gnum n) = pos n
load_int (gcons n g) = negsuc (num n)

pub load_int-store_int : (z : ℤ) → load_int (store_int z) ≡ z
load_int-store_int (pos n) = refl
load_int-store_int (negsuc n) = refl

pub load_num-num : (n : ℕ) → num (gnum n) ≡ n
load_num-num n = refl

-- a list, and an option, by what stores its members
module _ {A : Type 0} where
  abbrev pub store_list : (A → Gv) → List A → Gv
  store_list f [] = gnil
  store_list f (x ∷ xs) = gcons (f x) (store_list f xs)

  abbrev pub load_list : (Gv → A) → Gv → List A
  load_list g gnil = []
  load_list g (gnum n) = []
  load_list g (gcons x xs) = g x ∷ load_list g xs

  pub load_list-store_list : (f : A → Gv) (g : Gv → A) → ((x : A) → g (f x) ≡ x) → (xs : List A) → load_list g (store_list f xs) ≡ xs
  load_list-store_list f g h [] = refl
  load_list-store_list f g h (x ∷ xs) = λ i. h x i ∷ load_list-store_list f g h xs i

  abbrev pub store_option : (A → Gv) → Option A → Gv
  store_option f None = gnil
  store_option f (Some x) = gcons (f x) gnil

  abbrev pub load_option : (Gv → A) → Gv → Option A
  load_option g (gcons x y) = Some (g x)
  load_option g _ = None

  pub load_option-store_option : (f : A → Gv) (g : Gv → A) → ((x : A) → g (f x) ≡ x) → (o : Option A) → load_option g (store_option f o) ≡ o
  load_option-store_option f g h None = refl
  load_option-store_option f g h (Some x) = ap Some (h x)

abbrev pub store_name : List ℕ → Gv
store_name = store_list gnum

abbrev pub load_name : Gv → List ℕ
load_name = load_list num

pub load_name-store_name : (ns : List ℕ) → load_name (store_name ns) ≡ ns
load_name-store_name = load_list-store_list gnum num load_num-num

abbrev pub store_metadata : Option (List ℕ) → Gv
store_metadata = store_option store_name

abbrev pub load_metadata : Gv → Option (List ℕ)
load_metadata = load_option load_name

pub load_metadata-store_metadata : (o : Option (List ℕ)) → load_metadata (store_metadata o) ≡ o
load_metadata-store_metadata = load_option-store_option store_name load_name load_name-store_name

abbrev pub store_ids : Option (List ℤ) → Gv
store_ids = store_option (store_list store_int)

abbrev pub load_ids : Gv → Option (List ℤ)
load_ids = load_option (load_list load_int)

pub load_ids-store_ids : (o : Option (List ℤ)) → load_ids (store_ids o) ≡ o
load_ids-store_ids = load_option-store_option (store_list store_int) (load_list load_int) (load_list-store_list store_int load_int load_int-store_int)

abbrev pub store_unit : TimeUnit → Gv
store_unit Second = gnum 0
store_unit Millisecond = gnum 1
store_unit Microsecond = gnum 2
store_unit Nanosecond = gnum 3

abbrev pub load_unit : Gv → TimeUnit
load_unit (gnum zero) = Second
load_unit (gnum (suc zero)) = Millisecond
load_unit (gnum (suc (suc zero))) = Microsecond
load_unit _ = Nanosecond

pub load_unit-store_unit : (x : TimeUnit) → load_unit (store_unit x) ≡ x
load_unit-store_unit Second = refl
load_unit-store_unit Millisecond = refl
load_unit-store_unit Microsecond = refl
load_unit-store_unit Nanosecond = refl

abbrev pub store_interval_unit : IntervalUnit → Gv
store_interval_unit YearMonth = gnum 0
store_interval_unit DayTime = gnum 1
store_interval_unit MonthDayNano = gnum 2

abbrev pub load_interval_unit : Gv → IntervalUnit
load_interval_unit (gnum zero) = YearMonth
load_interval_unit (gnum (suc zero)) = DayTime
load_interval_unit _ = MonthDayNano

pub load_interval_unit-store_interval_unit : (x : IntervalUnit) → load_interval_unit (store_interval_unit x) ≡ x
load_interval_unit-store_interval_unit YearMonth = refl
load_interval_unit-store_interval_unit DayTime = refl
load_interval_unit-store_interval_unit MonthDayNano = refl

abbrev pub store_mode : UnionMode → Gv
store_mode Dense = gnum 0
store_mode Sparse = gnum 1

abbrev pub load_mode : Gv → UnionMode
load_mode (gnum zero) = Dense
load_mode _ = Sparse

pub load_mode-store_mode : (x : UnionMode) → load_mode (store_mode x) ≡ x
load_mode-store_mode Dense = refl
load_mode-store_mode Sparse = refl

abbrev pub store_integer : IntegerType → Gv
store_integer Int8 = gnum 0
store_integer Int16 = gnum 1
store_integer Int32 = gnum 2
store_integer Int64 = gnum 3
store_integer UInt8 = gnum 4
store_integer UInt16 = gnum 5
store_integer UInt32 = gnum 6
store_integer UInt64 = gnum 7

abbrev pub load_integer : Gv → IntegerType
load_integer (gnum zero) = Int8
load_integer (gnum (suc zero)) = Int16
load_integer (gnum (suc (suc zero))) = Int32
load_integer (gnum (suc (suc (suc zero)))) = Int64
load_integer (gnum (suc (suc (suc (suc zero))))) = UInt8
load_integer (gnum (suc (suc (suc (suc (suc zero)))))) = UInt16
load_integer (gnum (suc (suc (suc (suc (suc (suc zero))))))) = UInt32
load_integer _ = UInt64

pub load_integer-store_integer : (x : IntegerType) → load_integer (store_integer x) ≡ x
load_integer-store_integer Int8 = refl
load_integer-store_integer Int16 = refl
load_integer-store_integer Int32 = refl
load_integer-store_integer Int64 = refl
load_integer-store_integer UInt8 = refl
load_integer-store_integer UInt16 = refl
load_integer-store_integer UInt32 = refl
load_integer-store_integer UInt64 = refl
