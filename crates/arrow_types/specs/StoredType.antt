-- How the logic stores a data type: as a tree of numbers that gives it back.
use Rattle.std.specs.Prelude.{zero, suc, ◌≡◌, false, [], refl}
use Rattle.std.proofs.Common.{sym, ap, ◌∙◌}
use base.Stored.{Coded, Gv, gnil, gnum, gcons, num}
use Rattle.arrow_types.specs.Stored.{store_bool, load_bool, load_bool-store_bool, store_name, load_name, load_name-store_name, store_metadata, load_metadata, load_metadata-store_metadata, store_ids, load_ids, load_ids-store_ids, store_unit, load_unit, load_unit-store_unit, store_interval_unit, load_interval_unit, load_interval_unit-store_interval_unit, store_mode, load_mode, load_mode-store_mode, store_integer, load_integer, load_integer-store_integer}
use Rattle.arrow_types.specs.ArrowType.{ArrowType, ArrowField, ArrowFields, PlainType, ListForm, plain, list, struct, union, dictionary, extension, field, no_fields, more_fields, null, boolean, integer, float16, float32, float64, timestamp, date32, date64, time32, time64, duration, interval, binary, large_binary, utf8, large_utf8, fixed_size_binary, decimal, decimal256, small, large, fixed_size, mapped}

abbrev pub store_plain : PlainType → Gv
store_plain null = gnum 0
store_plain boolean = gnum 1
store_plain float16 = gnum 2
store_plain float32 = gnum 3
store_plain float64 = gnum 4
store_plain date32 = gnum 5
store_plain date64 = gnum 6
store_plain binary = gnum 7
store_plain large_binary = gnum 8
store_plain utf8 = gnum 9
store_plain large_utf8 = gnum 10
store_plain (integer k) = gcons (gnum 0) (store_integer k)
store_plain (timestamp u zone) = gcons (gnum 1) (gcons (store_unit u) (store_metadata zone))
store_plain (time32 u) = gcons (gnum 2) (store_unit u)
store_plain (time64 u) = gcons (gnum 3) (store_unit u)
store_plain (duration u) = gcons (gnum 4) (store_unit u)
store_plain (interval u) = gcons (gnum 5) (store_interval_unit u)
store_plain (fixed_size_binary n) = gcons (gnum 6) (gnum n)
store_plain (decimal p s) = gcons (gnum 7) (gcons (gnum p) (gnum s))
store_plain (decimal256 p s) = gcons (gnum 8) (gcons (gnum p) (gnum s))

abbrev pub load_plain : Gv → PlainType
load_plain (gnum (suc zero)) = boolean
load_plain (gnum (suc (suc zero))) = float16
load_plain (gnum (suc (suc (suc zero)))) = float32
load_plain (gnum (suc (suc (suc (suc zero))))) = float64
load_plain (gnum (suc (suc (suc (suc (suc zero)))))) = date32
load_plain (gnum (suc (suc (suc (suc (suc (suc zero))))))) = date64
load_plain (gnum (suc (suc (suc (suc (suc (suc (suc zero)))))))) = binary
load_plain (gnum (suc (suc (suc (suc (suc (suc (suc (suc zero))))))))) = large_binary
load_plain (gnum (suc (suc (suc (suc (suc (suc (suc (suc (suc zero)))))))))) = utf8
load_plain (gnum (suc (suc (suc (suc (suc (suc (suc (suc (suc (suc zero))))))))))) = large_utf8
load_plain (gcons (gnum zero) g) = integer (load_integer g)
load_plain (gcons (gnum (suc zero)) (gcons g h)) = timestamp (load_unit g) (load_metadata h)
load_plain (gcons (gnum (suc (suc zero))) g) = time32 (load_unit g)
load_plain (gcons (gnum (suc (suc (suc zero)))) g) = time64 (load_unit g)
load_plain (gcons (gnum (suc (suc (suc (suc zero))))) g) = duration (load_unit g)
load_plain (gcons (gnum (suc (suc (suc (suc (suc zero)))))) g) = interval (load_interval_unit g)
load_plain (gcons (gnum (suc (suc (suc (suc (suc (suc zero))))))) g) = fixed_size_binary (num g)
load_plain (gcons (gnum (suc (suc (suc (suc (suc (suc (suc zero)))))))) (gcons g h)) = decimal (num g) (num h)
load_plain (gcons (gnum (suc (suc (suc (suc (suc (suc (suc (suc zero))))))))) (gcons g h)) = decimal256 (num g) (num h)
load_plain _ = null

pub load_plain-store_plain : (p : PlainType) → load_plain (store_plain p) ≡ p
load_plain-store_plain null = refl
load_plain-store_plain boolean = refl
load_plain-store_plain float16 = refl
load_plain-store_plain float32 = refl
load_plain-store_plain float64 = refl
load_plain-store_plain date32 = refl
load_plain-store_plain date64 = refl
load_plain-store_plain binary = refl
load_plain-store_plain large_binary = refl
load_plain-store_plain utf8 = refl
load_plain-store_plain large_utf8 = refl
load_plain-store_plain (integer k) = λ i. integer (load_integer-store_integer k i)
load_plain-store_plain (timestamp u zone) = λ i. timestamp (load_unit-store_unit u i) (load_metadata-store_metadata zone i)
load_plain-store_plain (time32 u) = λ i. time32 (load_unit-store_unit u i)
load_plain-store_plain (time64 u) = λ i. time64 (load_unit-store_unit u i)
load_plain-store_plain (duration u) = λ i. duration (load_unit-store_unit u i)
load_plain-store_plain (interval u) = λ i. interval (load_interval_unit-store_interval_unit u i)
load_plain-store_plain (fixed_size_binary n) = refl
load_plain-store_plain (decimal p s) = refl
load_plain-store_plain (decimal256 p s) = refl

abbrev pub store_form : ListForm → Gv
store_form small = gnum 0
store_form large = gnum 1
store_form (fixed_size s) = gcons gnil (gnum s)
store_form (mapped sorted) = gcons (gnum 0) (store_bool sorted)

abbrev pub load_form : Gv → ListForm
load_form (gnum zero) = small
load_form (gcons gnil g) = fixed_size (num g)
load_form (gcons (gnum n) g) = mapped (load_bool g)
load_form _ = large

pub load_form-store_form : (form : ListForm) → load_form (store_form form) ≡ form
load_form-store_form small = refl
load_form-store_form large = refl
load_form-store_form (fixed_size s) = refl
load_form-store_form (mapped sorted) = ap mapped (load_bool-store_bool sorted)

abbrev mutual
  pub store_type : ArrowType → Gv
  store_type (plain p) = gcons (gnum 0) (store_plain p)
  store_type (list form f) = gcons (gnum 1) (gcons (store_form form) (store_field f))
  store_type (struct fs) = gcons (gnum 2) (store_fields fs)
  store_type (union mode ids fs) = gcons (gnum 3) (gcons (store_mode mode) (gcons (store_ids ids) (store_fields fs)))
  store_type (dictionary k ordered t) = gcons (gnum 4) (gcons (store_integer k) (gcons (store_bool ordered) (store_type t)))
  store_type (extension name metadata t) = gcons (gnum 5) (gcons (store_name name) (gcons (store_metadata metadata) (store_type t)))

  pub store_field : ArrowField → Gv
  store_field (field name t nullable) = gcons (store_name name) (gcons (store_bool nullable) (store_type t))

  pub store_fields : ArrowFields → Gv
  store_fields no_fields = gnil
  store_fields (more_fields f fs) = gcons (store_field f) (store_fields fs)

abbrev mutual
  pub load_type : Gv → ArrowType
  load_type (gcons (gnum zero) p) = plain (load_plain p)
  load_type (gcons (gnum (suc zero)) (gcons form f)) = list (load_form form) (load_field f)
  load_type (gcons (gnum (suc (suc zero))) fs) = struct (load_fields fs)
  load_type (gcons (gnum (suc (suc (suc zero)))) (gcons mode (gcons ids fs))) = union (load_mode mode) (load_ids ids) (load_fields fs)
  load_type (gcons (gnum (suc (suc (suc (suc zero))))) (gcons k (gcons ordered t))) = dictionary (load_integer k) (load_bool ordered) (load_type t)
  load_type (gcons (gnum (suc (suc (suc (suc (suc n)))))) (gcons name (gcons metadata t))) = extension (load_name name) (load_metadata metadata) (load_type t)
  load_type _ = plain null

  pub load_field : Gv → ArrowField
  load_field (gcons name (gcons nullable t)) = field (load_name name) (load_type t) (load_bool nullable)
  load_field _ = field [] (plain null) false

  pub load_fields : Gv → ArrowFields
  load_fields gnil = no_fields
  load_fields (gnum n) = no_fields
  load_fields (gcons f fs) = more_fields (load_field f) (load_fields fs)

mutual
  pub load_type-store_type : (t : ArrowType) → load_type (store_type t) ≡ t
  load_type-store_type (plain p) = ap plain (load_plain-store_plain p)
  load_type-store_type (list form f) = λ i. list (load_form-store_form form i) (load_field-store_field f i)
  load_type-store_type (struct fs) = ap struct (load_fields-store_fields fs)
  load_type-store_type (union mode ids fs) = λ i. union (load_mode-store_mode mode i) (load_ids-store_ids ids i) (load_fields-store_fields fs i)
  load_type-store_type (dictionary k ordered t) = λ i. dictionary (load_integer-store_integer k i) (load_bool-store_bool ordered i) (load_type-store_type t i)
  load_type-store_type (extension name metadata t) = λ i. extension (load_name-store_name name i) (load_metadata-store_metadata metadata i) (load_type-store_type t i)

  pub load_field-store_field : (f : ArrowField) → load_field (store_field f) ≡ f
  load_field-store_field (field name t nullable) = λ i. field (load_name-store_name name i) (load_type-store_type t i) (load_bool-store_bool nullable i)

  pub load_fields-store_fields : (fs : ArrowFields) → load_fields (store_fields fs) ≡ fs
  load_fields-store_fields no_fields = refl
  load_fields-store_fields (more_fields f fs) = λ i. more_fields (load_field-store_field f i) (load_fields-store_fields fs i)

-- the codes that the logic asks for, of types and of fields
abbrev pub type_code : Coded ArrowType
type_code =
    record { code = store_type; inj = λ x y p. sym (load_type-store_type x) ∙ (ap load_type p ∙ load_type-store_type y) }

abbrev pub field_code : Coded ArrowField
field_code =
    record { code = store_field; inj = λ x y p. sym (load_field-store_field x) ∙ (ap load_field p ∙ load_field-store_field y) }
