-- Fields are less deep than their type.
use Rattle.arrow_take.proofs.Common.{arith, zero, suc, ℕ, max, ◌<◌, ◌≡◌, List, [], ◌∷◌, length, get_or, refl, Field, ArrowField, ArrowFields, field, more_fields, type_in, field_of, fields_of, fields_depth, type_depth}

-- fields are less deep
depth_more : (f : ArrowField) (fs : ArrowFields) → fields_depth (more_fields f fs) ≡ max (suc (type_depth (type_in f))) (fields_depth fs)
depth_more (field name t nullable) fs = refl

pub field_below : (fs : List Field) (k : ℕ) (d : Field) → k < length fs → type_depth (type_in (field_of (get_or fs k d))) < fields_depth (fields_of fs)
field_below [] k d within = absurd (omega (arith, within))
field_below (f ∷ fs) zero d within = omega (arith, depth_more (field_of f) (fields_of fs))
field_below (f ∷ fs) (suc k) d within =
    omega (arith, depth_more (field_of f) (fields_of fs), field_below fs k d (omega (arith, within)))
