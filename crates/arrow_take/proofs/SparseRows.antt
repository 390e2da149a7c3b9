-- Rows of a sparse union, by their type ids and what each field has of them: they fit where that does.
use Rattle.arrow_take.proofs.Common.{arith, ◌≡◌, ◌+◌, ◌<◌, ◌^◌, ◌⊎◌, inl, inr, ℕ, ℤ, pos, None, List, [], ◌∷◌, ◌++◌, length, map, get_or, if◌then◌else◌, ap, sym, subst, ◌∙◌, All, range_with_len, Decides-int_eq, get_or-map, get_or_append_left, length-append, length-map, get_or-range_with_len, length-range_with_len, eq-or-lt_of_le, get_or-append_seam, Sparse, ArrowType, Fits, sparse_part, Slot, Null, Variant, id_at, null_slot, IsCarriedAs, AnyArray, layout_of, field_ids, rows, type_of_layout, HaveRows, field_types, mode_in, IsKnown, union_rows, field_part, part_of_id, variant_type, FitsPlaces, HasPart, HaveParts, All-map}
use Rattle.arrow_types.specs.declared.datatypes.physical_type.PhysicalType.TheVariants as physical
use Rattle.arrow_take.proofs.MadeUnions.{PartsOf, StandAt, made_fit, made_known, made_rows, made_typed}

-- one array more
pub parts_next : (t : ArrowType) (xs : List Slot) (done : List AnyArray) (x : AnyArray) → HaveParts t xs done → HasPart t xs (length done) x → HaveParts t xs (done ++ x ∷ [])
parts_next t xs done x have part =
    λ f d within.
    elim (eq-or-lt_of_le {n = f} {m = length done} (omega (arith, within, length-append done (x ∷ [])))) as (λ (o : (f ≡ length done) ⊎ (f < length done)). HasPart t xs f (get_or (done ++ x ∷ []) f d)) [
      | inl same ↦ subst (λ k. HasPart t xs k (get_or (done ++ x ∷ []) k d)) (sym same) (subst (HasPart t xs (length done)) (sym (get_or-append_seam done x [] d)) part)
      | inr less ↦ subst (HasPart t xs f) (sym (get_or_append_left done (x ∷ []) d f less)) (have f d less)
    ]

-- rows of a sparse union, each of a known id
module _ (t : ArrowType) (kind : IsCarriedAs physical.Union t) (mode : mode_in t ≡ Sparse) (made : List Slot) (types : List ℤ) (long : length types ≡ length made) (named : (i : ℕ) → i < length made → (w : Slot) × (get_or made i Null ≡ Variant (get_or types i (pos 0)) w) × IsKnown (field_ids t) (length (field_types t)) (get_or types i (pos 0))) where
  abbrev id_of : ℕ → ℤ
  id_of f = id_at (field_ids t) f

  part_is : (f : ℕ) → field_part t f made ≡ map (sparse_part (id_of f) (variant_type t f)) made
  part_is f = ap (λ m. part_of_id m (id_of f) (variant_type t f) made) mode

  -- arrays of what each field has
  module _ (arrays : List AnyArray) (count : length arrays ≡ length (field_types t)) (have : HaveParts t made arrays) where
    abbrev parts : PartsOf t made types arrays
    parts = record { known = record { kind = kind; long = long; named = named }; count = count; have = have }

    -- each row stands beside the union's own in the child of its field
    stands : StandAt parts (range_with_len 0 (length types))
    stands = (
      length-range_with_len 0 (length types),
      λ i within.
          let row = named i within in
          let g = row.2.0 in
          let at : 0 + i ≡ i = omega arith in
          let place = get_or-range_with_len 0 (length types) i 0 (omega (arith, within, long)) ∙ at in
          let told = (Decides-int_eq (id_of g) (get_or types i (pos 0))).1 row.2.2 in
          (λ j. get_or (part_is g j) (place j) Null) ∙ (get_or-map (sparse_part (id_of g) (variant_type t g)) made i Null Null within ∙ (ap (sparse_part (id_of g) (variant_type t g)) row.1 ∙ ap (λ b. if b then row.0 else null_slot (variant_type t g)) told)),
    )

    -- are the children of a union of these rows
    pub arrays_rows : union_rows (record { arrow_type = t; types = types; child_rows = None; start = 0; children = map layout_of arrays }) ≡ made
    arrays_rows = made_rows parts None stands

    pub arrays_typed : map type_of_layout (map layout_of arrays) ≡ field_types t
    arrays_typed = made_typed parts

    pub arrays_long : HaveRows (length types) (map layout_of arrays)
    arrays_long =
        All-map (λ l. length (rows l) ≡ length types) layout_of arrays (λ f d within. ap length ((have f d within).rows ∙ part_is f) ∙ (length-map made (sparse_part (id_of f) (variant_type t f)) ∙ sym long))

    pub arrays_known : All (IsKnown (field_ids t) (length (map layout_of arrays))) types
    arrays_known = made_known parts

    pub arrays_fit : length made < 2 ^ 64 → Fits t made
    arrays_fit = made_fit parts (λ f. subst (λ m. FitsPlaces m (length (field_part t f made))) (sym mode) tt)
