-- Arrays of unions, of either mode, that are made of what each field has of the rows.
use Rattle.arrow_take.proofs.Common.{arith, ◌≡◌, ◌<◌, ◌^◌, ℕ, zero, suc, ℤ, pos, Option, List, [], ◌∷◌, length, map, get_or, refl, ap, sym, subst, ◌∙◌, All, zip, get_or-map, get_or_default, length-map, same_lists, map-map, get_or-zip, length-zip, ArrowType, null, plain, Fits, Slot, Null, Variant, IsCarriedAs, AnyArray, any_array_rows, any_array_type, layout_of, column_of_id, field_ids, rows, type_of_layout, union_items, variant_at, field_types, mode_in, IsKnown, child_rows_by, union_rows, field_rows, field_part, variant_type, rows_are, FitsPlaces, fits_variants, ids_apart, AreApart, own_column, HaveParts, HoldsUnion, child_rows_of}
use Rattle.arrow_types.specs.declared.datatypes.physical_type.PhysicalType.TheVariants as physical

-- one row of a union, by its type id and its place
pub item_at : (ids : _) (columns : List (List Slot)) (types : List ℤ) (places : List ℕ) (i : ℕ) (d : ℤ) → i < length types → i < length places → get_or (union_items ids columns types places) i Null ≡ variant_at ids columns (get_or types i d) (get_or places i 0)
item_at ids columns types places i d here there =
    get_or-map (λ row. variant_at ids columns row.0 row.1) (zip types places) i (d, 0) Null (omega (arith, here, there, length-zip types places)) ∙ ap (λ (row : ℤ × ℕ). variant_at ids columns row.0 row.1) (get_or-zip types places i (d, 0) here there)

-- an item that is there
with_item : {A : Type 0} (P : Type 0) (xs : List A) (f : ℕ) → f < length xs → ((x : A) → x ≡ get_or xs f x → P) → P
with_item P [] f within gives = absurd (omega (arith, within))
with_item P (x ∷ xs) zero within gives = gives x refl
with_item P (x ∷ xs) (suc f) within gives = with_item P xs f (omega (arith, within)) gives

-- rows of a type of unions, each of a known id
pub record KnownRows (t : ArrowType) (made : List Slot) (types : List ℤ) : Type 0 where
  pub kind : IsCarriedAs physical.Union t
  pub long : length types ≡ length made
  pub named : (i : ℕ) → i < length made → (w : Slot) × (get_or made i Null ≡ Variant (get_or types i (pos 0)) w) × IsKnown (field_ids t) (length (field_types t)) (get_or types i (pos 0))

-- and arrays of what each field has of them
pub record PartsOf (t : ArrowType) (made : List Slot) (types : List ℤ) (arrays : List AnyArray) : Type 0 where
  pub known : KnownRows t made types
  pub count : length arrays ≡ length (field_types t)
  pub have : HaveParts t made arrays

-- the array of these
pub record MakesUnion (t : ArrowType) (made : List Slot) (types : List ℤ) (offsets : Option (List ℤ)) (arrays : List AnyArray) : Type 0 where
  pub holds : HoldsUnion t types (map layout_of arrays) offsets
  pub rows : union_rows (record { arrow_type = t; types = types; child_rows = child_rows_of offsets; start = 0; children = map layout_of arrays }) ≡ made
  pub fits : Fits t made

module _ {t : ArrowType} {made : List Slot} {types : List ℤ} {arrays : List AnyArray} (parts : PartsOf t made types arrays) where
  abbrev news : List (List Slot)
  news = map rows (map layout_of arrays)

  many : length news ≡ length (field_types t)
  many = length-map (map layout_of arrays) rows ∙ (length-map arrays layout_of ∙ parts.count)

  -- the child of a row's id has what its field has of the rows
  pub column_is : (i : ℕ) (within : i < length made) → column_of_id (field_ids t) 0 (get_or types i (pos 0)) news ≡ field_part t (parts.known.named i within).2.0 made
  column_is i within =
      let known = (parts.known.named i within).2 in
      let there : known.0 < length arrays = omega (arith, known.1, parts.count) in
      let child = with_item (get_or news known.0 [] ≡ field_part t known.0 made) arrays known.0 there (λ a read. field_rows arrays known.0 a there read ∙ (ap any_array_rows read ∙ (parts.have known.0 a there).rows)) in
      let apart = subst (AreApart (field_ids t)) (sym many) (ids_apart t parts.known.kind) in
      ap (λ k. column_of_id (field_ids t) 0 k news) (sym known.2) ∙ (own_column (field_ids t) news known.0 apart (omega (arith, known.1, many)) ∙ child)

  -- a place for each row, at which it stands in what its field has
  abbrev pub StandAt : List ℕ → Type 0
  StandAt places =
      (length places ≡ length types) × ((i : ℕ) (within : i < length made) → get_or (field_part t (parts.known.named i within).2.0 made) (get_or places i 0) Null ≡ (parts.known.named i within).0)

  -- are the children of a union of these rows
  pub made_rows : (child_rows : Option (List ℕ)) → StandAt (child_rows_by child_rows 0 (length types)) → union_rows (record { arrow_type = t; types = types; child_rows = child_rows; start = 0; children = map layout_of arrays }) ≡ made
  made_rows child_rows stand =
      let places = child_rows_by child_rows 0 (length types) in
      let all : length (union_items (field_ids t) news types places) ≡ length made = length-map (zip types places) (λ row. variant_at (field_ids t) news row.0 row.1) ∙ omega (arith, length-zip types places, stand.0, parts.known.long) in
      rows_are (record { arrow_type = t; types = types; child_rows = child_rows; start = 0; children = map layout_of arrays }) ∙ same_lists _ _ all (λ i d within.
      let inside : i < length made = omega (arith, within, all) in
      let here : i < length types = omega (arith, inside, parts.known.long) in
      let stands = ap (λ c. get_or c (get_or places i 0) Null) (column_is i inside) ∙ stand.1 i inside in
      let row = item_at (field_ids t) news types places i (pos 0) here (omega (arith, here, stand.0)) ∙ ap (Variant (get_or types i (pos 0))) stands in
      get_or_default (union_items (field_ids t) news types places) i d Null within ∙ (row ∙ (sym (parts.known.named i inside).1 ∙ get_or_default made i Null d inside)))

  pub made_typed : map type_of_layout (map layout_of arrays) ≡ field_types t
  made_typed =
      map-map type_of_layout layout_of arrays ∙ same_lists _ _ (length-map arrays any_array_type ∙ parts.count) (λ f d within.
      let inside : f < length arrays = omega (arith, within, length-map arrays any_array_type) in
      with_item (get_or (map any_array_type arrays) f d ≡ get_or (field_types t) f d) arrays f inside (λ a read. get_or-map any_array_type arrays f a d inside ∙ ((parts.have f a inside).array_type ∙ get_or_default (field_types t) f (plain null) d (omega (arith, inside, parts.count)))))

  pub made_known : All (IsKnown (field_ids t) (length (map layout_of arrays))) types
  made_known =
      let children : length (field_types t) ≡ length (map layout_of arrays) = sym parts.count ∙ sym (length-map arrays layout_of) in
      λ i d within. subst (λ n. IsKnown (field_ids t) n (get_or types i d)) children (subst (IsKnown (field_ids t) (length (field_types t))) (get_or_default types i (pos 0) d within) (parts.known.named i (omega (arith, within, parts.known.long))).2)

  pub made_fit : ((f : ℕ) → FitsPlaces (mode_in t) (length (field_part t f made))) → length made < 2 ^ 64 → Fits t made
  made_fit few counted =
      fits_variants t made parts.known.kind.1 counted (λ f within.
      let inside : f < length arrays = omega (arith, within, parts.count) in
      (few f, with_item (Fits (variant_type t f) (field_part t f made)) arrays f inside (λ a read. let part = parts.have f a inside in subst {A = ArrowType × List Slot} (λ r. Fits r.0 r.1) (λ j. (part.array_type j, part.rows j)) part.fits)))
