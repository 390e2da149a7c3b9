-- Rows that a mask keeps of structs and of sparse unions: each field by itself, null where a row is not its own.
use Rattle.arrow_select.proofs.Common.{arith, ◌≡◌, ◌+◌, ◌<◌, ◌≤◌, ◌^◌, ℕ, pos, Bool, true, false, Option, Some, None, List, [], ◌∷◌, length, map, get_or, if◌then◌else◌, refl, ap, sym, subst, ◌∙◌, option_map, unwrap_or, int_eq, length-map, All-cons, All-map, All-nil, slice_get-get_or, map-map, ArrowType, Fits, physical_type_of, null_slot-no_union, gather, gathered, mask, masked, select, Slot, Null, Number, id_at, null_slot, FitsRows, IsValue, length-masked, AnyArray, Kind, any_array_rows, any_array_type, kind_in, layout_of, union_kind, AreKeys, IsKey, columns_of, field_ids, rows, struct_items, to_layouts, FitsColumns, IsStruct, StructParts, struct_rows, UnionParts, union_rows, length-struct_rows, variant_type, places_from, true_places, KeptColumns, KeptUnder, at_set, kept_rows_under, HasPart, taken_id, IsSparse, have_id, MarksTaken, is_taken_valid, named_bit, taken_rows, valid_index, column_long, Stores, length-gather, map-agree, row_taken, fields_fit, fields_taken, taken_fits, field_taken, long, part, part_long, All}
use Rattle.arrow_select.proofs.LawLemmas.{selected_is_gathered}
use Rattle.arrow_select.proofs.SetBytes.{set_by_place}

-- the places at which a mask is true are those of rows
places_below : (i n : ℕ) (mask : List Bool) → i + length mask ≤ n → AreKeys n (map (λ k. Number (pos k)) (places_from i mask))
places_below i n [] within = All-nil (IsKey n)
places_below i n (true ∷ mask) within =
    let here : i < n = omega (arith, within) in
    All-cons (IsKey n) (Number (pos i)) (map (λ k. Number (pos k)) (places_from (i + 1) mask)) here (places_below (i + 1) n mask (omega (arith, within)))
places_below i n (false ∷ mask) within = places_below (i + 1) n mask (omega (arith, within))

pub places_named : (mask : List Bool) (n : ℕ) → length mask ≡ n → AreKeys n (true_places mask)
places_named mask n same = places_below 0 n mask (omega (arith, same))

-- what is set of a list is what stands at these places
set_at_places : {A : Type 0} (ys : List A) (mask : List Bool) (d : A) → length mask ≡ length ys → at_set mask ys ≡ map (λ n. get_or ys n d) (places_from 0 mask)
set_at_places ys mask d same =
    set_by_place (λ n. get_or ys n d) ys mask 0 (λ n within. slice_get-get_or ys n d within) (omega (arith, same))

-- rows that are kept under a validity
under : (xs : List Slot) (u : ArrowType) (b : Bool) (s : Slot) → null_slot u ≡ Null → gathered xs u (if b then s else Null) ≡ (if b then gathered xs u s else Null)
under xs u true s none = refl
under xs u false s none = none

pub kept_under : (v : Option (List Bool)) (mask : List Bool) (xs : List Slot) (u : ArrowType) → null_slot u ≡ Null → length mask ≡ length xs → FitsRows v (length xs) → gather xs (map (valid_index v) (true_places mask)) u ≡ kept_rows_under mask v xs
kept_under v mask xs u none same fits =
    let stores : Stores v xs (gathered xs u) = λ n within valid. slice_get-get_or xs n Null within ∙ ap Some (sym (ap (λ o. unwrap_or o (null_slot u)) (slice_get-get_or xs n Null within))) in
    let each : (s : Slot) → IsKey (length xs) s → gathered xs u (valid_index v s) ≡ gathered (masked v xs) u s = λ s key. under xs u (is_taken_valid v s) s none ∙ row_taken xs u (gathered xs u) none v fits stores s key in
    map-map (gathered xs u) (valid_index v) (true_places mask) ∙ (map-agree (IsKey (length xs)) _ _ each (true_places mask) (places_named mask (length xs) same) ∙ sym (selected_is_gathered (masked v xs) mask u (same ∙ sym (length-masked v xs fits))))

-- and the validity of those that are kept
pub kept_marks : (v kept : Option (List Bool)) (mask : List Bool) → kept ≡ option_map (at_set mask) v → FitsRows v (length mask) → MarksTaken v (true_places mask) kept
kept_marks None kept mask is fits =
    subst (MarksTaken None (true_places mask)) (sym is) (refl, All-map IsValue (λ k. Number (pos k)) (places_from 0 mask) (λ k d within. refl))
kept_marks (Some bits) kept mask is fits =
    subst (MarksTaken (Some bits) (true_places mask)) (sym is) (set_at_places bits mask false (sym fits) ∙ sym (map-map (named_bit bits) (λ k. Number (pos k)) (places_from 0 mask)))

-- an array that is kept of one whose type is no union, which has a validity
pub kept_of : {k : Kind} (mask : List Bool) (v : Option (List Bool)) (column kept : AnyArray) → kind_in (physical_type_of (any_array_type column)) ≡ k → (k ≡ union_kind → ⊥) → any_array_type kept ≡ any_array_type column → any_array_rows kept ≡ kept_rows_under mask v (any_array_rows column) → Fits (any_array_type kept) (any_array_rows kept) → KeptUnder mask v column kept
kept_of mask v column kept kind other type are fit =
    record { array_type = type; rows = are; fits = fit; null = null_slot-no_union (any_array_type column) (λ is. other (sym kind ∙ ap kind_in is)) }

-- structs, each of whose fields is kept under their validity
module _ (p : StructParts) (columns : List AnyArray) (held : IsStruct p) (children : map layout_of columns ≡ p.children) (none : null_slot p.arrow_type ≡ Null) (mask : List Bool) (same : length mask ≡ length (struct_rows p)) (kept : List AnyArray) (are : KeptColumns mask p.validity columns kept) where
  abbrev indices : List Slot
  indices = true_places mask

  keys : AreKeys (length (struct_rows p)) indices
  keys = places_named mask (length (struct_rows p)) same

  of_column : (k : ℕ) (d : AnyArray) → k < length columns → taken_rows (map (valid_index p.validity) indices) (get_or columns k d) ≡ kept_rows_under mask p.validity (any_array_rows (get_or columns k d))
  of_column k d within =
      let count = column_long p columns held children k d within in
      kept_under p.validity mask (any_array_rows (get_or columns k d)) (any_array_type (get_or columns k d)) (are.nulls k d within) (omega (arith, same, count, length-struct_rows p held)) (subst (FitsRows p.validity) (sym count) held.fits.1)

  rows_same : map any_array_rows kept ≡ map (taken_rows (map (valid_index p.validity) indices)) columns
  rows_same =
      are.rows ∙ map-agree (λ c. taken_rows (map (valid_index p.validity) indices) c ≡ kept_rows_under mask p.validity (any_array_rows c)) (λ c. kept_rows_under mask p.validity (any_array_rows c)) (taken_rows (map (valid_index p.validity) indices)) (λ c is. sym is) columns of_column

  module _ (validity : Option (List Bool)) (is : validity ≡ option_map (at_set mask) p.validity) where
    marks : MarksTaken p.validity indices validity
    marks =
        kept_marks p.validity validity mask is (subst (FitsRows p.validity) (sym (same ∙ length-struct_rows p held)) held.fits.1)

    pub struct_kept : masked validity (struct_items (columns_of (to_layouts (map layout_of kept)))) ≡ select mask (struct_rows p)
    struct_kept =
        fields_taken p columns held children none indices keys kept validity rows_same marks ∙ sym (selected_is_gathered (struct_rows p) mask p.arrow_type same)

    pub struct_kept_columns : FitsColumns (map layout_of kept) validity
    struct_kept_columns = taken_fits p columns held children none indices keys kept validity rows_same marks

  pub struct_kept_fits : length (select mask (struct_rows p)) < 2 ^ 64 → Fits p.arrow_type (select mask (struct_rows p))
  struct_kept_fits few =
      let counted : length indices < 2 ^ 64 = omega (arith, few, ap length (selected_is_gathered (struct_rows p) mask p.arrow_type same), length-gather (struct_rows p) indices p.arrow_type) in
      let each : All (λ c. Fits (any_array_type c) (taken_rows (map (valid_index p.validity) indices) c)) columns = λ k d within. subst (Fits (any_array_type (get_or columns k d))) (sym (of_column k d within)) (are.fits k d within) in
      subst (Fits p.arrow_type) (sym (selected_is_gathered (struct_rows p) mask p.arrow_type same)) (fields_fit p columns held children none indices keys counted each)

-- sparse unions, each of whose fields is kept where a row is its own
module _ (p : UnionParts) (held : IsSparse p) (mask : List Bool) (same : length mask ≡ length p.types) where
  abbrev named : List Slot
  named = true_places mask

  pub names_rows : AreKeys (length p.types) named
  names_rows = places_named mask (length p.types) same

  abbrev made : List Slot
  made = gather (union_rows p) named p.arrow_type

  pub made_is : made ≡ select mask (union_rows p)
  made_is =
      sym (selected_is_gathered (union_rows p) mask p.arrow_type (same ∙ sym (long p held named names_rows)))

  pub ids_kept : at_set mask p.types ≡ map (taken_id p) named
  ids_kept =
      set_at_places p.types mask (id_at (field_ids p.arrow_type) 0) same ∙ sym (map-map (taken_id p) (λ k. Number (pos k)) (places_from 0 mask))

  pub field_kept : (f : ℕ) → f < length (map rows p.children) → (column array : AnyArray) → any_array_type column ≡ variant_type p.arrow_type f → any_array_rows column ≡ part p held named names_rows f → KeptUnder mask (Some (have_id (id_at (field_ids p.arrow_type) f) p.types)) column array → HasPart p.arrow_type made f array
  field_kept f within column array type are kept =
      let own = have_id (id_at (field_ids p.arrow_type) f) p.types in
      let count : length (any_array_rows column) ≡ length p.types = ap length are ∙ part_long p held named names_rows f within in
      let by_index = kept_under (Some own) mask (any_array_rows column) (any_array_type column) kept.null (same ∙ sym count) (length-map p.types (int_eq (id_at (field_ids p.arrow_type) f)) ∙ sym count) in
      record {
        array_type = kept.array_type ∙ type;
        rows = kept.rows ∙ (sym by_index ∙ ((λ i. gather (are i) (map (valid_index (Some own)) named) (type i)) ∙ field_taken p held named names_rows f within));
        fits = kept.fits;
      }
