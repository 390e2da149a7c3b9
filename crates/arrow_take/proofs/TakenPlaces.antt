-- Dense unions by index: what each field has of the rows that are named, by their places in its child.
use Rattle.arrow_take.proofs.Common.{arith, ◌≡◌, ◌+◌, ◌<◌, ◌≤◌, ◌⊎◌, inl, inr, ℕ, ℤ, pos, negsuc, Bool, false, true, if◌then◌else◌, ◌++◌, Some, None, Option, List, [], ◌∷◌, length, map, get_or, refl, ap, sym, subst, ◌∙◌, IfSome, unwrap_or, int_eq, Decides-int_eq, get_or-map, get_or_append_left, get_or_default, length-map, eq-or-lt_of_le, get_or-append_seam, slice_get-get_or, Dense, ArrowType, gather, gathered, masked, valid_at, Slot, Null, Number, Variant, id_at, null_slot, FitsRows, length-masked, row_at, AnyArray, layout_of, AreKeys, IsKey, key_in, Layout, field_ids, rows, mode_in, UnionParts, mode_by, row_in, rows_of_field, union_rows, field_part, part_of_id, variant_type, ArePlaces, IsPlace, NamesPart, NamesRows, kept, taken_id, have_id}
use Rattle.arrow_take.proofs.KeptLemmas.{kept_all, kept_gathered}
use Rattle.arrow_take.proofs.TakenVariants.{IsField, TakesUnion, apart, none_stored}

-- a union without offsets has no places to name
pub if_dense : (child_rows : Option (List ℕ)) (A : Type 0) → A → IfSome child_rows (λ _. A)
if_dense None A all = tt
if_dense (Some child_rows) A all = all

pub of_dense : (child_rows : Option (List ℕ)) (A : Type 0) → (child_rows ≡ None → ⊥) → IfSome child_rows (λ _. A) → A
of_dense None A some named = absurd (some refl)
of_dense (Some child_rows) A some named = named

-- the rows of a field are so few
pub field_named : (greatest : ℕ) (children : List Layout) → NamesRows greatest children → (f : ℕ) → f < length children → length (rows_of_field children f) ≤ greatest
field_named greatest [] named f within = absurd (omega (arith, within))
field_named greatest (l ∷ ls) named f within =
    subst (λ xs. length xs ≤ greatest) (sym (get_or-map rows (l ∷ ls) f l [] within)) (named f l within)

-- a union with offsets is dense
pub dense_by : (child_rows : Option (List ℕ)) → (child_rows ≡ None → ⊥) → mode_by child_rows ≡ Dense
dense_by None some = absurd (some refl)
dense_by (Some child_rows) some = refl

-- the places so far, and one more
pub place_next : (p : UnionParts) (indices done : List Slot) (x : Slot) (i : ℕ) → length done ≡ i → ((k : ℕ) → k < i → IfSome (key_in (get_or indices k Null)) (λ n. IsPlace p (Some n) (get_or done k Null))) → IfSome (key_in (get_or indices i Null)) (λ n. IsPlace p (Some n) x) → (k : ℕ) → k < i + 1 → IfSome (key_in (get_or indices k Null)) (λ n. IsPlace p (Some n) (get_or (done ++ x ∷ []) k Null))
place_next p indices done x i long so_far here k within =
    let P = λ (k : ℕ) (o : Slot). IfSome (key_in (get_or indices k Null)) (λ n. IsPlace p (Some n) o) in
    elim (eq-or-lt_of_le {n = k} {m = length done} (omega (arith, within, long))) as (λ (o : (k ≡ length done) ⊎ (k < length done)). P k (get_or (done ++ x ∷ []) k Null)) [
      | inl same ↦ subst (λ j. P j (get_or (done ++ x ∷ []) j Null)) (sym same) (subst (P (length done)) (sym (get_or-append_seam done x [] Null)) (subst (λ j. P j x) (sym long) here))
      | inr less ↦ subst (P k) (sym (get_or_append_left done (x ∷ []) Null k less)) (so_far k (omega (arith, less, long)))
    ]

-- the places of indices that are numbers, under one validity
place_by : (p : UnionParts) (count : ℕ) (z : ℤ) (o : Slot) → IsKey count (Number z) → IfSome (key_in (Number z)) (λ n. IsPlace p (Some n) o) → IsPlace p (key_in (Number z)) o
place_by p count (pos n) o key place = place
place_by p count (negsuc n) o key place = absurd key

under_bit : (p : UnionParts) (count : ℕ) (b : Bool) (s o : Slot) (z : ℤ) → s ≡ Number z → IsKey count (if b then s else Null) → IfSome (key_in (if b then s else Null)) (λ n. IsPlace p (Some n) o) → IsPlace p (key_in (if b then s else Null)) (if b then o else Null)
under_bit p count true s o z is key place =
    subst (λ y. IsPlace p (key_in y) o) (sym is) (place_by p count z o (subst (IsKey count) is key) (subst (λ y. IfSome (key_in y) (λ n. IsPlace p (Some n) o)) is place))
under_bit p count false s o z is key place = refl

pub are_places : (p : UnionParts) → mode_in p.arrow_type ≡ Dense → (count : ℕ) (v : Option (List Bool)) (stored raw : List Slot) → length raw ≡ length stored → FitsRows v (length stored) → AreKeys count (masked v stored) → ((i : ℕ) → i < length stored → (z : ℤ) × (get_or stored i Null ≡ Number z)) → ((i : ℕ) → i < length stored → IfSome (key_in (get_or (masked v stored) i Null)) (λ n. IsPlace p (Some n) (get_or raw i Null))) → ArePlaces p (masked v stored) (Some (masked v raw))
are_places p mode count v stored raw same fits keys numbers each =
    let long = length-masked v stored fits in
    let fits_raw : FitsRows v (length raw) = subst (FitsRows v) (sym same) fits in
    (mode, length-masked v raw fits_raw ∙ (same ∙ sym long), λ i within. (let inside : i < length stored = omega (arith, within, long) in let number = numbers i inside in let row = row_at v stored i fits inside in subst (λ y. IsPlace p (key_in y) (get_or (masked v raw) i Null)) (sym row) (subst (IsPlace p (key_in (if valid_at v i then get_or stored i Null else Null))) (sym (row_at v raw i fits_raw (omega (arith, inside, same)))) (under_bit p count (valid_at v i) (get_or stored i Null) (get_or raw i Null) number.0 number.1 (subst (IsKey count) row (keys i Null within)) (subst (λ y. IfSome (key_in y) (λ n. IsPlace p (Some n) (get_or raw i Null))) row (each i inside))))))

-- the rows that indices name, by their places
module _ {p : UnionParts} {indices : List Slot} {types : List ℤ} (takes : TakesUnion p indices types) (places : List Slot) (are : ArePlaces p indices (Some places)) where
  abbrev t : ArrowType
  t = p.arrow_type

  abbrev row_of : Slot → Slot
  row_of = gathered (union_rows p) t

  abbrev id_of : ℕ → ℤ
  id_of f = id_at (field_ids t) f

  -- a row that an index names: if its id is that of field f, its place names it there
  abbrev IsNamed : Slot → Slot → Type 0
  IsNamed s o =
      (w : Slot) × (row_of s ≡ Variant (taken_id p s) w) × ((f : ℕ) → f < length p.children → int_eq (id_of f) (taken_id p s) ≡ true → (w ≡ gathered (rows_of_field p.children f) (variant_type t f) o) × IsKey (length (rows_of_field p.children f)) o)

  of_field : (id : ℤ) (f g : ℕ) → f < length p.children → g < length p.children → id_of g ≡ id → int_eq (id_of f) id ≡ true → g ≡ f
  of_field id f g within inside same told =
      apart takes.held g f (omega (arith, inside, length-map p.children rows)) (omega (arith, within, length-map p.children rows)) (same ∙ sym ((Decides-int_eq (id_of f) id).0 told))

  none_named : (o : Slot) → o ≡ Null → IsNamed Null o
  none_named o is =
      (null_slot (variant_type t 0), none_stored takes.held, λ f within told. (let same : 0 ≡ f = of_field (id_of 0) f 0 within takes.held.some refl told in ((λ j. gathered (rows_of_field p.children (same j)) (variant_type t (same j)) Null) ∙ ap (gathered (rows_of_field p.children f) (variant_type t f)) (sym is), subst (IsKey (length (rows_of_field p.children f))) (sym is) tt)))

  row_named : (n : ℕ) (o : Slot) → n < length p.types → IsPlace p (Some n) o → IsNamed (Number (pos n)) o
  row_named n o within place =
      let g = place.0 in
      let j = place.1 in
      let is = place.2 in
      let inside = place.3 in
      let here = place.5 in
      let id : id_of g ≡ taken_id p (Number (pos n)) = place.4 ∙ get_or_default p.types n (pos 0) (id_of 0) within in
      let read = ap (λ q. unwrap_or q (null_slot t)) (slice_get-get_or (union_rows p) n Null (omega (arith, within, takes.held.long))) in
      (row_in p.children g j, read ∙ (place.6 ∙ ap (λ k. Variant k (row_in p.children g j)) (sym place.4 ∙ id)), λ f among told. (let same : g ≡ f = of_field (taken_id p (Number (pos n))) f g among inside id told in (sym (ap (λ q. unwrap_or q (null_slot (variant_type t g))) (slice_get-get_or (rows_of_field p.children g) j Null here)) ∙ ((λ k. gathered (rows_of_field p.children (same k)) (variant_type t (same k)) (Number (pos j))) ∙ ap (gathered (rows_of_field p.children f) (variant_type t f)) (sym is)), subst (IsKey (length (rows_of_field p.children f))) (sym is) (subst (λ k. j < length (rows_of_field p.children k)) same here))))

  each_named : (s o : Slot) → IsKey (length p.types) s → IsPlace p (key_in s) o → IsNamed s o
  each_named Null o key place = none_named o place
  each_named (Number (pos n)) o key place = row_named n o key place
  each_named s o key place = absurd key

  named : (i : ℕ) → i < length indices → IsNamed (get_or indices i Null) (get_or places i Null)
  named i within =
      each_named (get_or indices i Null) (get_or places i Null) (takes.keys i Null within) (are.2 i within)

  -- the indices of a field's own rows name what it has of the rows in its child
  pub places_name : (f : ℕ) (q : AnyArray) → IsField p f (layout_of q) → NamesPart p indices f q (kept (have_id (id_of f) types) places)
  places_name f q field =
      let own = kept (have_id (id_of f) types) places in
      let col = rows_of_field p.children f in
      let gathers : gather col own (variant_type t f) ≡ field_part t f (gather (union_rows p) indices t) = ap (λ zs. map (gathered col (variant_type t f)) (kept (map (int_eq (id_of f)) zs) places)) takes.types_are ∙ (kept_gathered (id_of f) col (variant_type t f) row_of (taken_id p) indices places are.1 (λ i inside. (let row = named i inside in (row.0, row.1, λ told. (row.2 f field.within told).0))) ∙ sym (ap (λ m. part_of_id m (id_of f) (variant_type t f) (gather (union_rows p) indices t)) are.0)) in
      let inside : AreKeys (length col) own = kept_all (IsKey (length col)) (have_id (id_of f) types) places (λ i among told.
      let within : i < length indices = omega (arith, among, are.1) in
      let typed : i < length types = omega (arith, within, ap length takes.types_are, length-map indices (taken_id p)) in
      let type : get_or types i (pos 0) ≡ taken_id p (get_or indices i Null) = ap (λ zs. get_or zs i (pos 0)) takes.types_are ∙ get_or-map (taken_id p) indices i Null (pos 0) within in
      let bit : int_eq (id_of f) (taken_id p (get_or indices i Null)) ≡ true = ap (int_eq (id_of f)) (sym type) ∙ (sym (get_or-map (int_eq (id_of f)) types i (pos 0) false typed) ∙ told) in
      ((named i within).2 f field.within bit).1) in
      record {
        inside = subst (λ c. AreKeys (length c) own) field.column inside;
        array_type = field.child_type;
        rows = (λ j. gather (sym field.column j) own (field.child_type j)) ∙ gathers;
        less_deep = field.less_deep;
      }
