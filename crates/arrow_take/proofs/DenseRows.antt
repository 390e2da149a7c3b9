-- Rows of a dense union whose children have the rows of their own ids, one behind the other: each row by its rank.
use Rattle.arrow_take.proofs.Common.{arith, ◌≡◌, ◌+◌, ◌<◌, ◌≤◌, ◌^◌, ℕ, zero, suc, ℤ, pos, Bool, true, false, Some, List, [], ◌∷◌, length, map, get_or, take, if◌then◌else◌, refl, ap, sym, subst, ◌∙◌, cond, count_by, range_with_len, int_eq, Decides-int_eq, get_or-map, get_or_default, length-map, length-range_with_len, sum_by-cons, get_or-zip, length-zip, Dense, ArrowType, Fits, dense_part, Slot, Null, Variant, id_at, AnyArray, layout_of, column_of_id, field_ids, rows, mode_in, FitsOffsets, IsInside, field_part, part_of_id, variant_type, FitsPlaces, variant_fits, AreFew, SomeRankPasses, rank_at, ranks, FitsMode, child_rows_of, get_or-map-range_with_len, naturals_back}
use Rattle.arrow_take.proofs.MadeUnions.{KnownRows, MakesUnion, PartsOf, StandAt, column_is, made_fit, made_known, made_rows, made_typed}

-- each row has the id of its place
abbrev HaveIds : List Slot → List ℤ → Type 0
HaveIds made types =
    (i : ℕ) → i < length made → (w : Slot) × (get_or made i Null ≡ Variant (get_or types i (pos 0)) w)

rest_ids : (x : Slot) (made : List Slot) (id : ℤ) (types : List ℤ) → HaveIds (x ∷ made) (id ∷ types) → HaveIds made types
rest_ids x made id types have = λ i within. have (suc i) (omega (arith, within))

same_id : (id : ℤ) → int_eq id id ≡ true
same_id id = (Decides-int_eq id id).1 refl

-- a row in front
in_front : (told : Bool) (v w : Slot) (rest : List Slot) (k : ℕ) → get_or rest k Null ≡ w → k < length rest → (get_or (if told then v ∷ rest else rest) (cond told 1 0 + k) Null ≡ w) × (cond told 1 0 + k < length (if told then v ∷ rest else rest))
in_front true v w rest k is within =
    let at : 1 + k ≡ suc k = omega arith in
    (ap (λ n. get_or (v ∷ rest) n Null) at ∙ is, omega (arith, within))
in_front false v w rest k is within =
    let at : 0 + k ≡ k = omega arith in
    (ap (λ n. get_or rest n Null) at ∙ is, omega (arith, within))

-- the row of an id at its rank among those of its id
pub ranked : (id : ℤ) (made : List Slot) (types : List ℤ) → length types ≡ length made → HaveIds made types → (i : ℕ) (w : Slot) → i < length made → get_or made i Null ≡ Variant id w → (get_or (dense_part id made) (count_by (int_eq id) (take i types)) Null ≡ w) × (count_by (int_eq id) (take i types) < length (dense_part id made))
ranked id (x ∷ made) (other ∷ types) long have zero w within is =
    let here : dense_part id (x ∷ made) ≡ w ∷ dense_part id made = ap (λ y. dense_part id (y ∷ made)) is ∙ ap (λ b. if b then w ∷ dense_part id made else dense_part id made) (same_id id) in
    (ap (λ ys. get_or ys 0 Null) here, omega (arith, ap length here))
ranked id (x ∷ made) (other ∷ types) long have (suc i) w within is =
    let v = (have 0 (omega arith)).0 in
    let here : dense_part id (x ∷ made) ≡ (if int_eq id other then v ∷ dense_part id made else dense_part id made) = ap (λ y. dense_part id (y ∷ made)) (have 0 (omega arith)).1 in
    let count = sum_by-cons (λ z. cond (int_eq id z) 1 0) other (take i types) in
    let next = ranked id made types (omega (arith, long)) (rest_ids x made other types have) i w (omega (arith, within)) is in
    let front = in_front (int_eq id other) v w (dense_part id made) (count_by (int_eq id) (take i types)) next.0 next.1 in
    ((λ j. get_or (here j) (count j) Null) ∙ front.0, omega (arith, count, ap length here, front.1))
ranked id made types long have i w within is = absurd (omega (arith, within, long))

-- as many rows of an id as there are ids
long_front : (told : Bool) (v : Slot) (rest : List Slot) → length (if told then v ∷ rest else rest) ≡ cond told 1 0 + length rest
long_front true v rest = omega arith
long_front false v rest = omega arith

pub part_counted : (id : ℤ) (made : List Slot) (types : List ℤ) → length types ≡ length made → HaveIds made types → length (dense_part id made) ≡ count_by (int_eq id) types
part_counted id [] [] long have = refl
part_counted id (x ∷ made) (other ∷ types) long have =
    let v = (have 0 (omega arith)).0 in
    let here : dense_part id (x ∷ made) ≡ (if int_eq id other then v ∷ dense_part id made else dense_part id made) = ap (λ y. dense_part id (y ∷ made)) (have 0 (omega arith)).1 in
    omega (arith, ap length here, long_front (int_eq id other) v (dense_part id made), sum_by-cons (λ z. cond (int_eq id z) 1 0) other types, part_counted id made types (omega (arith, long)) (rest_ids x made other types have))
part_counted id made types long have = absurd (omega (arith, long))

pub ranks_long : (types : List ℤ) → length (ranks types) ≡ length types
ranks_long types =
    length-map (range_with_len 0 (length types)) (rank_at types) ∙ length-range_with_len 0 (length types)

rank_is : (types : List ℤ) (i : ℕ) → i < length types → get_or (ranks types) i 0 ≡ rank_at types i
rank_is types i within = get_or-map-range_with_len (rank_at types) 0 (length types) i i 0 within (omega arith)

-- rows of a dense union, each of a known id
module _ {t : ArrowType} {made : List Slot} {types : List ℤ} (known : KnownRows t made types) (mode : mode_in t ≡ Dense) where
  have_ids : HaveIds made types
  have_ids i within = ((known.named i within).0, (known.named i within).1)

  part_is : (f : ℕ) → field_part t f made ≡ dense_part (id_at (field_ids t) f) made
  part_is f = ap (λ m. part_of_id m (id_at (field_ids t) f) (variant_type t f) made) mode

  -- a row stands at its rank in what its field has
  ranked_row : (i : ℕ) (within : i < length made) → (get_or (field_part t (known.named i within).2.0 made) (rank_at types i) Null ≡ (known.named i within).0) × (rank_at types i < length (field_part t (known.named i within).2.0 made))
  ranked_row i within =
      let row = known.named i within in
      let part = part_is row.2.0 ∙ ap (λ k. dense_part k made) row.2.2 in
      let at = ranked (get_or types i (pos 0)) made types known.long have_ids i row.0 within row.1 in
      (ap (λ ys. get_or ys (rank_at types i) Null) part ∙ at.0, omega (arith, at.1, ap length part))

  -- too many rows of one id do not fit
  pub ranks_pass : SomeRankPasses types → Fits t made → ⊥
  ranks_pass some fits =
      let inside : some.0 < length made = omega (arith, some.1, known.long) in
      let field = (known.named some.0 inside).2 in
      let few = (variant_fits t field.0 made known.kind.1 field.1 fits).0 in
      let held : length (field_part t field.0 made) ≤ 2 ^ 31 = subst (λ m. FitsPlaces m (length (field_part t field.0 made))) mode few in
      omega (arith, held, some.2, (ranked_row some.0 inside).1)

-- arrays of what each field has
module _ {t : ArrowType} {made : List Slot} {types : List ℤ} {arrays : List AnyArray} (parts : PartsOf t made types arrays) (mode : mode_in t ≡ Dense) where
  abbrev offsets : List ℤ
  offsets = map pos (ranks types)

  -- each offset lies inside the child of its id
  placed : FitsOffsets (field_ids t) (map layout_of arrays) types (Some offsets)
  placed =
      λ i d within.
      let here : i < length types = omega (arith, within, length-zip types offsets) in
      let inside : i < length made = omega (arith, here, parts.known.long) in
      let among : i < length (ranks types) = omega (arith, here, ranks_long types) in
      let place : rank_at types i < length (column_of_id (field_ids t) 0 (get_or types i (pos 0)) (map rows (map layout_of arrays))) = omega (arith, (ranked_row parts.known mode i inside).1, ap length (column_is parts i inside)) in
      let offset : get_or offsets i d.1 ≡ pos (rank_at types i) = get_or-map pos (ranks types) i 0 d.1 among ∙ ap pos (rank_is types i here) in
      let pair = get_or-zip types offsets i d here (omega (arith, among, length-map (ranks types) pos)) in
      subst (λ (row : ℤ × ℤ). IsInside (field_ids t) (map layout_of arrays) row.0 row.1) (sym pair) (subst {A = ℤ × ℤ} (λ row. IsInside (field_ids t) (map layout_of arrays) row.0 row.1) (λ j. (get_or_default types i (pos 0) d.0 here j, sym offset j)) (λ known. place))

  -- are the children of a union of these rows, which fit it
  pub dense_made : AreFew types → length made < 2 ^ 64 → MakesUnion t made types (Some offsets) arrays
  dense_made few counted =
      let standing : StandAt parts (ranks types) = (ranks_long types, λ i within. ap (λ k. get_or (field_part t (parts.known.named i within).2.0 made) k Null) (rank_is types i (omega (arith, within, parts.known.long))) ∙ (ranked_row parts.known mode i within).0) in
      record {
        holds = (parts.known.kind, made_typed parts, subst (λ m. FitsMode m types (Some offsets) (map layout_of arrays)) (sym mode) (length-map (ranks types) pos ∙ ranks_long types), placed, made_known parts);
        rows = made_rows parts (child_rows_of (Some offsets)) (subst (StandAt parts) (sym (naturals_back (ranks types))) standing);
        fits = made_fit parts (λ f. subst (λ m. FitsPlaces m (length (field_part t f made))) (sym mode) (omega (arith, few (id_at (field_ids t) f), ap length (part_is parts.known mode f), part_counted (id_at (field_ids t) f) made types parts.known.long (have_ids parts.known mode)))) counted;
      }
