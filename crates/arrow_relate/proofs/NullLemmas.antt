-- Rows of two arrays under their validities, where a null on either side gives a null.
use Rattle.std.proofs.Common.{◌≡◌, ◌∙◌, Bool, true, false, Option, Some, None, List, [], ◌∷◌, length, map, arith, ap, subst, sym, refl}
use Rattle.std.proofs.lemmas.List.{length-map}
use Rattle.arrow_types.specs.Relation.{Relation, related}
use Rattle.arrow_types.specs.Rows.{mask, masked}
use Rattle.arrow_types.specs.Slot.{Slot, Null, Boolean}
use Rattle.arrow_memory.specs.Bits.{both_bits}
use Rattle.arrow_flat.specs.Parts.{FitsRows}
use Rattle.arrow_flat.proofs.PartsLemmas.{length-masked}
use Rattle.arrow_flat.specs.RowByRow.{row_by_row}
use Rattle.arrow_flat.specs.Validities.{combined}
use Rattle.arrow_flat.proofs.RowLemmas.{fits_combined, map-masked}
use Rattle.arrow_flat.proofs.RowLemmas.{length-row_by_row}

module _ (give : Slot → Slot → Slot) (left_null : (s : Slot) → give Null s ≡ Null) (right_null : (s : Slot) → give s Null ≡ Null) where
  left_masked : (vs : List Bool) (xs ys : List Slot) → row_by_row give (mask vs xs) ys ≡ mask vs (row_by_row give xs ys)
  left_masked (true ∷ vs) (x ∷ xs) (y ∷ ys) = ap (λ zs. give x y ∷ zs) (left_masked vs xs ys)
  left_masked (false ∷ vs) (x ∷ xs) (y ∷ ys) = λ i. left_null y i ∷ left_masked vs xs ys i
  left_masked vs xs ys = refl

  right_masked : (xs : List Slot) (ws : List Bool) (ys : List Slot) → row_by_row give xs (mask ws ys) ≡ mask ws (row_by_row give xs ys)
  right_masked [] [] ys = refl
  right_masked (x ∷ xs) (true ∷ ws) (y ∷ ys) = ap (λ zs. give x y ∷ zs) (right_masked xs ws ys)
  right_masked (x ∷ xs) (false ∷ ws) (y ∷ ys) = λ i. right_null x i ∷ right_masked xs ws ys i
  right_masked xs ws ys = refl

  both_masked : (vs : List Bool) (xs : List Slot) (ws : List Bool) (ys : List Slot) → row_by_row give (mask vs xs) (mask ws ys) ≡ mask (both_bits vs ws) (row_by_row give xs ys)
  both_masked (b ∷ vs) [] [] ys = refl
  both_masked (true ∷ vs) (x ∷ xs) (true ∷ ws) (y ∷ ys) = ap (λ zs. give x y ∷ zs) (both_masked vs xs ws ys)
  both_masked (true ∷ vs) (x ∷ xs) (false ∷ ws) (y ∷ ys) = λ i. right_null x i ∷ both_masked vs xs ws ys i
  both_masked (false ∷ vs) (x ∷ xs) (true ∷ ws) (y ∷ ys) = λ i. left_null y i ∷ both_masked vs xs ws ys i
  both_masked (false ∷ vs) (x ∷ xs) (false ∷ ws) (y ∷ ys) = λ i. left_null Null i ∷ both_masked vs xs ws ys i
  both_masked vs xs ws ys = refl

  pub masked_rows : (v w : Option (List Bool)) (xs ys : List Slot) → row_by_row give (masked v xs) (masked w ys) ≡ masked (combined v w) (row_by_row give xs ys)
  masked_rows None None xs ys = refl
  masked_rows None (Some ws) xs ys = right_masked xs ws ys
  masked_rows (Some vs) None xs ys = left_masked vs xs ys
  masked_rows (Some vs) (Some ws) xs ys = both_masked vs xs ws ys

-- so it is of a relation

pub null_left : (op : Relation) (s : Slot) → related op Null s ≡ Null
null_left op s = refl

pub null_right : (op : Relation) (s : Slot) → related op s Null ≡ Null
null_right op Null = refl
null_right op s = refl

-- of two arrays, from what is stored
pub related_masked : (op : Relation) (v w : Option (List Bool)) (xs ys : List Slot) (bits : List Bool) → map Boolean bits ≡ row_by_row (related op) xs ys → masked (combined v w) (map Boolean bits) ≡ row_by_row (related op) (masked v xs) (masked w ys)
related_masked op v w xs ys bits stored =
    ap (masked (combined v w)) stored ∙ sym (masked_rows (related op) (null_left op) (null_right op) v w xs ys)

-- and of an array and a value
pub related_scalar : (op : Relation) (v : Option (List Bool)) (xs : List Slot) (r : Slot) (bits : List Bool) → map Boolean bits ≡ map (λ s. related op s r) xs → masked v (map Boolean bits) ≡ map (λ s. related op s r) (masked v xs)
related_scalar op v xs r bits stored =
    ap (masked v) stored ∙ sym (map-masked (λ s. related op s r) (null_left op r) v xs)

-- with as many rows on both sides there is a bit for each
pub long_related : (op : Relation) (v w : Option (List Bool)) (xs ys : List Slot) (bits : List Bool) → FitsRows v (length xs) → FitsRows w (length ys) → length (masked v xs) ≡ length (masked w ys) → map Boolean bits ≡ row_by_row (related op) xs ys → (length xs ≡ length ys) × (length bits ≡ length xs)
long_related op v w xs ys bits fits other as_many stored =
    let same : length xs ≡ length ys = omega (arith, as_many, length-masked v xs fits, length-masked w ys other) in
    (same, sym (length-map bits Boolean) ∙ (ap length stored ∙ length-row_by_row (related op) xs ys same))

pub fits_related : (op : Relation) (v w : Option (List Bool)) (xs ys : List Slot) (bits : List Bool) → FitsRows v (length xs) → FitsRows w (length ys) → length (masked v xs) ≡ length (masked w ys) → map Boolean bits ≡ row_by_row (related op) xs ys → FitsRows (combined v w) (length bits)
fits_related op v w xs ys bits fits other as_many stored =
    let long = long_related op v w xs ys bits fits other as_many stored in
    subst (FitsRows (combined v w)) (sym long.1) (fits_combined v w (length xs) fits (subst (FitsRows w) (sym long.0) other))
