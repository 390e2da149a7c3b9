-- Comparisons of what is stored that are finished by two validities.
use Rattle.std.proofs.Common.{◌≡◌, ◌∙◌, ℕ, get_or, ◌<◌, Bool, true, false, Option, None, List, length, map, replicate, if◌then◌else◌, arith, ap, sym, subst, refl, ◌&&◌, ◌||◌, not, w64, ◌^◌}
use Rattle.std.proofs.lemmas.List.{get_or_default, get_or-map, length-map, length-replicate, same_lists}
use Rattle.std.specs.Prelude.{bit_and, bit_or, slice_get, Some}
use Rattle.std.specs.Int.{bit_not}
use Rattle.std.specs.Int.Bits.{bit_xor}
use Rattle.std.proofs.lemmas.Nat.{or_lt}
use Rattle.std.proofs.lemmas.Option.{slice_get-get_or}
use Rattle.std.proofs.lemmas.List.FromFn.{get_or-map-range_with_len, length-map-range_with_len}
use Rattle.arrow_types.specs.ArrowType.{ArrowType}
use Rattle.arrow_types.specs.Logic.{finished_eq, finished_neq}
use Rattle.arrow_types.specs.Relation.{Relation, related, neq}
use Rattle.arrow_types.specs.Rows.{masked, valid_at}
use Rattle.arrow_types.specs.Slot.{Slot, Null, Boolean}
use Rattle.arrow_flat.specs.Parts.{FitsRows, Parts, boolean_rows}
use Rattle.arrow_flat.proofs.PartsLemmas.{length-masked, row_at}
use Rattle.arrow_flat.specs.RowByRow.{row_by_row}
use Rattle.arrow_memory.proofs.LogicLemmas.{and_each, not_each, or_each}
use Rattle.arrow_relate.specs.Finished.{finished}
use Rattle.arrow_flat.proofs.RowLemmas.{get_or-row_by_row, length-row_by_row}
use Rattle.arrow_relate.proofs.RowLemmas.{row_by_row-replicate}
use Rattle.arrow_relate.proofs.TruthLemmas.{is_one, not_equal_word, relates}

-- ---- one row at a time

pub length-finished : (give : Slot → Bool → Bool → Slot) (rows : List Slot) (v w : Option (List Bool)) → length (finished give rows v w) ≡ length rows
length-finished give rows v w = length-map-range_with_len (λ i. give (get_or rows i Null) (valid_at v i) (valid_at w i)) 0 (length rows)

pub get_or-finished : (give : Slot → Bool → Bool → Slot) (rows : List Slot) (v w : Option (List Bool)) (i : ℕ) (d : Slot) → i < length rows → get_or (finished give rows v w) i d ≡ give (get_or rows i Null) (valid_at v i) (valid_at w i)
get_or-finished give rows v w i d within = get_or-map-range_with_len (λ i. give (get_or rows i Null) (valid_at v i) (valid_at w i)) 0 (length rows) i i d within (omega arith)

-- where bits were compared
pub finished_at : (give : Slot → Bool → Bool → Slot) (bits : List Bool) (v w : Option (List Bool)) (i : ℕ) (b p q : Bool) → i < length bits → b ≡ get_or bits i false → p ≡ valid_at v i → q ≡ valid_at w i → slice_get (finished give (map Boolean bits) v w) i ≡ Some (give (Boolean b) p q)
finished_at give bits v w i b p q within bit left right =
    let rows = map Boolean bits in
    let below : i < length rows = omega (arith, within, length-map bits Boolean) in
    let read = get_or-finished give rows v w i Null below ∙ (λ t. give ((get_or-map Boolean bits i false Null within ∙ ap Boolean (sym bit)) t) (sym left t) (sym right t)) in
    slice_get-get_or (finished give rows v w) i Null (omega (arith, below, length-finished give rows v w)) ∙ ap Some read

-- where all rows are valid
pub finished_valid : (give : Slot → Bool → Bool → Slot) → ((b : Bool) → give (Boolean b) true true ≡ Boolean b) → (bits : List Bool) (v w : Option (List Bool)) → v ≡ None → w ≡ None → map Boolean bits ≡ finished give (map Boolean bits) v w
finished_valid give valid bits v w left right =
    let rows = map Boolean bits in
    rw (left, right) (same_lists rows (finished give rows None None) (sym (length-finished give rows None None)) (λ i d within.
    let below : i < length bits = omega (arith, within, length-map bits Boolean) in
    let read = get_or-map Boolean bits i false Null below in
    get_or-map Boolean bits i false d below ∙ sym (get_or-finished give rows None None i d within ∙ (ap (λ s. give s true true) read ∙ valid (get_or bits i false)))))

-- ---- all rows

-- a null stays, where it gives a null
null_stays : (give : Slot → Bool → Bool → Slot) → ((p q : Bool) → give Null p q ≡ Null) → (valid p q : Bool) (s : Slot) → (if valid then give s p q else Null) ≡ give (if valid then s else Null) p q
null_stays give none true p q s = refl
null_stays give none false p q s = sym (none p q)

pub finished_masked : (give : Slot → Bool → Bool → Slot) → ((p q : Bool) → give Null p q ≡ Null) → (u v w : Option (List Bool)) (rows : List Slot) → FitsRows u (length rows) → masked u (finished give rows v w) ≡ finished give (masked u rows) v w
finished_masked give none u v w rows fits =
    let size = length-finished give rows v w in
    let fits_all : FitsRows u (length (finished give rows v w)) = subst (FitsRows u) (sym size) fits in
    let long = length-masked u (finished give rows v w) fits_all in
    let all = length-masked u rows fits in
    same_lists _ _ (long ∙ (size ∙ (sym all ∙ sym (length-finished give (masked u rows) v w)))) (λ i d within.
    let below : i < length rows = omega (arith, within, long, size) in
    let left = get_or_default (masked u (finished give rows v w)) i d Null within ∙ (row_at u (finished give rows v w) i fits_all (omega (arith, below, size)) ∙ ap (λ s. if valid_at u i then s else Null) (get_or-finished give rows v w i Null below)) in
    let right = get_or-finished give (masked u rows) v w i d (omega (arith, below, all)) ∙ ap (λ s. give s (valid_at v i) (valid_at w i)) (row_at u rows i fits below) in
    left ∙ (null_stays give none (valid_at u i) (valid_at v i) (valid_at w i) (get_or rows i Null) ∙ sym right))

-- a relation of what is stored, finished, and what it tells of rows that are valid or not
module _ (op : Relation) (give : Slot → Bool → Bool → Slot) (tells : Slot → Slot → Slot) (of_row : (p q : Bool) (s r : Slot) (b : Bool) → related op s r ≡ Boolean b → give (Boolean b) p q ≡ tells (if p then s else Null) (if q then r else Null)) where
  pub finished_rows : (v w : Option (List Bool)) (xs ys : List Slot) (bits : List Bool) → FitsRows v (length xs) → FitsRows w (length ys) → length xs ≡ length ys → map Boolean bits ≡ row_by_row (related op) xs ys → finished give (map Boolean bits) v w ≡ row_by_row tells (masked v xs) (masked w ys)
  finished_rows v w xs ys bits fits other same stored =
      let size : length (map Boolean bits) ≡ length xs = ap length stored ∙ length-row_by_row (related op) xs ys same in
      let lefts = length-masked v xs fits in
      let rights = length-masked w ys other in
      let both : length (masked v xs) ≡ length (masked w ys) = omega (arith, lefts, rights, same) in
      let long = length-finished give (map Boolean bits) v w in
      same_lists _ _ (long ∙ (size ∙ (sym lefts ∙ sym (length-row_by_row tells (masked v xs) (masked w ys) both)))) (λ i d within.
      let below : i < length xs = omega (arith, within, long, size) in
      let x = get_or xs i Null in
      let y = get_or ys i Null in
      let b = get_or bits i false in
      let bit : get_or (map Boolean bits) i Null ≡ Boolean b = get_or-map Boolean bits i false Null (omega (arith, below, size, length-map bits Boolean)) in
      let holds : related op x y ≡ Boolean b = sym (get_or-row_by_row (related op) xs ys i Null Null Null below same) ∙ (ap (λ rows. get_or rows i Null) (sym stored) ∙ bit) in
      let left = get_or-finished give (map Boolean bits) v w i d (omega (arith, below, size)) ∙ ap (λ s. give s (valid_at v i) (valid_at w i)) bit in
      let right = get_or-row_by_row tells (masked v xs) (masked w ys) i Null Null d (omega (arith, below, lefts)) both in
      left ∙ (of_row (valid_at v i) (valid_at w i) x y b holds ∙ ((λ t. tells (sym (row_at v xs i fits below) t) (sym (row_at w ys i other (omega (arith, below, same))) t)) ∙ sym right)))

  -- of an array and a value
  pub finished_scalar : (v : Option (List Bool)) (xs : List Slot) (r : Slot) (bits : List Bool) → FitsRows v (length xs) → map Boolean bits ≡ map (λ s. related op s r) xs → finished give (map Boolean bits) v None ≡ map (λ s. tells s r) (masked v xs)
  finished_scalar v xs r bits fits stored =
      let values = replicate (length xs) r in
      finished_rows v None xs values bits fits tt (sym (length-replicate (length xs) r)) (stored ∙ sym (row_by_row-replicate (related op) xs r))
      ∙ (ap (λ n. row_by_row tells (masked v xs) (replicate n r)) (sym (length-masked v xs fits)) ∙ row_by_row-replicate tells (masked v xs) r)

-- ---- each bit of words

same_bit : (e p q : Bool) → Boolean (e && p && q || not (p || q)) ≡ finished_eq (Boolean e) p q
same_bit true true true = refl
same_bit true true false = refl
same_bit true false true = refl
same_bit true false false = refl
same_bit false true true = refl
same_bit false true false = refl
same_bit false false true = refl
same_bit false false false = refl

pub same_bits : (e p q k : ℕ) → p < 2 ^ 64 → q < 2 ^ 64 → k < 64 → Boolean (is_one (bit_or (bit_and (bit_and e p) q) (bit_not w64 (bit_or p q))) k) ≡ finished_eq (Boolean (is_one e k)) (is_one p k) (is_one q k)
same_bits e p q k small other below =
    let valid = and_each (bit_and e p) q k ∙ ap (λ b. b && is_one q k) (and_each e p k) in
    let null = not_each (bit_or p q) k (or_lt 64 p q small other) below ∙ ap not (or_each p q k) in
    ap Boolean (or_each (bit_and (bit_and e p) q) (bit_not w64 (bit_or p q)) k ∙ (λ t. valid t || null t)) ∙ same_bit (is_one e k) (is_one p k) (is_one q k)

differing_bit : (u p q : Bool) → Boolean (u && p && q || relates neq p q) ≡ finished_neq (Boolean u) p q
differing_bit true true true = refl
differing_bit true true false = refl
differing_bit true false true = refl
differing_bit true false false = refl
differing_bit false true true = refl
differing_bit false true false = refl
differing_bit false false true = refl
differing_bit false false false = refl

pub differing_bits : (u p q k : ℕ) → Boolean (is_one (bit_or (bit_and (bit_and u p) q) (bit_xor p q)) k) ≡ finished_neq (Boolean (is_one u k)) (is_one p k) (is_one q k)
differing_bits u p q k =
    let valid = and_each (bit_and u p) q k ∙ ap (λ b. b && is_one q k) (and_each u p k) in
    ap Boolean (or_each (bit_and (bit_and u p) q) (bit_xor p q) k ∙ (λ t. valid t || not_equal_word p q k t)) ∙ differing_bit (is_one u k) (is_one p k) (is_one q k)

-- ---- an array whose bits are finished

-- there is a bit for each row
pub fits_finished : (give : Slot → Bool → Bool → Slot) (u v w : Option (List Bool)) (values bits : List Bool) → FitsRows u (length (map Boolean values)) → map Boolean bits ≡ finished give (map Boolean values) v w → FitsRows u (length bits)
fits_finished give u v w values bits fits stored =
    subst (FitsRows u) (sym (sym (length-map bits Boolean) ∙ (ap length stored ∙ length-finished give (map Boolean values) v w))) fits

-- and a null of what was compared stays
pub rows_finished : (give : Slot → Bool → Bool → Slot) → ((p q : Bool) → give Null p q ≡ Null) → (u v w : Option (List Bool)) (values bits : List Bool) → FitsRows u (length (map Boolean values)) → map Boolean bits ≡ finished give (map Boolean values) v w → masked u (map Boolean bits) ≡ finished give (masked u (map Boolean values)) v w
rows_finished give none u v w values bits fits stored =
    ap (masked u) stored ∙ finished_masked give none u v w (map Boolean values) fits

-- ---- from bits alone

pub stored_long : (t : ArrowType) (bits : List Bool) (out : Parts (List Bool)) (n : ℕ) → out ≡ record { arrow_type = t; values = bits; validity = None } → length bits ≡ n → length (boolean_rows out) ≡ n
stored_long t bits out n is long = ap (λ p. length (boolean_rows p)) is ∙ (length-map bits Boolean ∙ long)
