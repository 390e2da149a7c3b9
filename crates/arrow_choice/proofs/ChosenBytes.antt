-- Texts and bytes that a predicate chooses: which they are, and when there are too many.
use Rattle.arrow_choice.proofs.Common.{arith, ◌≡◌, ◌<◌, ◌≤◌, ◌^◌, ℕ, suc, Bool, true, false, Option, Some, None, List, [], ◌∷◌, length, map, get_or, if◌then◌else◌, refl, ap, sym, subst, sum_by, range_with_len, All, All-map, get_or-range_with_len, length-range_with_len, sum_by-cons, Fits, byte_count, greatest_offset, physical_type_of, chosen, mask, masked, valid_at, Slot, Null, ByteParts, byte_slots, row_bytes, FitsRows, Parts, boolean_rows, rows_by, counts_of, fit_by, null_of, IsBytesType, total, all_chosen, chosen_by, row_chosen}
use Rattle.arrow_choice.proofs.ChosenLemmas.{Chooses}
use Rattle.arrow_choice.proofs.ChosenRows.{length-made, long_made, made_fits, made_rows, spared}

-- all bytes count where none lies beneath a null
module _ (slot : List ℕ → Slot) (counts : (bytes : List ℕ) → byte_count (slot bytes) ≡ length bytes) where
  all_counted : (xs : List (List ℕ)) → sum_by byte_count (map slot xs) ≡ total xs
  all_counted [] = refl
  all_counted (x ∷ xs) =
      omega (arith, sum_by-cons byte_count (slot x) (map slot xs), sum_by-cons length x xs, counts x, all_counted xs)

  some_counted : (bits : List Bool) (xs : List (List ℕ)) → length bits ≡ length xs → ((i : ℕ) → i < length xs → get_or bits i true ≡ false → get_or xs i [] ≡ []) → sum_by byte_count (mask bits (map slot xs)) ≡ total xs
  some_counted [] [] long none = refl
  some_counted (true ∷ bits) (x ∷ xs) long none =
      let rest = some_counted bits xs (omega (arith, long)) (λ i below unset. none (suc i) (omega (arith, below)) unset) in
      omega (arith, sum_by-cons byte_count (slot x) (mask bits (map slot xs)), sum_by-cons length x xs, counts x, rest)
  some_counted (false ∷ bits) (x ∷ xs) long none =
      let rest = some_counted bits xs (omega (arith, long)) (λ i below unset. none (suc i) (omega (arith, below)) unset) in
      omega (arith, sum_by-cons byte_count Null (mask bits (map slot xs)), sum_by-cons length x xs, ap length (none 0 (omega arith) refl), rest)
  some_counted bits xs long none = absurd (omega (arith, long))

  masked_counted : (v : Option (List Bool)) (xs : List (List ℕ)) → FitsRows v (length xs) → ((i : ℕ) → i < length xs → valid_at v i ≡ false → get_or xs i [] ≡ []) → sum_by byte_count (masked v (map slot xs)) ≡ total xs
  masked_counted None xs fits none = all_counted xs
  masked_counted (Some bits) xs fits none = some_counted bits xs fits none

-- an array's rows in place of the parts that they lie in
abbrev pub rows_in : Parts ByteParts → Parts (List (List ℕ))
rows_in p = record { arrow_type = p.arrow_type; validity = p.validity; values = row_bytes p.values }

-- texts or bytes of two arrays of which a predicate chooses, a validity of the rows that are chosen, and how many bytes there may be
pub record ChoosesBytes (slot : List ℕ → Slot) (is_large : Bool) (greatest : ℕ) (p : Parts (List Bool)) (l r : Parts ByteParts) (validity : Option (List Bool)) : Type 0 where
  pub all : Chooses p (rows_in l) (rows_in r) (chosen_by p.values (row_bytes l.values) (row_bytes r.values)) validity
  pub counts : (bytes : List ℕ) → byte_count (slot bytes) ≡ length bytes
  pub kind : IsBytesType is_large (physical_type_of l.arrow_type)
  pub most : greatest ≡ greatest_offset is_large

module _ {slot : List ℕ → Slot} {is_large : Bool} {greatest : ℕ} {p : Parts (List Bool)} {l r : Parts ByteParts} {validity : Option (List Bool)} (s : ChoosesBytes slot is_large greatest p l r validity) where
  abbrev made : List (List ℕ)
  made = all_chosen validity p.values (row_bytes l.values) (row_bytes r.values)

  -- each is a row of a side, or has no byte
  module _ (Allows : List ℕ → Type 0) (none : Allows []) (left : All Allows (row_bytes l.values)) (right : All Allows (row_bytes r.values)) where
    allowed_at : (valid bit : Bool) (i : ℕ) → i < length p.values → Allows (if valid then get_or (if bit then row_bytes l.values else row_bytes r.values) i [] else [])
    allowed_at true true i below = left i [] (omega (arith, below, s.all.long_left))
    allowed_at true false i below = right i [] (omega (arith, below, s.all.long_right))
    allowed_at false bit i below = none

    pub made_allowed : All Allows made
    made_allowed =
        All-map Allows (row_chosen validity p.values (row_bytes l.values) (row_bytes r.values)) (range_with_len 0 (length p.values)) (λ k d among.
        let below : k < length p.values = omega (arith, among, length-range_with_len 0 (length p.values)) in
        let i = get_or (range_with_len 0 (length p.values)) k d in
        allowed_at (valid_at validity i) (get_or p.values i false) i (omega (arith, below, get_or-range_with_len 0 (length p.values) k d below)))

  pub bytes_chosen : masked validity (map slot made) ≡ chosen (boolean_rows p) (rows_by (byte_slots slot) l) (rows_by (byte_slots slot) r) l.arrow_type
  bytes_chosen =
      made_rows s.all slot l.arrow_type (null_of is_large l.arrow_type (physical_type_of l.arrow_type) s.kind refl)

  counted : sum_by byte_count (masked validity (map slot made)) ≡ total made
  counted =
      masked_counted slot s.counts validity made (made_fits s.all) (λ i below. spared s.all i (omega (arith, below, long_made s.all)))

  -- they fit where their bytes do, and else do not
  pub made_fit : length p.values < 2 ^ 64 → total made ≤ greatest → Fits l.arrow_type (chosen (boolean_rows p) (rows_by (byte_slots slot) l) (rows_by (byte_slots slot) r) l.arrow_type)
  made_fit count few =
      subst (Fits l.arrow_type) bytes_chosen (fit_by is_large l.arrow_type (physical_type_of l.arrow_type) s.kind refl (masked validity (map slot made)) (omega (arith, count, length-made s.all slot), omega (arith, few, s.most, counted)))

  pub made_passes : greatest < total made → Fits l.arrow_type (chosen (boolean_rows p) (rows_by (byte_slots slot) l) (rows_by (byte_slots slot) r) l.arrow_type) → ⊥
  made_passes many fit =
      let few = counts_of is_large l.arrow_type (physical_type_of l.arrow_type) s.kind refl (masked validity (map slot made)) (subst (Fits l.arrow_type) (sym bytes_chosen) fit) in
      omega (arith, few.1, s.most, many, counted)
