-- Rows of structs: behind one's own, and what they name of each child.
use Rattle.arrow_growable.proofs.Common.{arith, ◌≡◌, ◌+◌, ◌-◌, ◌*◌, ◌<◌, ◌≤◌, ℕ, suc, Bool, true, false, List, [], ◌∷◌, ◌++◌, Option, length, map, replicate, take, get_or, if◌then◌else◌, refl, ap, sym, ◌∙◌, slice_index_or, length-map, length-replicate, map-append, drop_more, get_or-map, replicate-append-replicate, All-map, ArrowType, part_in, slot_or, mask, masked, Slot, Slots, Null, Parts, no_slots, more_slots, to_slots, null_slot, sliced, map_sliced, bits_of_slice, across, column_length, stacked, struct_items, map_constant, across-sliced, length-stacked, mask-append, mask-part, mask-unset, spread, All, length-append}

-- a child: the null slot of its type, its own rows, and those of the child of a source
pub record Column : Type 0 where
  pub none : Slot
  pub own : List Slot
  pub other : List Slot

-- its own rows with those that are named behind
abbrev pub grown_column : List Bool → ℕ → Column → List Slot
grown_column more i c = c.own ++ spread 1 c.none more (λ k. k) c.other i

-- columns of so many rows each, read across
pub across_long : (n : ℕ) (columns : List (List Slot)) → All (λ c. length c ≡ n) columns → length (across n columns) ≡ n
across_long n [] all = length-replicate n no_slots
across_long n (c ∷ cs) all =
    length-stacked c (across n cs) n (all 0 c (omega arith)) (across_long n cs (λ k d within. all (suc k) d (omega (arith, within))))

-- the first row, and the others
across_next : {A : Type 0} (n : ℕ) (column rest : A → List Slot) (first : A → Slot) (cs : List A) → All (λ c. column c ≡ first c ∷ rest c) cs → across (suc n) (map column cs) ≡ to_slots (map first cs) ∷ across n (map rest cs)
across_next n column rest first [] all = refl
across_next n column rest first (c ∷ cs) all =
    let here : column c ≡ first c ∷ rest c = all 0 c (omega arith) in
    let behind = across_next n column rest first cs (λ k d within. all (suc k) d (omega (arith, within))) in
    λ t. stacked (here t) (behind t)

rows_next : {A : Type 0} (n : ℕ) (other : A → List Slot) (i : ℕ) (cs : List A) → All (λ c. i < length (other c)) cs → across (suc n) (map (λ c. sliced (other c) i (suc n)) cs) ≡ to_slots (map (λ c. get_or (other c) i Null) cs) ∷ across n (map (λ c. sliced (other c) (i + 1) n) cs)
rows_next n other i cs all =
    across_next n (λ c. sliced (other c) i (suc n)) (λ c. sliced (other c) (i + 1) n) (λ c. get_or (other c) i Null) cs (λ k d within. ap (take (suc n)) (drop_more (other (get_or cs k d)) i Null (all k d within)))

spread_next : (none : Slot) (b : Bool) (bits : List Bool) (xs : List Slot) (i : ℕ) → i < length xs → spread 1 none (b ∷ bits) (λ k. k) xs i ≡ (if b then get_or xs i Null else none) ∷ spread 1 none bits (λ k. k) xs (i + 1)
spread_next none true bits xs i within =
    let count : i + 1 - i ≡ 1 = omega arith in
    let first : sliced xs i (i + 1 - i) ≡ get_or xs i Null ∷ [] = ap (sliced xs i) count ∙ ap (take 1) (drop_more xs i Null within) in
    ap (λ ys. ys ++ spread 1 none bits (λ k. k) xs (i + 1)) first
spread_next none false bits xs i within = refl

-- rows that are named: those that are null have null slots, which does not show
row_shown : (b : Bool) (cs : List Column) (i : ℕ) → (if b then Parts (to_slots (map (λ c. if b then get_or c.other i Null else c.none) cs)) else Null) ≡ (if b then Parts (to_slots (map (λ c. get_or c.other i Null) cs)) else Null)
row_shown true cs i = refl
row_shown false cs i = refl

spread_rows : (bits : List Bool) (cs : List Column) (i : ℕ) → All (λ c. i + length bits ≤ length c.other) cs → mask bits (map Parts (across (length bits) (map (λ c. spread 1 c.none bits (λ k. k) c.other i) cs))) ≡ mask bits (map Parts (across (length bits) (map (λ c. sliced c.other i (length bits)) cs)))
spread_rows [] cs i all = refl
spread_rows (b ∷ bits) cs i all =
    let here : All (λ c. i < length c.other) cs = λ k d within. omega (arith, all k d within) in
    let named = across_next (length bits) (λ c. spread 1 c.none (b ∷ bits) (λ k. k) c.other i) (λ c. spread 1 c.none bits (λ k. k) c.other (i + 1)) (λ c. if b then get_or c.other i Null else c.none) cs (λ k d within. spread_next (get_or cs k d).none b bits (get_or cs k d).other i (here k d within)) in
    let there = rows_next (length bits) (λ c. c.other) i cs here in
    let rest = spread_rows bits cs (i + 1) (λ k d within. omega (arith, all k d within)) in
    ap (λ rows. mask (b ∷ bits) (map Parts rows)) named ∙ ((λ t. row_shown b cs i t ∷ rest t) ∙ ap (λ rows. mask (b ∷ bits) (map Parts rows)) (sym there))

-- rows behind rows
stacked-append : (xs ys : List Slot) (rs qs : List Slots) → length xs ≡ length rs → stacked (xs ++ ys) (rs ++ qs) ≡ stacked xs rs ++ stacked ys qs
stacked-append [] ys [] qs same = refl
stacked-append (x ∷ xs) ys (r ∷ rs) qs same =
    ap (λ rows. more_slots x r ∷ rows) (stacked-append xs ys rs qs (omega (arith, same)))
stacked-append xs ys rs qs same = absurd (omega (arith, same))

module _ (behind : Column → List Slot) where
  across-append : (n m : ℕ) (cs : List Column) → All (λ c. length c.own ≡ n) cs → across (n + m) (map (λ c. c.own ++ behind c) cs) ≡ across n (map (λ c. c.own) cs) ++ across m (map behind cs)
  across-append n m [] all = sym (replicate-append-replicate n m no_slots)
  across-append n m (c ∷ cs) all =
      let others : All (λ c. length c.own ≡ n) cs = λ k d within. all (suc k) d (omega (arith, within)) in
      let long = across_long n (map (λ c. c.own) cs) (All-map (λ xs. length xs ≡ n) (λ c. c.own) cs others) in
      ap (stacked (c.own ++ behind c)) (across-append n m cs others) ∙ stacked-append c.own (behind c) (across n (map (λ c. c.own) cs)) (across m (map behind cs)) (omega (arith, all 0 c (omega arith), long))

  rows_behind : (bits more : List Bool) (cs : List Column) → All (λ c. length c.own ≡ length bits) cs → mask (bits ++ more) (map Parts (across (length (bits ++ more)) (map (λ c. c.own ++ behind c) cs))) ≡ mask bits (map Parts (across (length bits) (map (λ c. c.own) cs))) ++ mask more (map Parts (across (length more) (map behind cs)))
  rows_behind bits more cs all =
      let first = across (length bits) (map (λ c. c.own) cs) in
      let rest = across (length more) (map behind cs) in
      let rows : across (length (bits ++ more)) (map (λ c. c.own ++ behind c) cs) ≡ first ++ rest = ap (λ n. across n (map (λ c. c.own ++ behind c) cs)) (length-append bits more) ∙ across-append (length bits) (length more) cs all in
      let long = across_long (length bits) (map (λ c. c.own) cs) (All-map (λ xs. length xs ≡ length bits) (λ c. c.own) cs all) in
      ap (mask (bits ++ more)) (ap (map Parts) rows ∙ map-append Parts first rest) ∙ mask-append bits more (map Parts first) (map Parts rest) (omega (arith, length-map first Parts, long))

-- rows behind one's own
pub fields_appended : (bits more : List Bool) (cs : List Column) (i : ℕ) → All (λ c. length c.own ≡ length bits) cs → All (λ c. i + length more ≤ length c.other) cs → mask (bits ++ more) (map Parts (across (length (bits ++ more)) (map (grown_column more i) cs))) ≡ mask bits (map Parts (across (length bits) (map (λ c. c.own) cs))) ++ mask more (map Parts (across (length more) (map (λ c. sliced c.other i (length more)) cs)))
fields_appended bits more cs i all there =
    rows_behind (λ c. spread 1 c.none more (λ k. k) c.other i) bits more cs all ∙ ap (λ rows. mask bits (map Parts (across (length bits) (map (λ c. c.own) cs))) ++ rows) (spread_rows more cs i there)

-- null rows behind one's own
pub fields_nulls : (bits : List Bool) (cs : List Column) (n : ℕ) → All (λ c. length c.own ≡ length bits) cs → mask (bits ++ replicate n false) (map Parts (across (length (bits ++ replicate n false)) (map (λ c. c.own ++ replicate (n * 1) c.none) cs))) ≡ mask bits (map Parts (across (length bits) (map (λ c. c.own) cs))) ++ replicate n Null
fields_nulls bits cs n all =
    let unset = replicate n false in
    let nulls = map (λ c. replicate (n * 1) c.none) cs in
    let counts = length-replicate n false in
    let long = across_long (length unset) nulls (All-map (λ xs. length xs ≡ length unset) (λ c. replicate (n * 1) c.none) cs (λ k d within. omega (arith, counts, length-replicate (n * 1) (get_or cs k d).none))) in
    rows_behind (λ c. replicate (n * 1) c.none) bits unset cs all ∙ ap (λ rows. mask bits (map Parts (across (length bits) (map (λ c. c.own) cs))) ++ rows) (mask-unset n (map Parts (across (length unset) nulls)) (omega (arith, counts, length-map (across (length unset) nulls) Parts, long)))

-- what a row of a struct names of child f
pub part_at : (ss : List Slot) (f : ℕ) → slot_or Null (to_slots ss) f ≡ get_or ss f Null
part_at (s ∷ ss) (suc f) = part_at ss f
part_at ss f = refl

part_named : (f : ℕ) (u : ArrowType) (b : Bool) (columns : List (List Slot)) (i : ℕ) → f < length columns → part_in f u (if b then Parts (to_slots (map (λ c. get_or c i Null) columns)) else Null) ≡ (if b then get_or (slice_index_or columns f []) i Null else null_slot u)
part_named f u true columns i has =
    part_at (map (λ c. get_or c i Null) columns) f ∙ get_or-map (λ c. get_or c i Null) columns f [] Null has
part_named f u false columns i has = refl

-- what rows of structs name of it
pub field_named : (f : ℕ) (u : ArrowType) (bits : List Bool) (columns : List (List Slot)) (i : ℕ) → f < length columns → All (λ c. i + length bits ≤ length c) columns → map (part_in f u) (mask bits (map Parts (across (length bits) (map (λ c. sliced c i (length bits)) columns)))) ≡ spread 1 (null_slot u) bits (λ k. k) (slice_index_or columns f []) i
field_named f u [] columns i has all = refl
field_named f u (b ∷ bits) columns i has all =
    let column = slice_index_or columns f [] in
    let here : All (λ c. i < length c) columns = λ k d within. omega (arith, all k d within) in
    let there = rows_next (length bits) (λ c. c) i columns here in
    let rest = field_named f u bits columns (i + 1) has (λ k d within. omega (arith, all k d within)) in
    ap (λ rows. map (part_in f u) (mask (b ∷ bits) (map Parts rows))) there ∙ ((λ t. part_named f u b columns i has t ∷ rest t) ∙ sym (spread_next (null_slot u) b bits column i (here f [] has)))

-- and null rows
pub field_of_nulls : (f : ℕ) (u : ArrowType) (n : ℕ) → map (part_in f u) (replicate n Null) ≡ replicate (n * 1) (null_slot u)
field_of_nulls f u n =
    let count : n ≡ n * 1 = omega arith in
    map_constant (part_in f u) n Null ∙ ap (λ k. replicate k (null_slot u)) count

-- as many rows as each column has
pub first_long : (columns : List (List Slot)) (count : ℕ) → 0 < length columns → All (λ c. length c ≡ count) columns → column_length columns ≡ count
first_long [] count some all = absurd (omega (arith, some))
first_long (c ∷ cs) count some all = all 0 c (omega arith)

-- a part of the rows of an array
pub fields_part : (v : Option (List Bool)) (columns : List (List Slot)) (count start n : ℕ) → 0 < length columns → All (λ c. length c ≡ count) columns → start + n ≤ count → mask (bits_of_slice v start n) (map Parts (across n (map (λ c. sliced c start n) columns))) ≡ sliced (masked v (struct_items columns)) start n
fields_part v columns count start n some all within =
    let rows = across (column_length columns) columns in
    let same = first_long columns count some all in
    let long : length rows ≡ count = ap (λ k. length (across k columns)) same ∙ across_long count columns all in
    let part : map Parts (across n (map (λ c. sliced c start n) columns)) ≡ sliced (struct_items columns) start n = ap (map Parts) (across-sliced columns (column_length columns) start n (omega (arith, within, same))) ∙ map_sliced Parts rows start n in
    ap (mask (bits_of_slice v start n)) part ∙ mask-part v (struct_items columns) start n (omega (arith, within, length-map rows Parts, long))
