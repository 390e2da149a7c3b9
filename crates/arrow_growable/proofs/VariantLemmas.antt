-- Rows of unions: what each child holds of them, and a run of rows of one field behind others.
use Rattle.arrow_growable.proofs.Common.{arith, ◌≡◌, ◌+◌, ◌<◌, ℕ, suc, ℤ, pos, Bool, true, false, Option, List, [], ◌∷◌, ◌++◌, length, map, replicate, get_or, refl, ap, sym, ◌∙◌, range_with_len, zip, int_eq, Decides-int_eq, append-nil, get_or_append_left, map-append, get_or-append_seam, UnionMode, Dense, Sparse, ArrowType, dense_part, sparse_part, Slot, Null, Variant, id_at, null_slot, dense_part-append, column_of_id, union_items, variant_at, child_row_of, not_told, part_of_id, if◌then◌else◌, All, append_assoc, length-append, zero}

-- numbers behind numbers
pub range-append : (a m n : ℕ) → range_with_len a (m + n) ≡ range_with_len a m ++ range_with_len (a + m) n
range-append a zero n =
    let none : zero + n ≡ n = omega arith in
    let at : a ≡ a + zero = omega arith in
    λ j. range_with_len (at j) (none j)
range-append a (suc m) n =
    let more : suc m + n ≡ suc (m + n) = omega arith in
    let at : a + 1 + m ≡ a + suc m = omega arith in
    ap (range_with_len a) more ∙ ap (λ rest. a ∷ rest) (range-append (a + 1) m n ∙ ap (λ k. range_with_len (a + 1) m ++ range_with_len k n) at)

-- what the child of an id holds

pub part-append : (mode : UnionMode) (id : ℤ) (t : ArrowType) (xs ys : List Slot) → part_of_id mode id t (xs ++ ys) ≡ part_of_id mode id t xs ++ part_of_id mode id t ys
part-append Sparse id t xs ys = map-append (sparse_part id t) xs ys
part-append Dense id t xs ys = dense_part-append id xs ys

same_id : (id : ℤ) → int_eq id id ≡ true
same_id id = (Decides-int_eq id id).1 refl

other_id : (id other : ℤ) → (id ≡ other → ⊥) → int_eq id other ≡ false
other_id id other differ = not_told (int_eq id other) (λ told. differ ((Decides-int_eq id other).0 told))

-- of rows of its own field these
pub part_same : (mode : UnionMode) (id : ℤ) (t : ArrowType) (more : List Slot) → part_of_id mode id t (map (Variant id) more) ≡ more
part_same Sparse id t (x ∷ more) =
    λ j. (if same_id id j then x else null_slot t) ∷ part_same Sparse id t more j
part_same Dense id t (x ∷ more) =
    (λ j. if same_id id j then x ∷ dense_part id (map (Variant id) more) else dense_part id (map (Variant id) more)) ∙ ap (λ ys. x ∷ ys) (part_same Dense id t more)
part_same mode id t more = refl

-- of rows of another field a null slot each, or nothing
abbrev pub others_part : UnionMode → ArrowType → ℕ → List Slot
others_part Sparse t n = replicate n (null_slot t)
others_part Dense t n = []

pub part_other : (mode : UnionMode) (id other : ℤ) (t : ArrowType) (more : List Slot) → (id ≡ other → ⊥) → part_of_id mode id t (map (Variant other) more) ≡ others_part mode t (length more)
part_other Sparse id other t (x ∷ more) differ =
    λ j. (if other_id id other differ j then x else null_slot t) ∷ part_other Sparse id other t more differ j
part_other Dense id other t (x ∷ more) differ =
    (λ j. if other_id id other differ j then x ∷ dense_part id (map (Variant other) more) else dense_part id (map (Variant other) more)) ∙ part_other Dense id other t more differ
part_other mode id other t more differ = refl

-- children that have grown begin with what they held

choose : (told : Bool) (c d : List Slot) (cs ds more rest : List Slot) → d ≡ c ++ more → ds ≡ cs ++ rest → (behind : List Slot) × ((if told then d else ds) ≡ (if told then c else cs) ++ behind)
choose true c d cs ds more rest first others = (more, first)
choose false c d cs ds more rest first others = (rest, others)

pub column_grown : (ids : Option (List ℤ)) (b : ℕ) (id : ℤ) (cols news : List (List Slot)) (more : ℕ → List Slot) → length news ≡ length cols → ((f : ℕ) → f < length cols → get_or news f [] ≡ get_or cols f [] ++ more f) → (behind : List Slot) × (column_of_id ids b id news ≡ column_of_id ids b id cols ++ behind)
column_grown ids b id [] [] more same grown = ([], refl)
column_grown ids b id (c ∷ cs) (d ∷ ds) more same grown =
    let rest = column_grown ids (suc b) id cs ds (λ f. more (suc f)) (omega (arith, same)) (λ f within. grown (suc f) (omega (arith, within))) in
    choose (int_eq (id_at ids b) id) c d (column_of_id ids (suc b) id cs) (column_of_id ids (suc b) id ds) (more 0) rest.0 (grown 0 (omega arith)) rest.1
column_grown ids b id cols news more same grown = absurd (omega (arith, same))

-- rows that lie inside children are as they were where these have grown
kept_pairs : (ids : Option (List ℤ)) (cols news : List (List Slot)) → ((id : ℤ) → (behind : List Slot) × (column_of_id ids 0 id news ≡ column_of_id ids 0 id cols ++ behind)) → (pairs : List (ℤ × ℕ)) → All (λ row. row.1 < length (column_of_id ids 0 row.0 cols)) pairs → map (λ row. variant_at ids news row.0 row.1) pairs ≡ map (λ row. variant_at ids cols row.0 row.1) pairs
kept_pairs ids cols news grown [] placed = refl
kept_pairs ids cols news grown (p ∷ pairs) placed =
    let g = grown p.0 in
    let here : get_or (column_of_id ids 0 p.0 news) p.1 Null ≡ get_or (column_of_id ids 0 p.0 cols) p.1 Null = ap (λ c. get_or c p.1 Null) g.1 ∙ get_or_append_left (column_of_id ids 0 p.0 cols) g.0 Null p.1 (placed 0 p (omega arith)) in
    λ j. Variant p.0 (here j) ∷ kept_pairs ids cols news grown pairs (λ k d within. placed (suc k) d (omega (arith, within))) j

-- a run of rows of one id, which lie one behind the other
pub run_pairs : (ids : Option (List ℤ)) (news : List (List Slot)) (id : ℤ) (col more rest : List Slot) → column_of_id ids 0 id news ≡ col ++ (more ++ rest) → (place : ℕ) → place ≡ length col → union_items ids news (replicate (length more) id) (range_with_len place (length more)) ≡ map (Variant id) more
run_pairs ids news id col [] rest is place at = refl
run_pairs ids news id col (x ∷ more) rest is place at =
    let here : get_or (column_of_id ids 0 id news) place Null ≡ x = (λ j. get_or (is j) (at j) Null) ∙ get_or-append_seam col x (more ++ rest) Null in
    let next : col ++ x ∷ (more ++ rest) ≡ (col ++ x ∷ []) ++ (more ++ rest) = sym (append_assoc col (x ∷ []) (more ++ rest)) in
    let long : place + 1 ≡ length (col ++ x ∷ []) = omega (arith, at, length-append col (x ∷ [])) in
    λ j. Variant id (here j) ∷ run_pairs ids news id (col ++ x ∷ []) more rest (is ∙ next) (place + 1) long j

pub zip-append : {A B : Type 0} (xs xs' : List A) (ys ys' : List B) → length ys ≡ length xs → zip (xs ++ xs') (ys ++ ys') ≡ zip xs ys ++ zip xs' ys'
zip-append [] xs' [] ys' same = refl
zip-append (x ∷ xs) xs' (y ∷ ys) ys' same = ap (λ rest. (x, y) ∷ rest) (zip-append xs xs' ys ys' (omega (arith, same)))
zip-append xs xs' ys ys' same = absurd (omega (arith, same))

-- rows behind those of before: n rows of one field, which is behind its rows
module _ (ids : Option (List ℤ)) (cols news : List (List Slot)) (types : List ℤ) (places : List ℕ) (id : ℤ) (col more : List Slot) (place n : ℕ) (grown : (other : ℤ) → (behind : List Slot) × (column_of_id ids 0 other news ≡ column_of_id ids 0 other cols ++ behind)) (spans : length places ≡ length types) (placed : All (λ row. row.1 < length (column_of_id ids 0 row.0 cols)) (zip types places)) (here : column_of_id ids 0 id news ≡ col ++ more) (at : place ≡ length col) (many : length more ≡ n) where
  pub rows_behind : union_items ids news (types ++ replicate n id) (places ++ range_with_len place n) ≡ union_items ids cols types places ++ map (Variant id) more
  rows_behind =
      let pairs = zip types places in
      let run = zip (replicate n id) (range_with_len place n) in
      ap (map (λ row. variant_at ids news row.0 row.1)) (zip-append types (replicate n id) places (range_with_len place n) spans) ∙ (map-append (λ row. variant_at ids news row.0 row.1) pairs run ∙ ((λ j. kept_pairs ids cols news grown pairs placed j ++ union_items ids news (replicate (sym many j) id) (range_with_len place (sym many j))) ∙ ap (λ ys. union_items ids cols types places ++ ys) (run_pairs ids news id col more [] (here ∙ ap (λ ys. col ++ ys) (sym (append-nil more))) place at)))

-- naturals as offsets, and back
pub naturals_back : (ns : List ℕ) → map child_row_of (map pos ns) ≡ ns
naturals_back [] = refl
naturals_back (n ∷ ns) = ap (λ rest. n ∷ rest) (naturals_back ns)
