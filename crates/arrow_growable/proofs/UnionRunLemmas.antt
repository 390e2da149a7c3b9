-- Runs of rows of one field in an array of unions: the rows, and which of them are crowded.
use Rattle.arrow_growable.proofs.Common.{arith, ◌≡◌, ◌+◌, ◌-◌, ◌<◌, ◌≤◌, ◌≤ℤ◌, inl, inr, ℕ, zero, suc, ℤ, pos, Option, Some, None, List, [], ◌∷◌, ◌++◌, length, map, replicate, take, drop, get_or, refl, ap, sym, subst, ◌∙◌, option_map, slice_get, range_with_len, get_or-drop, get_or-map, get_or-replicate, get_or-take, length-map, length-take, replicate-append-replicate, take-append-drop, All-map, ints, get_or-range_with_len, get_or_from_slice_get, slice_get-get_or, ArrowType, plain, null, Slot, id_at, sliced, length-sliced, sliced-cut, CrowdedRow, CrowdedVariant, child_at, nth_layout, Layout, column_of_id, flat, field_ids, rows, to_layouts, type_of_layout, union_items, field_types, FindsField, SpansRows, UnionParts, child_row_of, child_rows_by, rows_of_field, union_layout, union_layout_by, union_rows, range-sliced, union_items-sliced, columns_of-to_layouts, IsRun, run_rows, slice_index, All, drop_more}
use Rattle.arrow_growable.proofs.UnionTypeLemmas.{before_or_same}
use Rattle.arrow_growable.proofs.VariantColumns.{AreApart, own_column}
use Rattle.arrow_growable.proofs.VariantLemmas.{naturals_back, run_pairs, range-append}

-- the rows, by type ids and places
rows_by_places : (t : ArrowType) (types : List ℤ) (child_rows : Option (List ℕ)) (start : ℕ) (children : List Layout) → rows (union_layout_by t types child_rows start children) ≡ union_items (field_ids t) (map rows children) types (child_rows_by child_rows start (length types))
rows_by_places t types None start children =
    ap (λ cs. union_items (field_ids t) cs types (range_with_len start (length types))) (columns_of-to_layouts children)
rows_by_places t types (Some child_rows) start children =
    ap (λ cs. union_items (field_ids t) cs types child_rows) (columns_of-to_layouts children)

pub rows_are : (p : UnionParts) → union_rows p ≡ union_items (field_ids p.arrow_type) (map rows p.children) p.types (child_rows_by p.child_rows p.start (length p.types))
rows_are p = rows_by_places p.arrow_type p.types p.child_rows p.start p.children

-- a column by what is before a part of it, the part, and what is behind
parted : (xs : List Slot) (j n : ℕ) → xs ≡ take j xs ++ (sliced xs j n ++ drop n (drop j xs))
parted xs j n = sym (take-append-drop j xs) ∙ ap (λ ys. take j xs ++ ys) (sym (take-append-drop n (drop j xs)))

-- the rows of a run: those of its child, from row j on
pub run_is : (p : UnionParts) (row f j n : ℕ) → AreApart (field_ids p.arrow_type) (length p.children) → IsRun p row f j n → sliced (union_rows p) row n ≡ run_rows p.arrow_type f (sliced (rows_of_field p.children f) j n)
run_is p row f j n apart run =
    let ids = field_ids p.arrow_type in
    let cols = map rows p.children in
    let places = child_rows_by p.child_rows p.start (length p.types) in
    let col = rows_of_field p.children f in
    let long = length-map p.children rows in
    let own : column_of_id ids 0 (id_at ids f) cols ≡ col = own_column ids cols f (subst (AreApart ids) (sym long) apart) (omega (arith, run.field, long)) in
    let before : j ≡ length (take j col) = omega (arith, length-take j col, run.inside) in
    let many : length (sliced col j n) ≡ n = length-sliced col j n run.inside in
    let made = run_pairs ids cols (id_at ids f) (take j col) (sliced col j n) (drop n (drop j col)) (own ∙ parted col j n) j before in
    let here : union_items ids cols (sliced p.types row n) (sliced places row n) ≡ union_items ids cols (replicate n (id_at ids f)) (range_with_len j n) = λ i. union_items ids cols (run.types i) (run.places i) in
    let counted : union_items ids cols (replicate n (id_at ids f)) (range_with_len j n) ≡ union_items ids cols (replicate (length (sliced col j n)) (id_at ids f)) (range_with_len j (length (sliced col j n))) = ap (λ k. union_items ids cols (replicate k (id_at ids f)) (range_with_len j k)) (sym many) in
    ap (λ xs. sliced xs row n) (rows_are p) ∙ (sym (union_items-sliced ids cols p.types places row n) ∙ (here ∙ (counted ∙ made)))

-- one of its rows: a type id and a place

read_part : {A : Type 0} (xs ys : List A) (row n k : ℕ) (d : A) → sliced xs row n ≡ ys → k < n → get_or xs (row + k) d ≡ get_or ys k d
read_part xs ys row n k d is within =
    sym (get_or-take n (drop row xs) k d within ∙ get_or-drop row xs k d) ∙ ap (λ zs. get_or zs k d) is

pub run_type : (p : UnionParts) (row f j n k : ℕ) → IsRun p row f j n → k < n → get_or p.types (row + k) (pos 0) ≡ id_at (field_ids p.arrow_type) f
run_type p row f j n k run within =
    read_part p.types (replicate n (id_at (field_ids p.arrow_type) f)) row n k (pos 0) run.types within ∙ get_or-replicate n k (id_at (field_ids p.arrow_type) f) (pos 0) within

pub run_place : (p : UnionParts) (row f j n k : ℕ) → IsRun p row f j n → k < n → get_or (child_rows_by p.child_rows p.start (length p.types)) (row + k) 0 ≡ j + k
run_place p row f j n k run within =
    read_part (child_rows_by p.child_rows p.start (length p.types)) (range_with_len j n) row n k 0 run.places within ∙ get_or-range_with_len j n k 0 within

-- a row of a child that is crowded makes its row so

abbrev pub none_there : Layout
none_there = flat (plain null) []

nth_from : (ls : List Layout) (f : ℕ) → nth_layout (to_layouts ls) f ≡ get_or ls f none_there
nth_from (l ∷ ls) (suc f) = nth_from ls f
nth_from ls f = refl

child_by : (t : ArrowType) (types : List ℤ) (child_rows : Option (List ℕ)) (start : ℕ) (children : List Layout) (f : ℕ) → child_at f (union_layout_by t types child_rows start children) ≡ get_or children f none_there
child_by t types None start children f = nth_from children f
child_by t types (Some child_rows) start children f = nth_from children f

pub child_is : (p : UnionParts) (f : ℕ) → child_at f (union_layout p) ≡ get_or p.children f none_there
child_is p f = child_by p.arrow_type p.types p.child_rows p.start p.children f

pub child_rows_are : (p : UnionParts) (f : ℕ) → f < length p.children → rows (child_at f (union_layout p)) ≡ rows_of_field p.children f
child_rows_are p f within =
    ap rows (child_is p f) ∙ sym (get_or-map rows p.children f none_there [] within)

-- of those from field g on
variant_crowded : (before : List Layout) (ids : Option (List ℤ)) (ls : List Layout) (g f h j : ℕ) → h ≡ g + f → f < length ls → CrowdedRow (map (child_at h) before) (get_or ls f none_there) j → CrowdedVariant before ids (to_layouts ls) g (id_at ids h) j
variant_crowded before ids [] g f h j at within inner = absurd (omega (arith, within))
variant_crowded before ids (l ∷ ls) g zero h j at within inner =
    let same : h ≡ g = omega (arith, at) in
    inl (ap (id_at ids) (sym same), subst (λ k. CrowdedRow (map (child_at k) before) l j) same inner)
variant_crowded before ids (l ∷ ls) g (suc f) h j at within inner =
    inr (variant_crowded before ids ls (suc g) f h j (omega (arith, at)) (omega (arith, within)) inner)

crowded_by : (before : List Layout) (t : ArrowType) (types : List ℤ) (child_rows : Option (List ℕ)) (start : ℕ) (children : List Layout) (i f j : ℕ) → i < length types → get_or types i (pos 0) ≡ id_at (field_ids t) f → get_or (child_rows_by child_rows start (length types)) i 0 ≡ j → f < length children → CrowdedRow (map (child_at f) before) (get_or children f none_there) j → CrowdedRow before (union_layout_by t types child_rows start children) i
crowded_by before t types None start children i f j typed type_is place_is within inner =
    let place : j ≡ start + i = sym place_is ∙ get_or-range_with_len start (length types) i 0 typed in
    (id_at (field_ids t) f, slice_get-get_or types i (pos 0) typed ∙ ap Some type_is, variant_crowded before (field_ids t) children 0 f f (start + i) (omega arith) within (subst (CrowdedRow (map (child_at f) before) (get_or children f none_there)) place inner))
crowded_by before t types (Some child_rows) start children i f j typed type_is place_is within inner =
    (id_at (field_ids t) f, slice_get-get_or types i (pos 0) typed ∙ ap Some type_is, variant_crowded before (field_ids t) children 0 f f (slice_index child_rows i) (omega arith) within (subst (CrowdedRow (map (child_at f) before) (get_or children f none_there)) (sym place_is) inner))

-- of a row of a run
pub run_crowded : (before : List Layout) (p : UnionParts) (row f j n k : ℕ) → IsRun p row f j n → row + n ≤ length p.types → k < n → CrowdedRow (map (child_at f) before) (child_at f (union_layout p)) (j + k) → CrowdedRow before (union_layout p) (row + k)
run_crowded before p row f j n k run part within inner =
    crowded_by before p.arrow_type p.types p.child_rows p.start p.children (row + k) f (j + k) (omega (arith, part, within)) (run_type p row f j n k run within) (run_place p row f j n k run within) run.field (subst (λ l. CrowdedRow (map (child_at f) before) l (j + k)) (child_is p f) inner)

-- how a run is found

-- where an id is first is told by the id
found_same : (ids : Option (List ℤ)) (count : ℕ) (id : ℤ) (f g : ℕ) → FindsField ids count id (Some f) → FindsField ids count id (Some g) → f ≡ g
found_same ids count id f g here there =
    elim (before_or_same f g) [
      | inl less ↦ absurd (there.2 f less here.1)
      | inr rest ↦ elim rest [ inl same ↦ same | inr more ↦ absurd (here.2 g more there.1) ]
    ]

-- a first row and a last one, and what is between them
module _ (p : UnionParts) (row f j n g last : ℕ) (some : 0 < n) (part : row + n ≤ length p.types) (types : sliced p.types row n ≡ replicate n (get_or p.types row (pos 0))) (places : sliced (child_rows_by p.child_rows p.start (length p.types)) row n ≡ range_with_len (get_or (child_rows_by p.child_rows p.start (length p.types)) row 0) n) (first_place : slice_get (child_rows_by p.child_rows p.start (length p.types)) row ≡ Some j) (last_place : slice_get (child_rows_by p.child_rows p.start (length p.types)) (row + n - 1) ≡ Some last) where
  abbrev ids : Option (List ℤ)
  ids = field_ids p.arrow_type

  abbrev all_places : List ℕ
  all_places = child_rows_by p.child_rows p.start (length p.types)

  j_is : get_or all_places row 0 ≡ j
  j_is = get_or_from_slice_get all_places row j 0 first_place

  pub last_is : last ≡ j + (n - 1)
  last_is =
      let at : row + (n - 1) ≡ row + n - 1 = omega (arith, some) in
      let read = read_part all_places (range_with_len (get_or all_places row 0) n) row n (n - 1) 0 places (omega (arith, some)) in
      sym (get_or_from_slice_get all_places (row + n - 1) last 0 last_place) ∙ (ap (λ k. get_or all_places k 0) (sym at) ∙ (read ∙ (get_or-range_with_len (get_or all_places row 0) n (n - 1) 0 (omega (arith, some)) ∙ ap (λ k. k + (n - 1)) j_is)))

  pub is_run : FindsField ids (length p.children) (get_or p.types row (pos 0)) (Some f) → FindsField ids (length p.children) (get_or p.types (row + n - 1) (pos 0)) (Some g) → last < length (rows_of_field p.children g) → map type_of_layout p.children ≡ field_types p.arrow_type → IsRun p row f j n
  is_run first_field last_field inside fields =
      let at : row + (n - 1) ≡ row + n - 1 = omega (arith, some) in
      let read = read_part p.types (replicate n (get_or p.types row (pos 0))) row n (n - 1) (pos 0) types (omega (arith, some)) in
      let same_id : get_or p.types (row + n - 1) (pos 0) ≡ get_or p.types row (pos 0) = ap (λ k. get_or p.types k (pos 0)) (sym at) ∙ (read ∙ get_or-replicate n (n - 1) (get_or p.types row (pos 0)) (pos 0) (omega (arith, some))) in
      let same : f ≡ g = found_same ids (length p.children) (get_or p.types row (pos 0)) f g first_field (subst (λ id. FindsField ids (length p.children) id (Some g)) same_id last_field) in
      record {
        width = sym (length-map p.children type_of_layout) ∙ ap length fields;
        field = first_field.0;
        types = types ∙ ap (replicate n) (sym first_field.1);
        places = places ∙ ap (λ k. range_with_len k n) j_is;
        inside = omega (arith, subst (λ h. last < length (rows_of_field p.children h)) (sym same) inside, last_is, some);
      }

-- the places of a run, in a sparse union and in a dense one

pub sparse_places : (child_rows : Option (List ℕ)) (start count row n : ℕ) → None ≡ option_map (map pos) child_rows → row < count → row + n ≤ count → sliced (child_rows_by child_rows start count) row n ≡ range_with_len (get_or (child_rows_by child_rows start count) row 0) n
sparse_places None start count row n none within part =
    range-sliced start count row n part ∙ ap (λ k. range_with_len k n) (sym (get_or-range_with_len start count row 0 within))
sparse_places (Some ns) start count row n none within part = cc

pub dense_places : (child_rows : Option (List ℕ)) (zs : List ℤ) (start count row n : ℕ) → Some zs ≡ option_map (map pos) child_rows → row < length zs → sliced (map child_row_of zs) row n ≡ range_with_len (child_row_of (get_or zs row (pos 0))) n → sliced (child_rows_by child_rows start count) row n ≡ range_with_len (get_or (child_rows_by child_rows start count) row 0) n
dense_places None zs start count row n seen within risen = cc
dense_places (Some ns) zs start count row n seen within risen =
    let same : zs ≡ map pos ns = cc in
    let back : map child_row_of zs ≡ ns = ap (map child_row_of) same ∙ naturals_back ns in
    let first : child_row_of (get_or zs row (pos 0)) ≡ get_or ns row 0 = sym (get_or-map child_row_of zs row (pos 0) 0 within) ∙ ap (λ xs. get_or xs row 0) back in
    ap (λ xs. sliced xs row n) (sym back) ∙ (risen ∙ ap (λ k. range_with_len k n) first)

pub offsets_natural : (child_rows : Option (List ℕ)) (zs : List ℤ) → Some zs ≡ option_map (map pos) child_rows → All (λ z. pos 0 ≤ℤ z) zs
offsets_natural None zs seen = cc
offsets_natural (Some ns) zs seen =
    let same : zs ≡ map pos ns = cc in
    subst (All (λ z. pos 0 ≤ℤ z)) (sym same) (All-map (λ z. pos 0 ≤ℤ z) pos ns (λ k d within. omega (arith, ints)))

pub offsets_many : (child_rows : Option (List ℕ)) (zs : List ℤ) (start count : ℕ) (children : List Layout) → Some zs ≡ option_map (map pos) child_rows → SpansRows child_rows start count children → length zs ≡ count
offsets_many None zs start count children seen spans = cc
offsets_many (Some ns) zs start count children seen spans =
    let same : zs ≡ map pos ns = cc in
    ap length same ∙ (length-map ns pos ∙ spans.0)

-- one more of it

pub one_is : {A : Type 0} (xs : List A) (i : ℕ) (d : A) → i < length xs → sliced xs i 1 ≡ get_or xs i d ∷ []
one_is xs i d within = ap (take 1) (drop_more xs i d within)

pub next_same : {A : Type 0} (xs : List A) (start n : ℕ) (x d : A) → start + n < length xs → get_or xs (start + n) d ≡ x → sliced xs start n ≡ replicate n x → sliced xs start (n + 1) ≡ replicate (n + 1) x
next_same xs start n x d within is so_far =
    sliced-cut xs start n 1 ∙ ((λ j. so_far j ++ one_is xs (start + n) d within j) ∙ ((λ j. replicate n x ++ (is j ∷ [])) ∙ replicate-append-replicate n 1 x))

pub next_risen : (ns : List ℕ) (start n first : ℕ) → start + n < length ns → get_or ns (start + n) 0 ≡ first + n → sliced ns start n ≡ range_with_len first n → sliced ns start (n + 1) ≡ range_with_len first (n + 1)
next_risen ns start n first within is so_far =
    sliced-cut ns start n 1 ∙ ((λ j. so_far j ++ one_is ns (start + n) 0 within j) ∙ ((λ j. range_with_len first n ++ (is j ∷ [])) ∙ sym (range-append first n 1)))
