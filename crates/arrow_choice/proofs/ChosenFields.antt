-- Structs of two arrays as a predicate chooses: each field by the predicate, null where the chosen row is.
use Rattle.arrow_choice.proofs.Common.{arith, ◌≡◌, ◌+◌, ◌<◌, ◌^◌, ℕ, zero, suc, All, All-map, Bool, true, false, Option, Some, None, List, [], ◌∷◌, ◌++◌, length, map, take, get_or, if◌then◌else◌, inl, inr, refl, ap, sym, subst, ◌∙◌, and_parts, drop-cons, slice_get, get_or-map, get_or_default, length-map, same_lists, get_or_from_slice_get, slice_get-get_or, slice_get_within, map-map, ArrowType, Fits, part_in, slot_or, choice, chosen, masked, valid_at, Slot, Null, Boolean, null_slot, to_slots, length-chosen, FitsRows, Parts, bits_of_slice, boolean_rows, any_array_rows, any_array_type, layout_of, CrowdedRow, Unjoined, Layout, rows, type_of_layout, HaveRows, HoldsStruct, IsStruct, StructParts, row_count, row_of, struct_layout, struct_rows, struct_holds, types_of_layouts, AnyArray, length-struct_rows, struct_row_null, struct_row_valid, source_at, LiesIn, by_fields, IsOfForm, children_in, no_child, nth_child, crowded_named, child_unjoined, from_to, AreAsLong, AreOneLength, CannotChoose, ChosenIsCrowded, MarksChosen, SomeCannotChoose, chosen_columns, column_long, column_of_fits, columns_fit, first_long, part_at, some_column, slice_get_read, null, plain}
use Rattle.arrow_types.specs.Slot.{Parts as fields}
use Rattle.arrow_choice.proofs.ChosenLemmas.{get_or-chosen, long_slots, row_by_bits, truth_at}
use Rattle.arrow_choice.proofs.ChosenRows.{same_by}
use Rattle.arrow_choice.proofs.SideLemmas.{only_valid}

-- ---- columns that are chosen

-- the columns so far, and one more
columns_more : (qs : List Slot) (ls rs : List AnyArray) (i : ℕ) (l r : AnyArray) → slice_get ls i ≡ Some l → slice_get rs i ≡ Some r → length ls ≡ length rs → chosen_columns qs (take (i + 1) ls) (take (i + 1) rs) ≡ chosen_columns qs (take i ls) (take i rs) ++ chosen qs (any_array_rows l) (any_array_rows r) (any_array_type l) ∷ []
columns_more qs (x ∷ ls) (y ∷ rs) zero l r left right long =
    let one : x ≡ l = cc in
    let other : y ≡ r = cc in
    λ t. chosen qs (any_array_rows (one t)) (any_array_rows (other t)) (any_array_type (one t)) ∷ []
columns_more qs (x ∷ ls) (y ∷ rs) (suc i) l r left right long =
    let more : suc i + 1 ≡ suc (i + 1) = omega arith in
    (λ t. chosen_columns qs (take (more t) (x ∷ ls)) (take (more t) (y ∷ rs))) ∙ ap (λ cs. chosen qs (any_array_rows x) (any_array_rows y) (any_array_type x) ∷ cs) (columns_more qs ls rs i l r left right (omega (arith, long)))
columns_more qs ls rs i l r left right long = cc

-- a column of each of two arrays, at one place
pub record ArePair (ls rs : List AnyArray) (i : ℕ) (l r : AnyArray) : Type 0 where
  pub within : i < length ls
  pub behind : i < length rs
  pub left : l ≡ get_or ls i l
  pub right : r ≡ get_or rs i r

module _ {ls rs : List AnyArray} {i : ℕ} {l r : AnyArray} (pair : ArePair ls rs i l r) where
  pub pair_types : map any_array_type rs ≡ map any_array_type ls → any_array_type l ≡ any_array_type r
  pair_types types =
      let here = ap any_array_type pair.left ∙ sym (get_or-map any_array_type ls i l (plain null) pair.within) in
      let there = ap any_array_type pair.right ∙ sym (get_or-map any_array_type rs i r (plain null) pair.behind) in
      here ∙ (ap (λ ts. get_or ts i (plain null)) (sym types) ∙ sym there)

  pub pair_more : (qs : List Slot) → length ls ≡ length rs → chosen_columns qs (take (i + 1) ls) (take (i + 1) rs) ≡ chosen_columns qs (take i ls) (take i rs) ++ chosen qs (any_array_rows l) (any_array_rows r) (any_array_type l) ∷ []
  pair_more qs long =
      columns_more qs ls rs i l r (slice_get_read ls (length ls) i l refl pair.within pair.left) (slice_get_read rs (length rs) i r refl pair.behind pair.right) long

  pub pair_refused : (ps : List Slot) → CannotChoose ps (layout_of l) (layout_of r) → SomeCannotChoose ps ls rs
  pair_refused ps refused =
      let each = λ (d : AnyArray). subst (λ a. CannotChoose ps (layout_of a) (layout_of (get_or rs i d))) (pair.left ∙ get_or_default ls i l d pair.within) (subst (λ a. CannotChoose ps (layout_of l) (layout_of a)) (pair.right ∙ get_or_default rs i r d pair.behind) refused) in
      (i, pair.within, each)

rest_long : (qs : List Slot) (c : AnyArray) (cs : List AnyArray) → AreAsLong qs (c ∷ cs) → AreAsLong qs cs
rest_long qs c cs long = λ k d within. long (suc k) d (omega (arith, within))

-- a row of all columns is that of one side
row_side : (b : Bool) (qs : List Slot) (ls rs : List AnyArray) (i : ℕ) → length ls ≡ length rs → AreAsLong qs ls → AreAsLong qs rs → i < length qs → get_or qs i Null ≡ Boolean b → map (λ xs. get_or xs i Null) (chosen_columns qs ls rs) ≡ map (λ c. get_or (any_array_rows c) i Null) (if b then ls else rs)
row_side true qs [] rs i same left right within is = refl
row_side false qs [] [] i same left right within is = refl
row_side b qs (l ∷ ls) (r ∷ rs) i same left right within is =
    let t = any_array_type l in
    let x = get_or (any_array_rows l) i Null in
    let y = get_or (any_array_rows r) i Null in
    let here = get_or-chosen qs (any_array_rows l) (any_array_rows r) t i Null (left 0 l (omega arith)) (right 0 r (omega arith)) within ∙ ap (λ q. choice t q x y) is in
    let rest = row_side b qs ls rs i (omega (arith, same)) (rest_long qs l ls left) (rest_long qs r rs right) within is in
    λ j. here j ∷ rest j
row_side b qs ls rs i same left right within is = absurd (omega (arith, same))

-- each is as long as the predicate
chosen_long : (qs : List Slot) (ls rs : List AnyArray) (k : ℕ) (d : List Slot) → AreAsLong qs ls → AreAsLong qs rs → k < length (chosen_columns qs ls rs) → length (get_or (chosen_columns qs ls rs) k d) ≡ length qs
chosen_long qs (l ∷ ls) (r ∷ rs) zero d left right within =
    length-chosen qs (any_array_rows l) (any_array_rows r) (any_array_type l) (sym (left 0 l (omega arith))) (sym (right 0 r (omega arith)))
chosen_long qs (l ∷ ls) (r ∷ rs) (suc k) d left right within =
    chosen_long qs ls rs k d (rest_long qs l ls left) (rest_long qs r rs right) (omega (arith, within))
chosen_long qs ls rs k d left right within = absurd (omega (arith, within))

-- one of the columns
column_at : (qs : List Slot) (ls rs : List AnyArray) (f : ℕ) (d : AnyArray) (e : List Slot) → length ls ≡ length rs → f < length ls → get_or (chosen_columns qs ls rs) f e ≡ chosen qs (any_array_rows (get_or ls f d)) (any_array_rows (get_or rs f d)) (any_array_type (get_or ls f d))
column_at qs (l ∷ ls) (r ∷ rs) zero d e same within = refl
column_at qs (l ∷ ls) (r ∷ rs) (suc f) d e same within =
    column_at qs ls rs f d e (omega (arith, same)) (omega (arith, within))
column_at qs ls rs f d e same within = absurd (omega (arith, within, same))

-- one of them
some_of : (columns : List AnyArray) → 0 < length columns → AnyArray
some_of [] some = absurd (omega (arith, some))
some_of (c ∷ columns) some = c

set_bit : (v : Option (List Bool)) (count i : ℕ) → FitsRows v count → i < count → valid_at v i ≡ true → bits_of_slice v i 1 ≡ true ∷ []
set_bit None count i fits within is = refl
set_bit (Some bits) count i fits within is =
    ap (take 1) (drop-cons bits i true (omega (arith, fits, within))) ∙ ap (λ b. b ∷ []) is

-- ---- one struct

-- a row of it
struct_row : (q : StructParts) (i : ℕ) → IsStruct q → i < row_count q.children → (valid : Bool) → valid_at q.validity i ≡ valid → get_or (struct_rows q) i Null ≡ (if valid then row_of i q.children else Null)
struct_row q i held within true is = struct_row_valid q i held within is
struct_row q i held within false is = struct_row_null q i held within is

module _ (q : StructParts) (columns : List AnyArray) (children : map layout_of columns ≡ q.children) where
  -- what its columns have there
  of_columns : (i : ℕ) → map (λ c. get_or (any_array_rows c) i Null) columns ≡ map (λ c. get_or (rows c) i Null) q.children
  of_columns i =
      sym (map-map (λ c. get_or (rows c) i Null) layout_of columns) ∙ ap (map (λ c. get_or (rows c) i Null)) children

  part_of_row : (f i : ℕ) (d : AnyArray) → f < length columns → slot_or Null (to_slots (map (λ c. get_or (rows c) i Null) q.children)) f ≡ get_or (any_array_rows (get_or columns f d)) i Null
  part_of_row f i d has =
      part_at (map (λ c. get_or (rows c) i Null) q.children) f ∙ (ap (λ ss. get_or ss f Null) (sym (of_columns i)) ∙ get_or-map (λ c. get_or (any_array_rows c) i Null) columns f d Null has)

  child : (f : ℕ) (d : AnyArray) → f < length columns → nth_child f (struct_layout q) ≡ layout_of (get_or columns f d)
  child f d within =
      ap (λ cs. get_or cs f no_child) (from_to q.children ∙ sym children) ∙ get_or-map layout_of columns f d no_child within

-- what a column has of a row that is one of two, or null
part_of_choice : (f : ℕ) (t : ArrowType) (valid b : Bool) (x y one other : Slot) → part_in f t x ≡ one → part_in f t y ≡ other → part_in f t (if valid then (if b then x else y) else Null) ≡ choice t (if valid then Boolean b else Null) one other
part_of_choice f t true true x y one other left right = left
part_of_choice f t true false x y one other left right = right
part_of_choice f t false b x y one other left right = refl

-- ---- structs of which a predicate chooses

-- two structs of one type and of as many rows as a predicate, the arrays of their columns, a validity of the rows that are chosen,
-- and the predicate that is null where such a row is
pub record ChoosesStructs (p : Parts (List Bool)) (l r : StructParts) (ls rs : List AnyArray) (validity : Option (List Bool)) (qs : List Slot) : Type 0 where
  pub held_left : IsStruct l
  pub held_right : IsStruct r
  pub left : map layout_of ls ≡ l.children
  pub right : map layout_of rs ≡ r.children
  pub types : map any_array_type rs ≡ map any_array_type ls
  pub lengths : AreOneLength (boolean_rows p) (struct_rows l) (struct_rows r)
  pub fits : FitsRows p.validity (length p.values)
  pub none : null_slot l.arrow_type ≡ Null
  pub marks : MarksChosen p l.validity r.validity validity
  pub among : qs ≡ masked validity (map Boolean p.values)

module _ {p : Parts (List Bool)} {l r : StructParts} {ls rs : List AnyArray} {validity : Option (List Bool)} {qs : List Slot} (s : ChoosesStructs p l r ls rs validity qs) where
  abbrev ps : List Slot
  ps = boolean_rows p

  abbrev made : List Slot
  made = chosen ps (struct_rows l) (struct_rows r) l.arrow_type

  long_ps : length ps ≡ length p.values
  long_ps = long_slots Boolean p.validity p.values s.fits

  long_qs : length qs ≡ length p.values
  long_qs = ap length s.among ∙ long_slots Boolean validity p.values s.marks.fits

  long_made : length made ≡ length p.values
  long_made =
      length-chosen ps (struct_rows l) (struct_rows r) l.arrow_type (sym s.lengths.0) (sym s.lengths.1) ∙ long_ps

  count_left : row_count l.children ≡ length p.values
  count_left = sym (length-struct_rows l s.held_left) ∙ (s.lengths.0 ∙ long_ps)

  count_right : row_count r.children ≡ length p.values
  count_right = sym (length-struct_rows r s.held_right) ∙ (s.lengths.1 ∙ long_ps)

  pub left_long : AreAsLong qs ls
  left_long =
      λ k d within. column_long l ls s.held_left s.left k d within ∙ (count_left ∙ sym long_qs)

  pub right_long : AreAsLong qs rs
  right_long =
      λ k d within. column_long r rs s.held_right s.right k d within ∙ (count_right ∙ sym long_qs)

  many : length ls ≡ length rs
  many = omega (arith, ap length s.types, length-map ls any_array_type, length-map rs any_array_type)

  -- a row of the predicate of the columns
  truth : (i : ℕ) → i < length p.values → get_or qs i Null ≡ (if valid_at validity i then Boolean (get_or p.values i false) else Null)
  truth i below = ap (λ xs. get_or xs i Null) s.among ∙ truth_at validity p.values i s.marks.fits below

  -- a row that is chosen
  row_here : (i : ℕ) → i < length p.values → get_or made i Null ≡ (if valid_at validity i then (if get_or p.values i false then row_of i l.children else row_of i r.children) else Null)
  row_here i below =
      let b = get_or p.values i false in
      let x = row_of i l.children in
      let y = row_of i r.children in
      let here = get_or-chosen ps (struct_rows l) (struct_rows r) l.arrow_type i Null s.lengths.0 s.lengths.1 (omega (arith, below, long_ps)) in
      let truths = truth_at p.validity p.values i s.fits below in
      let one = struct_row l i s.held_left (omega (arith, below, count_left)) (valid_at l.validity i) refl in
      let other = struct_row r i s.held_right (omega (arith, below, count_right)) (valid_at r.validity i) refl in
      let by = row_by_bits l.arrow_type s.none (valid_at p.validity i) b (valid_at l.validity i) (valid_at r.validity i) x y in
      here ∙ ((λ j. choice l.arrow_type (truths j) (one j) (other j)) ∙ (sym by ∙ ap (λ v. if v then (if b then x else y) else Null) (sym (s.marks.each i below))))

  -- what a column has of the rows that are chosen
  column_chosen : (f : ℕ) (d : AnyArray) → f < length ls → map (part_in f (any_array_type (get_or ls f d))) made ≡ chosen qs (any_array_rows (get_or ls f d)) (any_array_rows (get_or rs f d)) (any_array_type (get_or ls f d))
  column_chosen f d has =
      let t = any_array_type (get_or ls f d) in
      let one = any_array_rows (get_or ls f d) in
      let other = any_array_rows (get_or rs f d) in
      let has_other : f < length rs = omega (arith, has, many) in
      let left = left_long f d has in
      let right = right_long f d has_other in
      let long = length-chosen qs one other t (sym left) (sym right) ∙ long_qs in
      let size = length-map made (part_in f t) ∙ long_made in
      same_lists _ _ (size ∙ sym long) (λ i e within.
      let below : i < length p.values = omega (arith, within, size) in
      let x = get_or one i Null in
      let y = get_or other i Null in
      let part = part_of_choice f t (valid_at validity i) (get_or p.values i false) (row_of i l.children) (row_of i r.children) x y (part_of_row l ls s.left f i d has) (part_of_row r rs s.right f i d has_other) in
      let row = ap (part_in f t) (row_here i below) ∙ (part ∙ ap (λ q. choice t q x y) (sym (truth i below))) in
      let there = get_or-chosen qs one other t i Null left right (omega (arith, below, long_qs)) in
      get_or-map (part_in f t) made i Null e (omega (arith, below, long_made)) ∙ (row ∙ (sym there ∙ get_or_default (chosen qs one other t) i Null e (omega (arith, below, long)))))

  -- ---- an array over the columns that are chosen, under the validity

  side_row : (b : Bool) (i : ℕ) → fields (to_slots (map (λ c. get_or (any_array_rows c) i Null) (if b then ls else rs))) ≡ (if b then row_of i l.children else row_of i r.children)
  side_row true i = ap (λ ss. fields (to_slots ss)) (of_columns l ls s.left i)
  side_row false i = ap (λ ss. fields (to_slots ss)) (of_columns r rs s.right i)

  module _ (done : List AnyArray) (types : map any_array_type done ≡ map any_array_type ls) (are : map any_array_rows done ≡ chosen_columns qs ls rs) where
    abbrev all : StructParts
    all = record { arrow_type = l.arrow_type; validity = validity; children = map layout_of done }

    done_long : All (λ c. length (any_array_rows c) ≡ length p.values) done
    done_long =
        λ k d within. ap length (sym (get_or-map any_array_rows done k d [] within) ∙ ap (λ cs. get_or cs k []) are) ∙ (chosen_long qs ls rs k [] left_long right_long (omega (arith, within, ap length are, length-map done any_array_rows)) ∙ long_qs)

    have_rows : HaveRows (length p.values) (map layout_of done)
    have_rows = All-map (λ c. length (rows c) ≡ length p.values) layout_of done done_long

    done_count : row_count (map layout_of done) ≡ length p.values
    done_count =
        let some = some_column l ls s.held_left s.left in
        let each = All-map (λ c. length c ≡ length p.values) rows (map layout_of done) have_rows in
        first_long (map rows (map layout_of done)) (length p.values) (omega (arith, some, ap length types, length-map done any_array_type, length-map ls any_array_type, length-map done layout_of, length-map (map layout_of done) rows)) each

    pub fields_hold : HoldsStruct l.arrow_type (map layout_of done) validity
    fields_hold =
        let kept = types_of_layouts done ∙ (types ∙ (sym (types_of_layouts ls) ∙ (ap (map type_of_layout) s.left ∙ s.held_left.children))) in
        (s.held_left.kind, kept, (subst (λ m. HaveRows m (map layout_of done)) (sym done_count) have_rows, subst (FitsRows validity) (sym done_count) s.marks.fits))

    row_made : (i : ℕ) → i < length p.values → valid_at validity i ≡ true → row_of i all.children ≡ (if get_or p.values i false then row_of i l.children else row_of i r.children)
    row_made i below valid =
        let b = get_or p.values i false in
        let is = truth i below ∙ ap (λ v. if v then Boolean b else Null) valid in
        let side = row_side b qs ls rs i many left_long right_long (omega (arith, below, long_qs)) is in
        let columns = sym (of_columns all done refl i) ∙ (sym (map-map (λ xs. get_or xs i Null) any_array_rows done) ∙ ap (map (λ xs. get_or xs i Null)) are) in
        ap (λ ss. fields (to_slots ss)) (columns ∙ side) ∙ side_row b i

    pub fields_chosen : struct_rows all ≡ made
    fields_chosen =
        let held = struct_holds l.arrow_type (map layout_of done) validity fields_hold in
        let size = length-struct_rows all held ∙ done_count in
        same_lists _ _ (size ∙ sym long_made) (λ i d within.
        let below : i < length p.values = omega (arith, within, size) in
        let row = struct_row all i held (omega (arith, below, done_count)) (valid_at validity i) refl ∙ same_by (valid_at validity i) _ _ (row_made i below) in
        get_or_default (struct_rows all) i d Null within ∙ (row ∙ (sym (row_here i below) ∙ get_or_default made i Null d (omega (arith, below, long_made)))))

    -- its rows fit where those of each field do
    pub fields_fit : All (λ c. Fits (any_array_type c) (any_array_rows c)) done → length p.values < 2 ^ 64 → Fits l.arrow_type made
    fields_fit each counted =
        columns_fit l ls s.held_left s.left made (omega (arith, counted, long_made)) (λ f d has.
        let here : f < length done = omega (arith, has, ap length types, length-map done any_array_type, length-map ls any_array_type) in
        let same = sym (get_or-map any_array_type done f d (any_array_type d) here) ∙ (ap (λ ts. get_or ts f (any_array_type d)) types ∙ get_or-map any_array_type ls f d (any_array_type d) has) in
        let column = sym (get_or-map any_array_rows done f d [] here) ∙ (ap (λ cs. get_or cs f []) are ∙ (column_at qs ls rs f d [] many has ∙ sym (column_chosen f d has))) in
        subst (λ (c : ArrowType × List Slot). Fits c.0 c.1) (λ j. (same j, column j)) (each f d here))

  -- ---- why a column is refused

  abbrev both : List Layout
  both = struct_layout l ∷ struct_layout r ∷ []

  fielded_both : (k : ℕ) (d : Layout) → k < 2 → IsOfForm by_fields (get_or both k d)
  fielded_both (suc (suc k)) d within = absurd (omega (arith, within))
  fielded_both k d within = tt

  children_of : (f : ℕ) (d : AnyArray) → f < length ls → map (nth_child f) both ≡ layout_of (get_or ls f d) ∷ layout_of (get_or rs f d) ∷ []
  children_of f d has =
      λ t. child l ls s.left f d has t ∷ child r rs s.right f d (omega (arith, has, many)) t ∷ []

  -- one of the right side is crowded behind the left one's
  crowded : (f : ℕ) (d : AnyArray) → f < length ls → (i : ℕ) → slice_get qs i ≡ Some (Boolean false) → CrowdedRow (layout_of (get_or ls f d) ∷ []) (layout_of (get_or rs f d)) i → ChosenIsCrowded ps (struct_layout l) (struct_layout r)
  crowded f d has i read inner =
      let below : i < length p.values = omega (arith, slice_get_within qs i (Boolean false) read, long_qs) in
      let is = only_valid (valid_at validity i) (get_or p.values i false) false (sym (truth i below) ∙ get_or_from_slice_get qs i (Boolean false) Null read) in
      let valid = and_parts (valid_at p.validity i) (if get_or p.values i false then valid_at l.validity i else valid_at r.validity i) (sym (s.marks.each i below) ∙ is.0) in
      let here : get_or ps i Null ≡ Boolean false = truth_at p.validity p.values i s.fits below ∙ (λ t. if valid.0 t then Boolean (is.1 t) else Null) in
      let of_right : valid_at r.validity i ≡ true = sym (ap (λ b. if b then valid_at l.validity i else valid_at r.validity i) is.1) ∙ valid.1 in
      let bits = set_bit r.validity (row_count r.children) i s.held_right.fits.1 (omega (arith, below, count_right)) of_right in
      let lies = subst (λ bs. LiesIn bs (λ k. k) i i) (sym bits) (inl (refl, omega arith, omega arith)) in
      let among = subst (λ cs. CrowdedRow (take 1 cs) (source_at cs 1) i) (sym (children_of f d has)) inner in
      let wide : f < length (children_in (struct_layout r)) = omega (arith, has, many, length-map rs layout_of, ap length s.right, ap length (from_to r.children)) in
      let row = (crowded_named by_fields both 1 f i 1 fielded_both (omega arith) wide (ap length bits) (omega arith, (i, lies, among))).1 in
      let same : row.0 ≡ i = omega (arith, row.1, row.2) in
      (i, slice_get-get_or ps i Null (omega (arith, below, long_ps)) ∙ ap Some here, subst (CrowdedRow (struct_layout l ∷ []) (struct_layout r)) same row.3)

  pub fields_refused : SomeCannotChoose qs ls rs → CannotChoose ps (struct_layout l) (struct_layout r)
  fields_refused (f, has, why) =
      let d = some_of ls (omega (arith, has)) in
      elim (why d) [
        | inl unfit ↦
            inl (λ fit. unfit (subst (Fits (any_array_type (get_or ls f d))) (column_chosen f d has) (column_of_fits l ls s.held_left s.left made f d has fit)))
        | inr (inl row) ↦ inr (inl (crowded f d has row.0 row.1 row.2))
        | inr (inr apart) ↦
            inr (inr (child_unjoined by_fields both f fielded_both (subst Unjoined (sym (children_of f d has)) apart)))
      ]
