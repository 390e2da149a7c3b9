-- Rows of bytes or items that come behind others: a row, a run of rows of one side, or those that a word of bits chooses.
use Rattle.arrow_choice.proofs.Common.{arith, ◌≡◌, ◌+◌, ◌-◌, ◌*◌, ◌<◌, ◌≤◌, min, ℕ, zero, suc, Bool, true, false, Option, Some, None, List, [], ◌∷◌, ◌++◌, length, map, take, replicate, get_or, slice_index, if◌then◌else◌, refl, ap, sym, subst, ◌∙◌, append_assoc, slice_index_or, sum, range_with_len, append-nil, get_or-drop, get_or-replicate, get_or-take, get_or_default, length-replicate, map-append, take_all, length-map-range_with_len, map-range_with_len_more, take-map-range_with_len, sum-map, sum_by-append, sum_by-cons, sum_by-take-le, get_or_from_slice_get, valid_at, IsOffsets, counted_on, last_of, valid_ends, valid_items, valid_length, sliced, at_most_last, offsets_rise, length-sliced, pieces, piece_at, total, valid_values, set_run, AppendsRows, row_chosen, row_under, rows_from, ends_from, concatenated, row_length, concatenated-append, ends_append, last_ends, row_in, counted_ends, counted_sum, same_lists, take_min, get_or-map-range_with_len, concatenated_length, length-valid_values}

-- ---- rows behind others

pub none_appended : {A : Type 0} (ends : List ℕ) (items : List A) → AppendsRows [] ends items ends items
none_appended ends items =
    record { ends = sym (append-nil ends); items = sym (append-nil items) }

-- where the last of them ends
pub last_appended : {A : Type 0} (rows : List (List A)) (ends new_ends : List ℕ) (bytes new_bytes : List A) → 0 < length ends → AppendsRows rows ends bytes new_ends new_bytes → last_of new_ends ≡ last_of ends + total rows
last_appended rows ends new_ends bytes new_bytes some is =
    ap last_of is.ends ∙ (last_ends ends (map length rows) some ∙ ap (λ n. last_of ends + n) (sum-map length rows))

module _ {A : Type 0} (rows more : List (List A)) (ends mid_ends new_ends : List ℕ) (bytes mid_bytes new_bytes : List A) (some : 0 < length ends) (first : AppendsRows rows ends bytes mid_ends mid_bytes) (second : AppendsRows more mid_ends mid_bytes new_ends new_bytes) where
  pub both_appended : AppendsRows (rows ++ more) ends bytes new_ends new_bytes
  both_appended =
      let lengths = map length rows in
      let others = map length more in
      let last : last_of mid_ends ≡ last_of ends + sum lengths = ap last_of first.ends ∙ last_ends ends lengths some in
      let whole : ends_from (last_of ends) (map length (rows ++ more)) ≡ ends_from (last_of ends) lengths ++ ends_from (last_of ends + sum lengths) others = ap (ends_from (last_of ends)) (map-append length rows more) ∙ ends_append (last_of ends) lengths others in
      record {
        ends = second.ends ∙ ((λ i. first.ends i ++ ends_from (last i) others) ∙ (append_assoc ends (ends_from (last_of ends) lengths) (ends_from (last_of ends + sum lengths) others) ∙ ap (λ es. ends ++ es) (sym whole)));
        items = second.items ∙ (ap (λ bs. bs ++ concatenated more) first.items ∙ (append_assoc bytes (concatenated rows) (concatenated more) ∙ ap (λ bs. bytes ++ bs) (sym (concatenated-append rows more))));
      }

-- ---- rows by their places

range_cut : (a n m : ℕ) → range_with_len a (n + m) ≡ range_with_len a n ++ range_with_len (a + n) m
range_cut a zero m =
    let at : a ≡ a + 0 = omega arith in
    let all : 0 + m ≡ m = omega arith in
    λ t. range_with_len (at t) (all t)
range_cut a (suc n) m =
    let at : a + 1 + n ≡ a + suc n = omega arith in
    let all : suc n + m ≡ suc (n + m) = omega arith in
    ap (range_with_len a) all ∙ ap (λ ks. a ∷ ks) (range_cut (a + 1) n m ∙ ap (λ k. range_with_len (a + 1) n ++ range_with_len k m) at)

module _ {A : Type 0} (f : ℕ → List A) where
  rows_cut : (a n m : ℕ) → rows_from f a (n + m) ≡ rows_from f a n ++ rows_from f (a + n) m
  rows_cut a n m =
      ap (map f) (range_cut a n m) ∙ map-append f (range_with_len a n) (range_with_len (a + n) m)

  -- a row more, of those from one on
  pub row_appended : (start k : ℕ) (row : List A) (ends mid_ends new_ends : List ℕ) (bytes mid_bytes new_bytes : List A) → 0 < length ends → row ≡ f (start + k) → AppendsRows (rows_from f start k) ends bytes mid_ends mid_bytes → AppendsRows (row ∷ []) mid_ends mid_bytes new_ends new_bytes → AppendsRows (rows_from f start (k + 1)) ends bytes new_ends new_bytes
  row_appended start k row ends mid_ends new_ends bytes mid_bytes new_bytes some is first second =
      let more = ap (λ r. rows_from f start k ++ r ∷ []) is ∙ sym (map-range_with_len_more f start k (start + k) refl) in
      subst (λ rows. AppendsRows rows ends bytes new_ends new_bytes) more (both_appended (rows_from f start k) (row ∷ []) ends mid_ends new_ends bytes mid_bytes new_bytes some first second)

  -- which has no more bytes than they all
  pub row_passes : (start count k greatest : ℕ) (ends mid_ends : List ℕ) (bytes mid_bytes row : List A) → 0 < length ends → k < count → row ≡ f (start + k) → AppendsRows (rows_from f start k) ends bytes mid_ends mid_bytes → greatest < last_of mid_ends + length row → greatest < last_of ends + total (rows_from f start count)
  row_passes start count k greatest ends mid_ends bytes mid_bytes row some within is first over =
      let more = ap total (map-range_with_len_more f start k (start + k) refl) ∙ sum_by-append length (rows_from f start k) (f (start + k) ∷ []) in
      let first_rows = ap total (take-map-range_with_len f start count (k + 1) (omega (arith, within))) in
      omega (arith, over, last_appended (rows_from f start k) ends mid_ends bytes mid_bytes some first, more, ap length is, sum_by-cons length (f (start + k)) [], first_rows, sum_by-take-le length (rows_from f start count) (k + 1))

  -- a word of rows more, of all from the first on
  take_word : (n j count : ℕ) → 64 * j < n → count ≡ min 64 (n - 64 * j) → take (64 * (j + 1)) (rows_from f 0 n) ≡ take (64 * j) (rows_from f 0 n) ++ rows_from f (64 * j) count
  take_word n j count within is =
      let whole = rows_from f 0 n in
      let end : min (64 * (j + 1)) (length whole) ≡ 64 * j + count = omega (arith, is, within, length-map-range_with_len f 0 n) in
      let to_end = sym (take_min (64 * (j + 1)) whole) ∙ (ap (λ k. take k whole) end ∙ take-map-range_with_len f 0 n (64 * j + count) (omega (arith, is, within))) in
      let place : 0 + 64 * j ≡ 64 * j = omega arith in
      let first = sym (take-map-range_with_len f 0 n (64 * j) (omega (arith, within))) in
      to_end ∙ (rows_cut 0 (64 * j) count ∙ (λ t. first t ++ rows_from f (place t) count))

  -- or a run of them
  pub run_more : (row count : ℕ) (mid_ends new_ends : List ℕ) (mid_items new_items : List A) → AppendsRows (rows_from f 0 row) (0 ∷ []) [] mid_ends mid_items → AppendsRows (rows_from f row count) mid_ends mid_items new_ends new_items → AppendsRows (rows_from f 0 (row + count)) (0 ∷ []) [] new_ends new_items
  run_more row count mid_ends new_ends mid_items new_items first second =
      let place : 0 + row ≡ row = omega arith in
      let more = rows_cut 0 row count ∙ ap (λ k. rows_from f 0 row ++ rows_from f k count) place in
      subst (λ rows. AppendsRows rows (0 ∷ []) [] new_ends new_items) (sym more) (both_appended (rows_from f 0 row) (rows_from f row count) (0 ∷ []) mid_ends new_ends [] mid_items new_items (omega arith) first second)

-- the rows of the words before word j, of so many
pub record WordsUpTo {A : Type 0} (f : ℕ → List A) (n j : ℕ) (ends : List ℕ) (items : List A) : Type 0 where
  pub rows : AppendsRows (take (64 * j) (rows_from f 0 n)) (0 ∷ []) [] ends items

module _ {A : Type 0} {f : ℕ → List A} {n j : ℕ} {ends : List ℕ} {items : List A} (so_far : WordsUpTo f n j ends items) where
  module _ (count : ℕ) (within : 64 * j < n) (is : count ≡ min 64 (n - 64 * j)) where
    -- with those of that word
    pub word_appended : (new_ends : List ℕ) (new_items : List A) → AppendsRows (rows_from f (64 * j) count) ends items new_ends new_items → WordsUpTo f n (j + 1) new_ends new_items
    word_appended new_ends new_items more =
        record { rows = subst (λ rows. AppendsRows rows (0 ∷ []) [] new_ends new_items) (sym (take_word f n j count within is)) (both_appended (take (64 * j) (rows_from f 0 n)) (rows_from f (64 * j) count) (0 ∷ []) ends new_ends [] items new_items (omega arith) so_far.rows more) }

    pub word_passes : (greatest : ℕ) → greatest < last_of ends + total (rows_from f (64 * j) count) → greatest < total (rows_from f 0 n)
    word_passes greatest over =
        let last : last_of ends ≡ 0 + total (take (64 * j) (rows_from f 0 n)) = last_appended (take (64 * j) (rows_from f 0 n)) (0 ∷ []) ends [] items (omega arith) so_far.rows in
        omega (arith, over, last, ap total (take_word f n j count within is), sum_by-append length (take (64 * j) (rows_from f 0 n)) (rows_from f (64 * j) count), sum_by-take-le length (rows_from f 0 n) (64 * (j + 1)))

  -- with the last word they are all
  pub all_appended : n ≤ 64 * j → AppendsRows (rows_from f 0 n) (0 ∷ []) [] ends items
  all_appended whole =
      subst (λ rows. AppendsRows rows (0 ∷ []) [] ends items) (take_all (64 * j) (rows_from f 0 n) (omega (arith, whole, length-map-range_with_len f 0 n))) so_far.rows

  pub all_few : n ≤ 64 * j → (greatest : ℕ) → last_of ends ≤ greatest → total (rows_from f 0 n) ≤ greatest
  all_few whole greatest few =
      let last : last_of ends ≡ 0 + total (rows_from f 0 n) = last_appended (rows_from f 0 n) (0 ∷ []) ends [] items (omega arith) (all_appended whole) in
      omega (arith, few, last)

-- ---- rows of a side

-- the row of the side that a bit names
pub row_is : {A : Type 0} (v : Option (List Bool)) (bits : List Bool) (ls rs rows : List (List A)) (i : ℕ) (valid : Bool) → valid ≡ valid_at v i → rows ≡ (if slice_index_or bits i false then ls else rs) → (if valid then get_or rows i [] else []) ≡ row_chosen v bits ls rs i
row_is v bits ls rs rows i valid is same = λ t. if is t then get_or (same t) i [] else []

-- rows that are the same one by one
rows_same : {A : Type 0} (f g : ℕ → List A) (a n : ℕ) → ((k : ℕ) → k < n → f (a + k) ≡ g (a + k)) → rows_from f a n ≡ rows_from g a n
rows_same f g a n same =
    same_lists _ _ (length-map-range_with_len f a n ∙ sym (length-map-range_with_len g a n)) (λ k d within.
    let below : k < n = omega (arith, within, length-map-range_with_len f a n) in
    get_or-map-range_with_len f a n k (a + k) d below refl ∙ (same k below ∙ sym (get_or-map-range_with_len g a n k (a + k) d below refl)))

-- of one side, where the bits are all the same
pub one_side : {A : Type 0} (v : Option (List Bool)) (bits : List Bool) (ls rs : List (List A)) (b : Bool) (a n : ℕ) → ((k : ℕ) → k < n → slice_index_or bits (a + k) false ≡ b) → rows_from (row_under v (if b then ls else rs)) a n ≡ rows_from (row_chosen v bits ls rs) a n
one_side v bits ls rs b a n same =
    rows_same (row_under v (if b then ls else rs)) (row_chosen v bits ls rs) a n (λ k below. λ i. row_under v (if sym (same k below) i then ls else rs) (a + k))

-- rows that lie between offsets, of which those have nothing that are not valid
module _ {A : Type 0} (v : Option (List Bool)) (os : List ℕ) (xs : List A) (sound : IsOffsets os) (within : last_of os ≤ length xs) where
  abbrev rows : List (List A)
  rows = pieces os xs

  row : (b : Bool) (i : ℕ) → i + 1 < length os → valid_at v i ≡ b → row_under v rows i ≡ (if b then row_in os xs i else [])
  row b i has is =
      (λ t. if is t then get_or rows i [] else []) ∙ ap (λ ys. if b then ys else []) (get_or_from_slice_get rows i _ [] (piece_at os xs i has))

  long_by : (b : Bool) (i : ℕ) → i + 1 < length os → length (if b then row_in os xs i else []) ≡ valid_length b os i
  long_by true i has =
      length-sliced xs (slice_index os i) (row_length os i) (omega (arith, within, offsets_rise os i (i + 1) sound (omega arith) has, at_most_last os (i + 1) sound has))
  long_by false i has = refl

  row_long : (b : Bool) (i : ℕ) → i + 1 < length os → valid_at v i ≡ b → length (row_under v rows i) ≡ valid_length b os i
  row_long b i has is = ap length (row b i has is) ∙ long_by b i has

  -- the bits say which are valid, from row i on
  abbrev Agree : List Bool → ℕ → Type 0
  Agree bits i = (k : ℕ) → k < length bits → valid_at v (i + k) ≡ get_or bits k false

  here : (b : Bool) (bits : List Bool) (i : ℕ) → Agree (b ∷ bits) i → valid_at v i ≡ b
  here b bits i agree =
      let at : i ≡ i + 0 = omega arith in
      ap (valid_at v) at ∙ agree 0 (omega arith)

  next : (b : Bool) (bits : List Bool) (i : ℕ) → Agree (b ∷ bits) i → Agree bits (i + 1)
  next b bits i agree =
      λ k below.
      let at : i + 1 + k ≡ i + suc k = omega arith in
      ap (valid_at v) at ∙ agree (suc k) (omega (arith, below))

  ends_under : (bits : List Bool) (i place : ℕ) → i + length bits < length os → Agree bits i → valid_ends place bits os i ≡ ends_from place (map length (rows_from (row_under v rows) i (length bits)))
  ends_under [] i place inside agree = refl
  ends_under (b ∷ bits) i place inside agree =
      let long = sym (row_long b i (omega (arith, inside)) (here b bits i agree)) in
      let rest = ends_under bits (i + 1) (place + valid_length b os i) (omega (arith, inside)) (next b bits i agree) in
      ap (λ es. (place + valid_length b os i) ∷ es) rest ∙ (λ t. (place + long t) ∷ ends_from (place + long t) (map length (rows_from (row_under v rows) (i + 1) (length bits))))

  bytes_under : (bits : List Bool) (i : ℕ) → i + length bits < length os → Agree bits i → valid_values bits os xs i ≡ concatenated (rows_from (row_under v rows) i (length bits))
  bytes_under [] i inside agree = refl
  bytes_under (b ∷ bits) i inside agree =
      let first = sym (row b i (omega (arith, inside)) (here b bits i agree)) in
      let rest = bytes_under bits (i + 1) (omega (arith, inside)) (next b bits i agree) in
      λ t. first t ++ rest t

-- those from one on, under their part of a validity
module _ {A : Type 0} (validity : List Bool) (os : List ℕ) (xs : List A) (sound : IsOffsets os) (within : last_of os ≤ length xs) (start count : ℕ) (part : start + count < length os) (covered : start + count ≤ length validity) where
  abbrev bits : List Bool
  bits = sliced validity start count

  many : length bits ≡ count
  many = length-sliced validity start count covered

  agree : (k : ℕ) → k < length bits → valid_at (Some validity) (start + k) ≡ get_or bits k false
  agree k below =
      get_or_default validity (start + k) true false (omega (arith, below, many, covered)) ∙ sym (get_or-take count _ k false (omega (arith, below, many)) ∙ get_or-drop start validity k false)

  pub valid_appended : (ends new_ends : List ℕ) (bytes new_bytes : List A) → new_ends ≡ ends ++ valid_ends (last_of ends) bits os start → new_bytes ≡ bytes ++ valid_values bits os xs start → AppendsRows (rows_from (row_under (Some validity) (pieces os xs)) start count) ends bytes new_ends new_bytes
  valid_appended ends new_ends bytes new_bytes places values =
      let inside : start + length bits < length os = omega (arith, part, many) in
      subst (λ n. AppendsRows (rows_from (row_under (Some validity) (pieces os xs)) start n) ends bytes new_ends new_bytes) many (record {
        ends = places ∙ ap (λ es. ends ++ es) (ends_under (Some validity) os xs sound within bits start (last_of ends) inside agree);
        items = values ∙ ap (λ bs. bytes ++ bs) (bytes_under (Some validity) os xs sound within bits start inside agree);
      })

  pub valid_total : valid_items bits os start ≡ total (rows_from (row_under (Some validity) (pieces os xs)) start count)
  valid_total =
      let rows = rows_from (row_under (Some validity) (pieces os xs)) start (length bits) in
      let inside : start + length bits < length os = omega (arith, part, many) in
      let all = ap length (bytes_under (Some validity) os xs sound within bits start inside agree) in
      sym (length-valid_values os xs sound within bits start inside) ∙ (all ∙ (sym (concatenated_length rows) ∙ (sum-map length rows ∙ ap (λ n. total (rows_from (row_under (Some validity) (pieces os xs)) start n)) many)))

-- or without one
module _ {A : Type 0} (os : List ℕ) (xs : List A) (sound : IsOffsets os) (within : last_of os ≤ length xs) where
  lengths : (i n : ℕ) → i + n < length os → map (row_length os) (range_with_len i n) ≡ map length (rows_from (row_under None (pieces os xs)) i n)
  lengths i zero inside = refl
  lengths i (suc n) inside =
      let long = sym (row_long None os xs sound within true i (omega (arith, inside)) refl) in
      let rest = lengths (i + 1) n (omega (arith, inside)) in
      λ t. long t ∷ rest t

  module _ (start count : ℕ) (part : start + count < length os) where
    abbrev set : List Bool
    set = replicate count true

    many_set : length set ≡ count
    many_set = length-replicate count true

    span : sliced xs (slice_index os start) (slice_index os (start + count) - slice_index os start) ≡ concatenated (rows_from (row_under None (pieces os xs)) start count)
    span =
        let run = set_run os xs sound within count [] start part in
        let agree = λ (k : ℕ) (below : k < length set). sym (get_or-replicate count k true false (omega (arith, below, many_set))) in
        sym (append-nil _) ∙ (sym run ∙ (ap (λ bs. valid_values bs os xs start) (append-nil set) ∙ (bytes_under None os xs sound within set start (omega (arith, part, many_set)) agree ∙ ap (λ n. concatenated (rows_from (row_under None (pieces os xs)) start n)) many_set)))

    pub run_appended : (ends new_ends : List ℕ) (bytes new_bytes : List A) → new_ends ≡ ends ++ counted_on (last_of ends) os start count → new_bytes ≡ bytes ++ sliced xs (slice_index os start) (slice_index os (start + count) - slice_index os start) → AppendsRows (rows_from (row_under None (pieces os xs)) start count) ends bytes new_ends new_bytes
    run_appended ends new_ends bytes new_bytes places values = record {
      ends = places ∙ ap (λ es. ends ++ es) (counted_ends os start count (last_of ends) sound part ∙ ap (ends_from (last_of ends)) (lengths start count part));
      items = values ∙ ap (λ bs. bytes ++ bs) span;
    }

    pub run_total : slice_index os (start + count) - slice_index os start ≡ total (rows_from (row_under None (pieces os xs)) start count)
    run_total =
        counted_sum os start count sound part ∙ (ap sum (lengths start count part) ∙ sum-map length (rows_from (row_under None (pieces os xs)) start count))

-- ---- a run of rows of one side that are all valid, or of null ones

empty_ends : (A : Type 0) (a n place : ℕ) → ends_from place (map length (rows_from {A = A} (λ i. []) a n)) ≡ replicate n place
empty_ends A a zero place = refl
empty_ends A a (suc n) place =
    let at : place + 0 ≡ place = omega arith in
    (λ t. at t ∷ ends_from (at t) (map length (rows_from {A = A} (λ i. []) (a + 1) n))) ∙ ap (λ es. place ∷ es) (empty_ends A (a + 1) n place)

nothing : (A : Type 0) (a n : ℕ) → concatenated (rows_from {A = A} (λ i. []) a n) ≡ []
nothing A a zero = refl
nothing A a (suc n) = nothing A (a + 1) n

module _ {A : Type 0} (v : Option (List Bool)) (bits : List Bool) (ls rs : List (List A)) (a n : ℕ) where
  pub valid_side : (b : Bool) → ((k : ℕ) → k < n → (valid_at v (a + k) ≡ true) × (slice_index_or bits (a + k) false ≡ b)) → rows_from (row_under None (if b then ls else rs)) a n ≡ rows_from (row_chosen v bits ls rs) a n
  valid_side b same =
      rows_same (row_under None (if b then ls else rs)) (row_chosen v bits ls rs) a n (λ k below. λ i. if sym (same k below).0 i then get_or (if sym (same k below).1 i then ls else rs) (a + k) [] else [])

  null_side : ((k : ℕ) → k < n → valid_at v (a + k) ≡ false) → rows_from (row_chosen v bits ls rs) a n ≡ rows_from (λ i. []) a n
  null_side null =
      rows_same (row_chosen v bits ls rs) (λ i. []) a n (λ k below. λ i. if null k below i then get_or (if slice_index_or bits (a + k) false then ls else rs) (a + k) [] else [])

  -- null rows come behind others
  pub nulls_appended : ((k : ℕ) → k < n → valid_at v (a + k) ≡ false) → (ends new_ends : List ℕ) (items : List A) → new_ends ≡ ends ++ replicate n (last_of ends) → AppendsRows (rows_from (row_chosen v bits ls rs) a n) ends items new_ends items
  nulls_appended null ends new_ends items is =
      subst (λ rows. AppendsRows rows ends items new_ends items) (sym (null_side null)) (record {
        ends = is ∙ ap (λ es. ends ++ es) (sym (empty_ends A a n (last_of ends)));
        items = sym (append-nil items) ∙ ap (λ xs. items ++ xs) (sym (nothing A a n));
      })
