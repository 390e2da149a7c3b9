-- Rows by index: what is stored by index, under the validity by index.
use Rattle.arrow_take.proofs.Common.{arith, ◌≡◌, ◌/◌, ◌^◌, ◌==◌, ℕ, suc, ◌<◌, ℤ, pos, Bool, true, false, Option, Some, None, List, [], ◌∷◌, ◌++◌, ◌+◌, ◌≤◌, length, map, take, take-add, get_or, nat_eq, bit_and, replicate, if◌then◌else◌, refl, ap, sym, subst, ◌∙◌, append_assoc, IfSome, slice_get, slice_index_or, option_map, unwrap_or, bit_at, All, get_or_default, length-map, map-append, take_all, map-map, shr_and_one, slice_get-get_or, slice_get-map, slice_get_read, ArrowType, gather, gathered, mask, masked, valid_at, Slot, Null, Number, null_slot, slice_get-mask, take_at_read, sliced, FitsRows, IsValue, bit_within, length-masked, row_at, slot_of_row, AreKeys, IsKey, key_in, null_row, number_row, MarksTaken, is_taken_valid, named_bit, picked, valid_index, drop, get_or-drop, get_or-map, get_or-take, length-drop, length-take, map_constant, nil_from_length, same_lists, splat_is_map, ◌-◌, length-sliced, word_of, word_more, bits_of_word, low_bits, bit_or, from_bool, ◌%◌, ◌*◌, not, each_key}

-- functions that agree on each member
pub map-agree : {A B : Type 0} (P : A → Type 0) (f g : A → B) → ((x : A) → P x → f x ≡ g x) → (xs : List A) → All P xs → map f xs ≡ map g xs
map-agree P f g same [] all = refl
map-agree P f g same (x ∷ xs) all =
    let first = same x (all 0 x (omega arith)) in
    let rest = map-agree P f g same xs (λ k d within. all (suc k) d (omega (arith, within))) in
    λ i. first i ∷ rest i

-- the row of a key, and of none the null slot
abbrev pub row_by : List Slot → ArrowType → Option ℕ → Slot
row_by xs t None = null_slot t
row_by xs t (Some n) = unwrap_or (slice_get xs n) (null_slot t)

pub by_key : (xs : List Slot) (t : ArrowType) (s : Slot) → gathered xs t s ≡ row_by xs t (key_in s)
by_key xs t Null = refl
by_key xs t (Number (pos n)) = refl
by_key xs t s = refl

-- what is read by index of rows that are changed one by one
row_by-map : (h : Slot → Slot) (xs : List Slot) (t u : ArrowType) → h (null_slot t) ≡ null_slot u → (key : Option ℕ) → h (row_by xs t key) ≡ row_by (map h xs) u key
row_by-map h xs t u none None = none
row_by-map h xs t u none (Some n) =
    let read : (o : Option Slot) → h (unwrap_or o (null_slot t)) ≡ unwrap_or (option_map h o) (null_slot u) = elim [ None ↦ none | (Some x) ↦ refl ] in
    read (slice_get xs n) ∙ ap (λ o. unwrap_or o (null_slot u)) (sym (slice_get-map h xs n))

pub gather-map : (h : Slot → Slot) (xs : List Slot) (t u : ArrowType) → h (null_slot t) ≡ null_slot u → (indices : List Slot) → map h (gather xs indices t) ≡ gather (map h xs) indices u
gather-map h xs t u none [] = refl
gather-map h xs t u none (s ∷ indices) =
    let first = ap h (by_key xs t s) ∙ (row_by-map h xs t u none (key_in s) ∙ sym (by_key (map h xs) u s)) in
    let rest = gather-map h xs t u none indices in
    λ i. first i ∷ rest i

-- bits of indices over what is stored by index
pub mask-map : (g : Slot → Bool) (f : Slot → Slot) (indices : List Slot) → mask (map g indices) (map f indices) ≡ map (λ s. if g s then f s else Null) indices
mask-map g f [] = refl
mask-map g f (s ∷ indices) =
    ap (λ xs. (if g s then f s else Null) ∷ xs) (mask-map g f indices)

-- what is stored for each row that is valid
abbrev pub Stores : Option (List Bool) → List Slot → (Slot → Slot) → Type 0
Stores v xs f = (n : ℕ) → n < length xs → valid_at v n ≡ true → slice_get xs n ≡ Some (f (Number (pos n)))

module _ (xs : List Slot) (t : ArrowType) (f : Slot → Slot) (none : null_slot t ≡ Null) where
  row_under : (bits : List Bool) → length bits ≡ length xs → Stores (Some bits) xs f → (n : ℕ) → n < length xs → (b : Bool) → slice_index_or bits n false ≡ b → (if b then f (Number (pos n)) else Null) ≡ gathered (mask bits xs) t (Number (pos n))
  row_under bits same stores n within true is =
      let read = slice_get-get_or bits n false (omega (arith, within, same)) ∙ ap Some is in
      let valid = get_or_default bits n true false (omega (arith, within, same)) ∙ is in
      sym (ap (λ o. unwrap_or o (null_slot t)) (slice_get-mask bits xs n true _ read (stores n within valid)))
  row_under bits same stores n within false is =
      let read = slice_get-get_or bits n false (omega (arith, within, same)) ∙ ap Some is in
      sym (ap (λ o. unwrap_or o (null_slot t)) (slice_get-mask bits xs n false _ read (slice_get-get_or xs n Null within)))

  pub row_taken : (v : Option (List Bool)) → FitsRows v (length xs) → Stores v xs f → (s : Slot) → IsKey (length xs) s → (if is_taken_valid v s then f s else Null) ≡ gathered (masked v xs) t s
  row_taken None fits stores =
      each_key (length xs) _ (sym none) (λ n within. sym (ap (λ o. unwrap_or o (null_slot t)) (stores n within refl)))
  row_taken (Some bits) fits stores =
      each_key (length xs) _ (sym none) (λ n within. row_under bits fits stores n within (slice_index_or bits n false) refl)

  -- under the validity by index these are the rows by index
  pub rows_taken : (v taken : Option (List Bool)) (indices : List Slot) → FitsRows v (length xs) → Stores v xs f → AreKeys (length xs) indices → MarksTaken v indices taken → masked taken (map f indices) ≡ gather (masked v xs) indices t
  rows_taken v (Some bits) indices fits stores keys marks =
      ap (λ bs. mask bs (map f indices)) marks ∙ (mask-map (is_taken_valid v) f indices ∙ map-agree (IsKey (length xs)) _ _ (row_taken v fits stores) indices keys)
  rows_taken None None indices fits stores keys marks =
      map-agree (λ s. IsKey (length xs) s × IsValue s) f _ (λ s p. ap (λ b. if not b then f s else Null) (sym p.1) ∙ row_taken None fits stores s p.0) indices (λ k d within. (keys k d within, marks.1 k d within))
  rows_taken (Some bits) None indices fits stores keys marks = absurd (cc)

-- the validity by index has a bit for each index
pub fits_taken : (v taken : Option (List Bool)) (indices : List Slot) → MarksTaken v indices taken → FitsRows taken (length indices)
fits_taken v None indices marks = tt
fits_taken v (Some bits) indices marks = ap length marks ∙ length-map indices (is_taken_valid v)

-- an index that is there is valid where the row is that it names
pub named_valid : (v : Option (List Bool)) (n count : ℕ) → FitsRows v count → n < count → valid_at v n ≡ is_taken_valid v (Number (pos n))
named_valid None n count fits within = refl
named_valid (Some bits) n count fits within = get_or_default bits n true false (omega (arith, fits, within))

-- indices that are null also where the row that they name is
pub null_is_none : (v : Option (List Bool)) → is_taken_valid v Null ≡ false
null_is_none None = refl
null_is_none (Some bits) = refl

-- what is stored of an index, under the validity by index
index_stays : (v : Option (List Bool)) (b : Bool) (y : Slot) → (if is_taken_valid v (if b then y else Null) then y else Null) ≡ valid_index v (if b then y else Null)
index_stays v true y = refl
index_stays v false y = rw (null_is_none v) refl

value_stays : (b : Bool) (y : Slot) → IsValue (if b then y else Null) → y ≡ valid_index None (if b then y else Null)
value_stays true y value = rw value refl
value_stays false y value = absurd (cc)

row_stays : (v nulls taken : Option (List Bool)) (ys : List Slot) → FitsRows nulls (length ys) → MarksTaken v (masked nulls ys) taken → (i : ℕ) → i < length ys → (if valid_at taken i then get_or ys i Null else Null) ≡ valid_index v (get_or (masked nulls ys) i Null)
row_stays v nulls None ys fits marks i within =
    let row = row_at nulls ys i fits within in
    let value = marks.1 i Null (omega (arith, within, length-masked nulls ys fits)) in
    value_stays (valid_at nulls i) (get_or ys i Null) (subst IsValue row value) ∙ (λ j. valid_index (sym marks.0 j) (sym row j))
row_stays v nulls (Some bits) ys fits marks i within =
    let row = row_at nulls ys i fits within in
    let bit = ap (λ bs. get_or bs i true) marks ∙ get_or-map (is_taken_valid v) (masked nulls ys) i Null true (omega (arith, within, length-masked nulls ys fits)) in
    ap (λ b. if b then get_or ys i Null else Null) (bit ∙ ap (is_taken_valid v) row) ∙ (index_stays v (valid_at nulls i) (get_or ys i Null) ∙ ap (valid_index v) (sym row))

pub indices_valid : (v nulls taken : Option (List Bool)) (ys : List Slot) → FitsRows nulls (length ys) → MarksTaken v (masked nulls ys) taken → masked taken ys ≡ map (valid_index v) (masked nulls ys)
indices_valid v nulls taken ys fits marks =
    let long = length-masked nulls ys fits in
    let fits_too = subst (FitsRows taken) long (fits_taken v taken (masked nulls ys) marks) in
    let same = length-masked taken ys fits_too in
    same_lists _ _ (same ∙ (sym long ∙ sym (length-map (masked nulls ys) (valid_index v)))) (λ i d within.
    let here : i < length ys = omega (arith, within, same) in
    let read = get_or-map (valid_index v) (masked nulls ys) i Null d (omega (arith, here, long)) in
    get_or_default (masked taken ys) i d Null within ∙ (row_at taken ys i fits_too here ∙ (row_stays v nulls taken ys fits marks i here ∙ sym read)))

-- the row of an index that was read
module _ {I : Type 0} (slot : I → Slot) (number : I → ℤ) (is : (x : I) → slot x ≡ Number (number x)) (v : Option (List Bool)) (keys : List I) (i : ℕ) (fits : FitsRows v (length keys)) (within : i < length keys) where
  slots_fit : FitsRows v (length (map slot keys))
  slots_fit = subst (FitsRows v) (sym (length-map keys slot)) fits

  pub row_within : i < length (masked v (map slot keys))
  row_within = omega (arith, within, length-map keys slot, length-masked v (map slot keys) slots_fit)

  -- by its bit in a word of the validity
  pub row_by_bit : (x : I) (word k : ℕ) → (IfSome v (λ bits. i < length bits) → (bit_at word k == 1) ≡ valid_at v i) → x ≡ get_or keys i x → (if nat_eq (bit_and (word / 2 ^ k) 1) 1 then slot x else Null) ≡ get_or (masked v (map slot keys)) i Null
  row_by_bit x word k marks read =
      let bit = ap (λ b. nat_eq b 1) (shr_and_one word k) ∙ marks (bit_within v (length keys) i fits within) in
      let stored = slot_of_row slot keys i x (slice_get_read keys (length keys) i x refl within read) in
      (λ t. if bit t then sym stored t else Null) ∙ sym (row_at v (map slot keys) i slots_fit (omega (arith, within, length-map keys slot)))

  pub number_at : (x : I) → true ≡ valid_at v i → x ≡ get_or keys i x → get_or (masked v (map slot keys)) i Null ≡ Number (number x)
  number_at x valid read =
      number_row slot number is v keys i x slots_fit row_within valid (slice_get_read keys (length keys) i x refl within read)

  pub null_at : false ≡ valid_at v i → get_or (masked v (map slot keys)) i Null ≡ Null
  null_at null = null_row v (map slot keys) i slots_fit row_within null

-- what the indices so far give, and one more
pub gives_next : {A : Type 0} (f : Slot → A) (old done : List A) (indices : List Slot) (i : ℕ) (x : A) → i < length indices → x ≡ f (get_or indices i Null) → done ≡ old ++ map f (take i indices) → done ++ x ∷ [] ≡ old ++ map f (take (i + 1) indices)
gives_next f old done indices i x within is so_far =
    let next = take_at_read indices i _ (slice_get-get_or indices i Null within) in
    (λ j. so_far j ++ is j ∷ []) ∙ (append_assoc old (map f (take i indices)) (f (get_or indices i Null) ∷ []) ∙ ap (λ ys. old ++ ys) (sym (map-append f (take i indices) (get_or indices i Null ∷ [])) ∙ ap (map f) (sym next)))

-- and so many more
pub gives_more : {A : Type 0} (f : Slot → A) (old done new : List A) (indices : List Slot) (i place count : ℕ) → place ≡ i → new ≡ done ++ map f (sliced indices place count) → done ≡ old ++ map f (take i indices) → new ≡ old ++ map f (take (i + count) indices)
gives_more f old done new indices i place count here more so_far =
    let next = ap (λ p. map f (sliced indices p count)) here in
    more ∙ ((λ j. so_far j ++ next j) ∙ (append_assoc old (map f (take i indices)) (map f (sliced indices i count)) ∙ ap (λ ys. old ++ ys) (sym (map-append f (take i indices) (sliced indices i count)) ∙ ap (map f) (sym (take-add i count indices)))))

-- and of all
pub gives_all : {A : Type 0} (f : Slot → A) (old done : List A) (indices : List Slot) (i : ℕ) → length indices ≤ i → done ≡ old ++ map f (take i indices) → done ≡ old ++ map f indices
gives_all f old done indices i all so_far = so_far ∙ ap (λ is. old ++ map f is) (take_all i indices all)

-- one of what is read behind the first rows, of what more rows give
pub read_behind : {A : Type 0} (f : Slot → A) (rows : List Slot) (items : List A) (row n k : ℕ) (d : A) → items ≡ map f (take n rows) → k < length (take (length items - row) (drop row items)) → (row + k < length rows) × (get_or (take (length items - row) (drop row items)) k d ≡ f (get_or rows (row + k) Null))
read_behind f rows items row n k d are within =
    let long = length-take (length items - row) (drop row items) in
    let among : row + k < length (take n rows) = omega (arith, within, long, length-drop row items, ap length are, length-map (take n rows) f) in
    let first = get_or-take (length items - row) (drop row items) k d (omega (arith, within, long)) ∙ get_or-drop row items k d in
    let next = get_or-map f (take n rows) (row + k) Null d among ∙ ap f (get_or-take n rows (row + k) Null (omega (arith, among, length-take n rows))) in
    (omega (arith, among, length-take n rows), first ∙ (ap (λ xs. get_or xs (row + k) d) are ∙ next))

pub nil_of : {A : Type 0} (xs : List A) → length xs ≡ 0 → xs ≡ []
nil_of = nil_from_length

-- what nulls give where there is nothing to name
pub picked_none : {A : Type 0} (spare : A) (indices : List Slot) → replicate (length indices) spare ≡ map (picked [] spare) indices
picked_none spare indices = splat_is_map indices (length indices) spare refl

pub no_bits : (indices : List Slot) → AreKeys 0 indices → replicate (length indices) false ≡ map (named_bit []) indices
no_bits indices keys =
    splat_is_map indices (length indices) false refl ∙ map-agree (IsKey 0) (λ s. false) (named_bit []) (each_key 0 (λ s. false ≡ named_bit [] s) refl (λ n none. absurd (omega (arith, none)))) indices keys

-- as many rows as indices that are stored
pub length-masked_slots : {I : Type 0} (slot : I → Slot) (v : Option (List Bool)) (keys : List I) → FitsRows v (length keys) → length (masked v (map slot keys)) ≡ length keys
length-masked_slots slot v keys fits =
    length-masked v (map slot keys) (subst (FitsRows v) (sym (length-map keys slot)) fits) ∙ length-map keys slot

-- values that are stored by index, under the validity by index
pub values_taken : {T : Type 0} (slot : T → Slot) (g : Slot → T) (values taken : List T) (t : ArrowType) (v validity : Option (List Bool)) (indices : List Slot) → ((n : ℕ) → n < length values → slice_get values n ≡ Some (g (Number (pos n)))) → null_slot t ≡ Null → FitsRows v (length (map slot values)) → AreKeys (length (masked v (map slot values))) indices → MarksTaken v indices validity → taken ≡ map g indices → masked validity (map slot taken) ≡ gather (masked v (map slot values)) indices t
values_taken slot g values taken t v validity indices read none fits keys marks are =
    let stores : Stores v (map slot values) (λ s. slot (g s)) = λ n within valid. slice_get-map slot values n ∙ ap (option_map slot) (read n (omega (arith, within, length-map values slot))) in
    ap (λ xs. masked validity (map slot xs)) are ∙ (ap (masked validity) (map-map slot g indices) ∙ rows_taken (map slot values) t (λ s. slot (g s)) none v validity indices fits stores (subst (λ n. AreKeys n indices) (length-masked v (map slot values) fits) keys) marks)

-- as many rows as indices
pub length-gather : (xs indices : List Slot) (t : ArrowType) → length (gather xs indices t) ≡ length indices
length-gather xs indices t = length-map indices (gathered xs t)

-- as many nulls as indices
pub nulls_taken : (n : ℕ) (t : ArrowType) → null_slot t ≡ Null → (indices : List Slot) → replicate (length indices) Null ≡ gather (replicate n Null) indices t
nulls_taken n t none indices =
    let xs = replicate n Null in
    splat_is_map (gather xs indices t) (length indices) Null (length-gather xs indices t) ∙ (gather-map (λ s. Null) xs t t (sym none) indices ∙ ap (λ ys. gather ys indices t) (map_constant (λ s. Null) n Null))

-- bits that the indices name, as a word: one more, and all
pub word_next : (bits : List Bool) (rows : List Slot) (start k word : ℕ) (b : Bool) → start + k < length rows → k < 64 → b ≡ named_bit bits (get_or rows (start + k) Null) → word ≡ word_of (map (named_bit bits) (sliced rows start k)) → bit_or word (from_bool b * 2 ^ k % 18446744073709551616) ≡ word_of (map (named_bit bits) (sliced rows start (k + 1)))
word_next bits rows start k word b within few is so_far =
    let part = drop start rows in
    let below : k < length part = omega (arith, within, length-drop start rows) in
    let long : length (map (named_bit bits) (take k part)) ≡ k = omega (arith, below, length-map (take k part) (named_bit bits), length-take k part) in
    let read = is ∙ ap (named_bit bits) (sym (get_or-drop start rows k Null)) in
    word_more (map (named_bit bits) (take k part)) b word k long few so_far ∙ ap word_of (gives_next (named_bit bits) [] (map (named_bit bits) (take k part)) part k b below read refl)

pub word_whole : (bits : List Bool) (rows : List Slot) (start k count word : ℕ) → start + count ≤ length rows → k ≡ count → word ≡ word_of (map (named_bit bits) (sliced rows start k)) → low_bits word count ≡ map (named_bit bits) (sliced rows start count)
word_whole bits rows start k count word within whole is =
    let long = length-map (sliced rows start count) (named_bit bits) ∙ length-sliced rows start count within in
    bits_of_word (map (named_bit bits) (sliced rows start count)) word count (is ∙ ap (λ n. word_of (map (named_bit bits) (sliced rows start n))) whole) long
