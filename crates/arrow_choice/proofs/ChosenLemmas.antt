-- Rows that a predicate chooses, by what is stored and validities, a word at a time.
use Rattle.arrow_choice.proofs.Common.{arith, Err, length-drop, ◌≡◌, ◌+◌, ◌-◌, ◌*◌, ◌/◌, ◌%◌, ◌^◌, ◌<◌, min, ℕ, zero, suc, Bool, true, false, Option, Some, List, [], ◌∷◌, ◌++◌, length, map, replicate, take, drop, get_or, slice_index, refl, ap, sym, subst, ◌∙◌, if◌then◌else◌, zero-add, append_assoc, w64, not, ◌==◌, ◌&&◌, ◌||◌, bit_and, bit_or, slice_get, IfOk, Result, Ok, bit_at, bit_not, drop-drop, get_or-map, get_or-replicate, get_or_default, length-map, length-replicate, length-take, same_lists, take_min, get_or-map-range_with_len, bit_at-zero, bit_at_ones, ArrowType, choice, chosen, masked, valid_at, Slot, Null, Boolean, null_slot, take_at_read, length-chosen, AnswersWords, sliced, is_set, low_bits, word_of, bits_of_word, and_each, not_each, or_each, get_or-bits_in, length-bits_in, length-low_bits, Parts, FitsRows, boolean_rows, rows_by, length-masked, row_at, AreOneLength, MarksChosen, chosen_by, valid_chosen, fits_only_counted, is_only_counted, Fits, physical_type_of}

-- ---- members of two lists

pub length-chosen_by : {A : Type 0} (bits : List Bool) (xs ys : List A) → length xs ≡ length bits → length ys ≡ length bits → length (chosen_by bits xs ys) ≡ length bits
length-chosen_by [] xs ys left right = refl
length-chosen_by (b ∷ bits) (x ∷ xs) (y ∷ ys) left right =
    ap suc (length-chosen_by bits xs ys (omega (arith, left)) (omega (arith, right)))
length-chosen_by bits xs ys left right = absurd (omega (arith, left, right))

pub chosen_by-map : {A B : Type 0} (f : A → B) (bits : List Bool) (xs ys : List A) → map f (chosen_by bits xs ys) ≡ chosen_by bits (map f xs) (map f ys)
chosen_by-map f (true ∷ bits) (x ∷ xs) (y ∷ ys) = ap (λ zs. f x ∷ zs) (chosen_by-map f bits xs ys)
chosen_by-map f (false ∷ bits) (x ∷ xs) (y ∷ ys) = ap (λ zs. f y ∷ zs) (chosen_by-map f bits xs ys)
chosen_by-map f bits xs ys = refl

-- one of them
pub get_or-chosen_by : {A : Type 0} (bits : List Bool) (xs ys : List A) (i : ℕ) (d : A) → length xs ≡ length bits → length ys ≡ length bits → i < length bits → get_or (chosen_by bits xs ys) i d ≡ (if get_or bits i false then get_or xs i d else get_or ys i d)
get_or-chosen_by (b ∷ bits) (x ∷ xs) (y ∷ ys) zero d left right within = refl
get_or-chosen_by (b ∷ bits) (x ∷ xs) (y ∷ ys) (suc i) d left right within =
    get_or-chosen_by bits xs ys i d (omega (arith, left)) (omega (arith, right)) (omega (arith, within))
get_or-chosen_by bits xs ys i d left right within = absurd (omega (arith, within, left, right))

-- all of one list
all_of_side : {A : Type 0} (b : Bool) (n : ℕ) (xs ys : List A) → length xs ≡ n → length ys ≡ n → chosen_by (replicate n b) xs ys ≡ (if b then xs else ys)
all_of_side true zero [] ys left right = refl
all_of_side false zero xs [] left right = refl
all_of_side b (suc n) (x ∷ xs) (y ∷ ys) left right =
    ap (λ zs. (if b then x else y) ∷ zs) (all_of_side b n xs ys (omega (arith, left)) (omega (arith, right)))
all_of_side b n xs ys left right = absurd (omega (arith, left, right))

-- lists that are cut in two
nil_left : {A : Type 0} (bits : List Bool) (ys : List A) → ◌≡◌ {A = List A} (chosen_by bits [] ys) []
nil_left [] ys = refl
nil_left (b ∷ bits) ys = refl

nil_right : {A : Type 0} (bits : List Bool) (xs : List A) → ◌≡◌ {A = List A} (chosen_by bits xs []) []
nil_right (b ∷ bits) (x ∷ xs) = refl
nil_right bits xs = refl

chosen_by-cut : {A : Type 0} (n : ℕ) (bits : List Bool) (xs ys : List A) → chosen_by bits xs ys ≡ chosen_by (take n bits) (take n xs) (take n ys) ++ chosen_by (drop n bits) (drop n xs) (drop n ys)
chosen_by-cut (suc n) (b ∷ bits) [] ys = sym (nil_left (drop n bits) (drop (suc n) ys))
chosen_by-cut (suc n) (b ∷ bits) (x ∷ xs) [] = sym (nil_right (drop n bits) (drop n xs))
chosen_by-cut (suc n) (b ∷ bits) (x ∷ xs) (y ∷ ys) =
    ap (λ zs. (if b then x else y) ∷ zs) (chosen_by-cut n bits xs ys)
chosen_by-cut n bits xs ys = refl

pub chosen_by-from : {A : Type 0} (place n : ℕ) (bits : List Bool) (xs ys : List A) → chosen_by (drop place bits) (drop place xs) (drop place ys) ≡ chosen_by (sliced bits place n) (sliced xs place n) (sliced ys place n) ++ chosen_by (drop (place + n) bits) (drop (place + n) xs) (drop (place + n) ys)
chosen_by-from place n bits xs ys =
    chosen_by-cut n (drop place bits) (drop place xs) (drop place ys) ∙ (λ i. chosen_by (sliced bits place n) (sliced xs place n) (sliced ys place n) ++ chosen_by (drop-drop n place bits i) (drop-drop n place xs i) (drop-drop n place ys i))

-- ---- by the bits of a word

pub bit_of_low : (word n k : ℕ) (d : Bool) → k < n → get_or (low_bits word n) k d ≡ (bit_at word k == 1)
bit_of_low word n k d below =
    get_or-map-range_with_len (λ k. bit_at word k == 1) 0 n k k d below (omega arith)

-- bits that are all alike
same_low_bits : (word n : ℕ) (b : Bool) → ((k : ℕ) → k < n → (bit_at word k == 1) ≡ b) → low_bits word n ≡ replicate n b
same_low_bits word n b same =
    same_lists _ _ (length-low_bits word n ∙ sym (length-replicate n b)) (λ k d within.
    let below : k < n = omega (arith, within, length-low_bits word n) in
    bit_of_low word n k d below ∙ (same k below ∙ sym (get_or-replicate n k b d below)))

pub unset_bit : (word k : ℕ) → word ≡ 0 → (bit_at word k == 1) ≡ false
unset_bit word k is = ap (λ w. bit_at w k == 1) is ∙ ap (λ b. b == 1) (bit_at-zero k)

pub set_bit : (word k : ℕ) → word ≡ 18446744073709551615 → k < 64 → (bit_at word k == 1) ≡ true
set_bit word k is below = ap (λ w. bit_at w k == 1) is ∙ ap (λ b. b == 1) (bit_at_ones 64 k below)

-- what a word of them chooses
pub word_of_side : {A : Type 0} (word : ℕ) (b : Bool) (xs ys : List A) → length xs ≡ length ys → ((k : ℕ) → k < length xs → (bit_at word k == 1) ≡ b) → chosen_by (low_bits word (length xs)) xs ys ≡ (if b then xs else ys)
word_of_side word b xs ys lengths same =
    ap (λ bs. chosen_by bs xs ys) (same_low_bits word (length xs) b same) ∙ all_of_side b (length xs) xs ys refl (sym lengths)

-- one more of what a list begins with
pub begins_more : {A : Type 0} (before done whole : List A) (k : ℕ) (x : A) → done ≡ before ++ take k whole → slice_get whole k ≡ Some x → done ++ x ∷ [] ≡ before ++ take (k + 1) whole
begins_more before done whole k x is read =
    ap (λ zs. zs ++ x ∷ []) is ∙ (append_assoc before (take k whole) (x ∷ []) ∙ ap (λ zs. before ++ zs) (sym (take_at_read whole k x read)))

-- the part that a word of the bits chooses
pub part_chosen : {A : Type 0} (bits : List Bool) (xs ys : List A) (place word count n : ℕ) → length xs ≡ length bits → length ys ≡ length bits → count ≡ min 64 (length bits - place) → n ≡ count → word ≡ word_of (sliced bits place 64) → chosen_by (low_bits word (length (take n (drop place xs)))) (take n (drop place xs)) (take n (drop place ys)) ≡ chosen_by (sliced bits place 64) (sliced xs place 64) (sliced ys place 64)
part_chosen bits xs ys place word count n left right is cut read =
    let part = sliced bits place 64 in
    let long : length part ≡ count = omega (arith, is, length-take 64 (drop place bits), length-drop place bits) in
    let size : length (take n (drop place xs)) ≡ count = omega (arith, is, cut, left, length-take n (drop place xs), length-drop place xs) in
    let of_left : n ≡ min 64 (length (drop place xs)) = omega (arith, cut, is, left, length-drop place xs) in
    let of_right : n ≡ min 64 (length (drop place ys)) = omega (arith, cut, is, right, length-drop place ys) in
    let shown : low_bits word (length (take n (drop place xs))) ≡ part = ap (low_bits word) size ∙ bits_of_word part word count read long in
    let one : take n (drop place xs) ≡ sliced xs place 64 = ap (λ m. take m (drop place xs)) of_left ∙ take_min 64 (drop place xs) in
    let other : take n (drop place ys) ≡ sliced ys place 64 = ap (λ m. take m (drop place ys)) of_right ∙ take_min 64 (drop place ys) in
    λ t. chosen_by (shown t) (one t) (other t)

-- each bit of a word that two words make
either_bit : (b p q : Bool) → ((b && p) || (not b && q)) ≡ (if b then p else q)
either_bit true true q = refl
either_bit b p q = refl

pub either_each : (word left right k : ℕ) → word < 2 ^ 64 → k < 64 → (bit_at (bit_or (bit_and word left) (bit_and (bit_not w64 word) right)) k == 1) ≡ (if bit_at word k == 1 then bit_at left k == 1 else bit_at right k == 1)
either_each word left right k small below =
    let one = and_each word left k in
    let other = and_each (bit_not w64 word) right k ∙ ap (λ b. b && (bit_at right k == 1)) (not_each word k small below) in
    or_each (bit_and word left) (bit_and (bit_not w64 word) right) k ∙ ((λ t. one t || other t) ∙ either_bit (bit_at word k == 1) (bit_at left k == 1) (bit_at right k == 1))

-- ---- bits that are answered a word at a time

module _ (answered : ℕ → ℕ → Type 0) (len : ℕ) (f : ℕ → Bool) (gives : (j word : ℕ) → 64 * j < len → answered j word → (k : ℕ) → k < 64 → 64 * j + k < len → (bit_at word k == 1) ≡ f (64 * j + k)) (bits : List Bool) (all : AnswersWords answered len bits) where
  pub answered_long : length bits ≡ len
  answered_long = ap length all.first ∙ length-bits_in all.words 0 len

  pub answered_each : (i : ℕ) → i < len → get_or bits i false ≡ f i
  answered_each i below =
      let j = i / 64 in
      let k = i % 64 in
      let place : 64 * j + k ≡ i = omega arith in
      let first = ap (λ xs. get_or xs i false) all.first ∙ (get_or-bits_in all.words 0 len i false below ∙ ap (is_set all.words) (zero-add i)) in
      let is = gives j (slice_index all.words j) (omega (arith, below)) (all.each j (omega (arith, below))) k (omega arith) (omega (arith, below)) in
      first ∙ (is ∙ ap f place)

-- bits that others choose
pub bits_chosen : {E : Type 0} (r : Result (List Bool) E) (answered : ℕ → ℕ → Type 0) (len : ℕ) (bits xs ys : List Bool) → length bits ≡ len → length xs ≡ length bits → length ys ≡ length bits → ((j word : ℕ) → 64 * j < len → answered j word → (k : ℕ) → k < 64 → 64 * j + k < len → (bit_at word k == 1) ≡ (if get_or bits (64 * j + k) false then get_or xs (64 * j + k) false else get_or ys (64 * j + k) false)) → IfOk r (λ out. AnswersWords answered len out) → IfOk r (λ out. out ≡ chosen_by bits xs ys)
bits_chosen (Ok out) answered len bits xs ys long left right gives all =
    let f = λ (i : ℕ). if get_or bits i false then get_or xs i false else get_or ys i false in
    let size = answered_long answered len f gives out all in
    same_lists out (chosen_by bits xs ys) (size ∙ (sym long ∙ sym (length-chosen_by bits xs ys left right))) (λ i d within.
    let below : i < len = omega (arith, within, size) in
    get_or_default out i d false within ∙ (answered_each answered len f gives out all i below ∙ (sym (get_or-chosen_by bits xs ys i false left right (omega (arith, below, long))) ∙ get_or_default (chosen_by bits xs ys) i false d (omega (arith, below, long, length-chosen_by bits xs ys left right)))))
bits_chosen (Err e) answered len bits xs ys long left right gives all = tt

-- the validity of rows that are chosen
pub validity_chosen : (answered : ℕ → ℕ → Type 0) (p : Parts (List Bool)) (left right : Option (List Bool)) (len : ℕ) (bits : List Bool) → len ≡ length p.values → ((j word : ℕ) → 64 * j < len → answered j word → (k : ℕ) → k < 64 → 64 * j + k < length p.values → (bit_at word k == 1) ≡ valid_chosen p left right (64 * j + k)) → AnswersWords answered len bits → MarksChosen p left right (Some bits)
validity_chosen answered p left right len bits is gives all =
    let each = λ (j word : ℕ) (some : 64 * j < len) (answer : answered j word) (k : ℕ) (below : k < 64) (within : 64 * j + k < len). gives j word some answer k below (omega (arith, within, is)) in
    let size = answered_long answered len (valid_chosen p left right) each bits all in
    record {
      fits = size ∙ is;
      each = λ i below. get_or_default bits i true false (omega (arith, below, size, is)) ∙ answered_each answered len (valid_chosen p left right) each bits all i (omega (arith, below, is));
    }

-- ---- rows

pub get_or-chosen : (ps ls rs : List Slot) (t : ArrowType) (i : ℕ) (d : Slot) → length ls ≡ length ps → length rs ≡ length ps → i < length ps → get_or (chosen ps ls rs t) i d ≡ choice t (get_or ps i Null) (get_or ls i Null) (get_or rs i Null)
get_or-chosen (p ∷ ps) (l ∷ ls) (r ∷ rs) t zero d left right within = refl
get_or-chosen (p ∷ ps) (l ∷ ls) (r ∷ rs) t (suc i) d left right within =
    get_or-chosen ps ls rs t i d (omega (arith, left)) (omega (arith, right)) (omega (arith, within))
get_or-chosen ps ls rs t i d left right within = absurd (omega (arith, within, left, right))

-- rows under a validity: it has a bit for each, they are as many, and one of them
module _ {T : Type 0} (slot : T → Slot) (v : Option (List Bool)) (xs : List T) (fits : FitsRows v (length xs)) where
  pub slots_fit : FitsRows v (length (map slot xs))
  slots_fit = subst (FitsRows v) (sym (length-map xs slot)) fits

  pub long_slots : length (masked v (map slot xs)) ≡ length xs
  long_slots = length-masked v (map slot xs) slots_fit ∙ length-map xs slot

  pub slot_at : (i : ℕ) → i < length xs → get_or (masked v (map slot xs)) i Null ≡ (if valid_at v i then get_or (map slot xs) i Null else Null)
  slot_at i below = row_at v (map slot xs) i slots_fit (omega (arith, below, length-map xs slot))

pub truth_at : (v : Option (List Bool)) (bits : List Bool) (i : ℕ) → FitsRows v (length bits) → i < length bits → get_or (masked v (map Boolean bits)) i Null ≡ (if valid_at v i then Boolean (get_or bits i false) else Null)
truth_at v bits i fits below =
    slot_at Boolean v bits fits i below ∙ ap (λ s. if valid_at v i then s else Null) (get_or-map Boolean bits i false Null below)

-- a row by its bits
pub row_by_bits : (t : ArrowType) → null_slot t ≡ Null → (valid bit left right : Bool) (x y : Slot) → (if valid && (if bit then left else right) then (if bit then x else y) else Null) ≡ choice t (if valid then Boolean bit else Null) (if left then x else Null) (if right then y else Null)
row_by_bits t none true true left right x y = refl
row_by_bits t none true false left right x y = refl
row_by_bits t none false bit left right x y = sym none

-- what is stored of two arrays, and their validities, of which values and a validity are chosen
pub record Chooses {T : Type 0} (p : Parts (List Bool)) (l r : Parts (List T)) (values : List T) (validity : Option (List Bool)) : Type 0 where
  pub fits : FitsRows p.validity (length p.values)
  pub long_left : length l.values ≡ length p.values
  pub long_right : length r.values ≡ length p.values
  pub fits_left : FitsRows l.validity (length l.values)
  pub fits_right : FitsRows r.validity (length r.values)
  pub are : values ≡ chosen_by p.values l.values r.values
  pub marks : MarksChosen p l.validity r.validity validity

-- they are so of arrays of one length
pub chooses : {T : Type 0} (slot : T → Slot) (p : Parts (List Bool)) (l r : Parts (List T)) (values : List T) (validity v w : Option (List Bool)) → AreOneLength (boolean_rows p) (rows_by (map slot) l) (rows_by (map slot) r) → FitsRows p.validity (length p.values) → FitsRows l.validity (length (map slot l.values)) → FitsRows r.validity (length (map slot r.values)) → v ≡ l.validity → w ≡ r.validity → values ≡ chosen_by p.values l.values r.values → MarksChosen p v w validity → Chooses p l r values validity
chooses slot p l r values validity v w lengths fits left right as_left as_right are marks =
    let fits_left : FitsRows l.validity (length l.values) = subst (FitsRows l.validity) (length-map l.values slot) left in
    let fits_right : FitsRows r.validity (length r.values) = subst (FitsRows r.validity) (length-map r.values slot) right in
    let truths = long_slots Boolean p.validity p.values fits in
    record {
      fits = fits;
      long_left = sym (long_slots slot l.validity l.values fits_left) ∙ (lengths.0 ∙ truths);
      long_right = sym (long_slots slot r.validity r.values fits_right) ∙ (lengths.1 ∙ truths);
      fits_left = fits_left;
      fits_right = fits_right;
      are = are;
      marks = subst (λ u. MarksChosen p l.validity u validity) as_right (subst (λ u. MarksChosen p u w validity) as_left marks);
    }

module _ {T : Type 0} {p : Parts (List Bool)} {l r : Parts (List T)} {values : List T} {validity : Option (List Bool)} (all : Chooses p l r values validity) where
  pub long_values : length values ≡ length p.values
  long_values =
      ap length all.are ∙ length-chosen_by p.values l.values r.values all.long_left all.long_right

  -- the validity has a bit for each row
  pub values_fit : FitsRows validity (length values)
  values_fit = subst (FitsRows validity) (sym long_values) all.marks.fits

  -- a row is that of the side by the predicate's
  row_is : (slot : T → Slot) (t : ArrowType) → null_slot t ≡ Null → (i : ℕ) → i < length p.values → get_or (masked validity (map slot values)) i Null ≡ choice t (get_or (boolean_rows p) i Null) (get_or (rows_by (map slot) l) i Null) (get_or (rows_by (map slot) r) i Null)
  row_is slot t none i below =
      let bit = get_or p.values i false in
      let xs = map slot l.values in
      let ys = map slot r.values in
      let stored : get_or (map slot values) i Null ≡ (if bit then get_or xs i Null else get_or ys i Null) = ap (λ zs. get_or zs i Null) (ap (map slot) all.are ∙ chosen_by-map slot p.values l.values r.values) ∙ get_or-chosen_by p.values xs ys i Null (length-map l.values slot ∙ all.long_left) (length-map r.values slot ∙ all.long_right) below in
      let here = slot_at slot validity values values_fit i (omega (arith, below, long_values)) in
      let truth = truth_at p.validity p.values i all.fits below in
      let one = slot_at slot l.validity l.values all.fits_left i (omega (arith, below, all.long_left)) in
      let other = slot_at slot r.validity r.values all.fits_right i (omega (arith, below, all.long_right)) in
      here ∙ ((λ h. if all.marks.each i below h then stored h else Null) ∙ (row_by_bits t none (valid_at p.validity i) bit (valid_at l.validity i) (valid_at r.validity i) (get_or xs i Null) (get_or ys i Null) ∙ (λ h. choice t (sym truth h) (sym one h) (sym other h))))

  pub rows_chosen : (slot : T → Slot) (t : ArrowType) → null_slot t ≡ Null → masked validity (map slot values) ≡ chosen (boolean_rows p) (rows_by (map slot) l) (rows_by (map slot) r) t
  rows_chosen slot t none =
      let truths = long_slots Boolean p.validity p.values all.fits in
      let left = long_slots slot l.validity l.values all.fits_left ∙ (all.long_left ∙ sym truths) in
      let right = long_slots slot r.validity r.values all.fits_right ∙ (all.long_right ∙ sym truths) in
      let long = length-chosen (boolean_rows p) (rows_by (map slot) l) (rows_by (map slot) r) t (sym left) (sym right) ∙ truths in
      let size = long_slots slot validity values values_fit ∙ long_values in
      same_lists _ _ (size ∙ sym long) (λ i d within.
      let below : i < length p.values = omega (arith, within, size) in
      get_or_default (masked validity (map slot values)) i d Null within ∙ (row_is slot t none i below ∙ sym (get_or-chosen (boolean_rows p) (rows_by (map slot) l) (rows_by (map slot) r) t i d left right (omega (arith, below, truths)))))

-- rows that need only be counted fit where they are those that a predicate chooses
pub counted_fit : (t u : ArrowType) (xs ps ls rs : List Slot) → is_only_counted (physical_type_of t) ≡ true → u ≡ t → AreOneLength ps ls rs → length ps < 2 ^ 64 → xs ≡ chosen ps ls rs t → Fits u xs
counted_fit t u xs ps ls rs counted same lengths few are =
    let many = ap length are ∙ length-chosen ps ls rs t (sym lengths.0) (sym lengths.1) in
    subst (λ s. Fits s xs) (sym same) (fits_only_counted t xs counted (omega (arith, few, many)))
