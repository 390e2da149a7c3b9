-- Keys that are moved behind the values of other dictionaries, by the bits of half a word.
use Rattle.arrow_flat_growable.proofs.Common.{arith, ◌≡◌, ◌+◌, ◌/◌, ◌%◌, ◌*◌, ◌^◌, ◌==◌, ◌<◌, ◌≤◌, ℕ, Bool, true, false, Option, Some, None, List, [], ◌∷◌, ◌++◌, length, map, take, drop, get_or, nat_eq, bit_and, replicate, if◌then◌else◌, refl, ap, sym, ◌∙◌, append_assoc, IfSome, set, bit_at, ext_get_or, get_or-drop, get_or-replicate, get_or-take, get_or_default, length-map, length-replicate, map-append, take_more, take_more_set, get_or-map-range_with_len, shr-shr, bit_at_cat_low, shr_and_one, get_or_from_slice_get, slice_get-get_or, slice_get_read, mask, masked, valid_at, Slot, Null, length-mask, slice_get-mask, sliced, low_bits, map_sliced, length-sliced, sliced-cut, length-low_bits, FitsRows, bits_of_slice, slot_of_row, mask-part}

-- a bit of a number
bit_of_low : (half n k : ℕ) (d : Bool) → k < n → get_or (low_bits half n) k d ≡ (bit_at half k == 1)
bit_of_low half n k d below = get_or-map-range_with_len (λ i. bit_at half i == 1) 0 n k k d below (omega arith)

-- rows under the bits of a number

pub length-bit_rows : (half n : ℕ) (xs : List Slot) → n ≡ length xs → length (mask (low_bits half n) xs) ≡ n
length-bit_rows half n xs long =
    length-mask (low_bits half n) xs (length-low_bits half n ∙ long) ∙ sym long

pub bit_row : {K : Type 0} (slot : K → Slot) (half n : ℕ) (keys : List K) (k : ℕ) (x : K) → n ≡ length keys → k < n → x ≡ get_or keys k x → (if nat_eq (bit_and (half / 2 ^ k) 1) 1 then slot x else Null) ≡ get_or (mask (low_bits half n) (map slot keys)) k Null
bit_row slot half n keys k x long below read =
    let bit = slice_get-get_or (low_bits half n) k false (omega (arith, below, length-low_bits half n)) ∙ ap Some (bit_of_low half n k false below) in
    let stored = slot_of_row slot keys k x (slice_get_read keys (length keys) k x refl (omega (arith, long, below)) read) in
    let key = slice_get-get_or (map slot keys) k Null (omega (arith, long, below, length-map keys slot)) ∙ ap Some stored in
    ap (λ b. if nat_eq b 1 then slot x else Null) (shr_and_one half k) ∙ sym (get_or_from_slice_get (mask (low_bits half n) (map slot keys)) k _ Null (slice_get-mask (low_bits half n) (map slot keys) k _ (slot x) bit key))

-- one more key that is moved in place
pub moved_next : {K : Type 0} (slot : K → Slot) (f : Slot → Slot) (rows : List Slot) (keys : List K) (k : ℕ) (key : K) → k < length keys → k < length rows → slot key ≡ f (get_or rows k Null) → map slot (take k keys) ≡ map f (take k rows) → map slot (take (k + 1) (set keys k key)) ≡ map f (take (k + 1) rows)
moved_next slot f rows keys k key within inside is so_far =
    ap (map slot) (take_more_set keys k key within) ∙ (map-append slot (take k keys) (key ∷ []) ∙ ((λ t. so_far t ++ is t ∷ []) ∙ (sym (map-append f (take k rows) (get_or rows k Null ∷ [])) ∙ ap (map f) (sym (take_more rows k Null inside)))))

-- the bits of half a word are those of the word that it is of

half_bit : (word half row k : ℕ) → half ≡ word / 2 ^ (row % 64) % 2 ^ 32 → row % 32 + k < 32 → bit_at half k ≡ bit_at word (row % 64 + k)
half_bit word half row k is below =
    let high = word / 2 ^ (row % 64) in
    let cut : high ≡ high / 2 ^ 32 * 2 ^ 32 + high % 2 ^ 32 = omega arith in
    let low = bit_at_cat_low (high / 2 ^ 32) 32 (high % 2 ^ 32) k (omega (arith, below)) in
    ap (λ n. bit_at n k) is ∙ (sym low ∙ (ap (λ n. bit_at n k) (sym cut) ∙ ap (λ n. n % 2) (shr-shr word (row % 64) k)))

pub half_marks : (bits : List Bool) (word half row : ℕ) → half ≡ word / 2 ^ (row % 64) % 2 ^ 32 → ((k : ℕ) → k < 64 → (bit_at word k == 1) ≡ get_or bits (64 * (row / 64) + k) false) → (k : ℕ) → row % 32 + k < 32 → row + k < length bits → (bit_at half k == 1) ≡ get_or bits (row + k) true
half_marks bits word half row is each k below within =
    let at : 64 * (row / 64) + (row % 64 + k) ≡ row + k = omega arith in
    ap (λ n. n == 1) (half_bit word half row k is below) ∙ (each (row % 64 + k) (omega (arith, below)) ∙ (ap (λ i. get_or bits i false) at ∙ get_or_default bits (row + k) false true within))

-- the rows of one half of a word are those of the validity

half_bits : (v : Option (List Bool)) (n row count half : ℕ) → FitsRows v n → row + count ≤ n → row % 32 + count ≤ 32 → ((k : ℕ) → row % 32 + k < 32 → IfSome v (λ bits. row + k < length bits) → (bit_at half k == 1) ≡ valid_at v (row + k)) → low_bits half count ≡ bits_of_slice v row count
half_bits None n row count half fits within in_half marks =
    ext_get_or false (low_bits half count) (replicate count true) (length-low_bits half count ∙ sym (length-replicate count true)) (λ k below.
    let here : k < count = omega (arith, below, length-low_bits half count) in
    bit_of_low half count k false here ∙ (marks k (omega (arith, here, in_half)) tt ∙ sym (get_or-replicate count k true false here)))
half_bits (Some bits) n row count half fits within in_half marks =
    let long = length-sliced bits row count (omega (arith, fits, within)) in
    ext_get_or false (low_bits half count) (sliced bits row count) (length-low_bits half count ∙ sym long) (λ k below.
    let here : k < count = omega (arith, below, length-low_bits half count) in
    let there : row + k < length bits = omega (arith, here, fits, within) in
    let read = get_or-take count (drop row bits) k false here ∙ get_or-drop row bits k false in
    bit_of_low half count k false here ∙ (marks k (omega (arith, here, in_half)) there ∙ (get_or_default bits (row + k) true false there ∙ sym read)))

pub half_rows : {K : Type 0} (slot : K → Slot) (v : Option (List Bool)) (stored part : List K) (row count half : ℕ) → FitsRows v (length stored) → row + count ≤ length stored → row % 32 + count ≤ 32 → part ≡ sliced stored row count → ((k : ℕ) → row % 32 + k < 32 → IfSome v (λ bits. row + k < length bits) → (bit_at half k == 1) ≡ valid_at v (row + k)) → mask (low_bits half (length part)) (map slot part) ≡ sliced (masked v (map slot stored)) row count
half_rows slot v stored part row count half fits within in_half is marks =
    let long : length part ≡ count = ap length is ∙ length-sliced stored row count within in
    let bits = ap (low_bits half) long ∙ half_bits v (length stored) row count half fits within in_half marks in
    (λ i. mask (bits i) (map slot (is i))) ∙ (ap (mask (bits_of_slice v row count)) (map_sliced slot stored row count) ∙ mask-part v (map slot stored) row count (omega (arith, within, length-map stored slot)))

-- so many rows more behind those so far
pub moved_more : {A : Type 0} (f : Slot → A) (old done new : List A) (rows : List Slot) (start n row count m : ℕ) → row ≡ start + n → m ≡ n + count → new ≡ done ++ map f (sliced rows row count) → done ≡ old ++ map f (sliced rows start n) → new ≡ old ++ map f (sliced rows start m)
moved_more f old done new rows start n row count m at more is so_far =
    let next = ap (sliced rows start) more ∙ (sliced-cut rows start n count ∙ ap (λ i. sliced rows start n ++ sliced rows i count) (sym at)) in
    is ∙ (ap (λ xs. xs ++ map f (sliced rows row count)) so_far ∙ (append_assoc old (map f (sliced rows start n)) (map f (sliced rows row count)) ∙ ap (λ ys. old ++ ys) (sym (map-append f (sliced rows start n) (sliced rows row count)) ∙ ap (map f) (sym next))))
