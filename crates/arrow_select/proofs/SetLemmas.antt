-- Members of lists at which a mask is set: of a word, from the lowest bit on, and of a list, a word at a time.
use Rattle.arrow_select.proofs.Common.{arith, inl, inr, ◌≡◌, ◌+◌, ◌-◌, ◌*◌, ◌/◌, ◌%◌, ◌^◌, ◌<◌, ◌≤◌, min, ℕ, zero, suc, Bool, true, false, cond, if◌then◌else◌, Some, List, [], ◌∷◌, ◌++◌, length, map, take, drop, refl, ap, sym, subst, ◌∙◌, append_assoc, w64, ◌==◌, nat_eq, count_ones, slice_get, range_with_len, bit_at, from_bool, trailing_zeros, pow-le-pow_right, mod-eq_of_lt, cases_lt, append-nil, length-append, drop-drop, drop_all, length-take, length-drop, take_min, get_or-map-range_with_len, slice_get-get_or, sum_by-cons, and_le_l, ones_le_self, bit_at_and, bit_at_lowest, bit_at-suc, bit_at_above, bit_at-trailing_zeros, bit_at-zero, bit_at-lt, bit_at_ones, shr_and_one, mask_l-lt, sliced, low_bits, set_count, word_of, bit_at-shr, count_ones-word_of, length-low_bits, word_of-low_bits, at_set, set_in_word, word_bits, IsRunOf, bits_of_word, word_more, replicate, take_at, drop_at, low_bits_add, get_or, slice_get_read, bit_and, bit_or}

-- how many members are set
pub length-at_set : {A : Type 0} (mask : List Bool) (xs : List A) → length mask ≡ length xs → length (at_set mask xs) ≡ set_count mask
length-at_set [] xs h = refl
length-at_set (b ∷ mask) [] h = absurd (omega (arith, h))
length-at_set (true ∷ mask) (x ∷ xs) h = omega (arith, length-at_set mask xs (omega (arith, h)), sum_by-cons (λ b. cond b 1 0) true mask)
length-at_set (false ∷ mask) (x ∷ xs) h = omega (arith, length-at_set mask xs (omega (arith, h)), sum_by-cons (λ b. cond b 1 0) false mask)

-- the same, for a function's attribute
pub ruleset lengths = (length-at_set)

nil_at : {A : Type 0} (mask : List Bool) → ◌≡◌ {A = List A} (at_set mask []) []
nil_at [] = refl
nil_at (b ∷ mask) = refl

-- no more than there are
pub at_set-short : {A : Type 0} (mask : List Bool) (xs : List A) → length (at_set mask xs) ≤ length xs
at_set-short (true ∷ mask) (x ∷ xs) = omega (arith, at_set-short mask xs)
at_set-short (false ∷ mask) (x ∷ xs) = omega (arith, at_set-short mask xs)
at_set-short mask xs = omega arith

-- at which a run of bits is set
pub set_run : {A : Type 0} (n : ℕ) (bits : List Bool) (xs : List A) → at_set (replicate n true ++ bits) xs ≡ take n xs ++ at_set bits (drop n xs)
set_run zero bits xs = refl
set_run (suc n) bits [] = sym (nil_at bits)
set_run (suc n) bits (x ∷ xs) = ap (λ ys. x ∷ ys) (set_run n bits xs)

pub unset_run : {A : Type 0} (n : ℕ) (bits : List Bool) (xs : List A) → at_set (replicate n false ++ bits) xs ≡ at_set bits (drop n xs)
unset_run zero bits xs = refl
unset_run (suc n) bits [] = sym (nil_at bits)
unset_run (suc n) bits (x ∷ xs) = unset_run n bits xs

pub at_set-append : {A : Type 0} (mask more : List Bool) (xs ys : List A) → length mask ≡ length xs → at_set (mask ++ more) (xs ++ ys) ≡ at_set mask xs ++ at_set more ys
at_set-append [] more [] ys h = refl
at_set-append (true ∷ mask) more (x ∷ xs) ys h = ap (λ zs. x ∷ zs) (at_set-append mask more xs ys (omega (arith, h)))
at_set-append (false ∷ mask) more (x ∷ xs) ys h = at_set-append mask more xs ys (omega (arith, h))
at_set-append mask more xs ys h = absurd (omega (arith, h))

-- a list that is cut in two
pub at_set-cut : {A : Type 0} (n : ℕ) (mask : List Bool) (xs : List A) → at_set mask xs ≡ at_set (take n mask) (take n xs) ++ at_set (drop n mask) (drop n xs)
at_set-cut (suc n) (b ∷ mask) [] = sym (nil_at (drop n mask))
at_set-cut (suc n) (true ∷ mask) (x ∷ xs) = ap (λ ys. x ∷ ys) (at_set-cut n mask xs)
at_set-cut (suc n) (false ∷ mask) (x ∷ xs) = at_set-cut n mask xs
at_set-cut n mask xs = refl

-- and from a place on
pub at_set-from : {A : Type 0} (place n : ℕ) (mask : List Bool) (xs : List A) → at_set (drop place mask) (drop place xs) ≡ at_set (sliced mask place n) (sliced xs place n) ++ at_set (drop (place + n) mask) (drop (place + n) xs)
at_set-from place n mask xs =
    at_set-cut n (drop place mask) (drop place xs) ∙ (λ i. at_set (sliced mask place n) (sliced xs place n) ++ at_set (drop-drop n place mask i) (drop-drop n place xs i))

-- ---- bits that a function gives

-- bits that are the same
map_range : (f g : ℕ → Bool) (a n : ℕ) → ((i : ℕ) → a ≤ i → i < a + n → f i ≡ g i) → map f (range_with_len a n) ≡ map g (range_with_len a n)
map_range f g a zero same = refl
map_range f g a (suc n) same =
    let rest = map_range f g (a + 1) n (λ i from to. same i (omega (arith, from)) (omega (arith, to))) in
    λ i. same a (omega arith) (omega arith) i ∷ rest i

-- no bit is set
none_at : {A : Type 0} (f : ℕ → Bool) (a n : ℕ) (xs : List A) → ((i : ℕ) → a ≤ i → f i ≡ false) → at_set (map f (range_with_len a n)) xs ≡ []
none_at f a (suc n) (x ∷ xs) none =
    ap (λ b. if b then x ∷ at_set (map f (range_with_len (a + 1) n)) xs else at_set (map f (range_with_len (a + 1) n)) xs) (none a (omega arith)) ∙ none_at f (a + 1) n xs (λ i from. none i (omega (arith, from)))
none_at f a n xs none = refl

-- the first bit that is set, and others that differ in that bit alone
first_at : {A : Type 0} (f g : ℕ → Bool) (a k n : ℕ) (xs : List A) (x : A) → k < n → ((i : ℕ) → i < a + k → f i ≡ false) → f (a + k) ≡ true → ((i : ℕ) → i ≤ a + k → g i ≡ false) → ((i : ℕ) → a + k < i → f i ≡ g i) → slice_get xs k ≡ Some x → at_set (map f (range_with_len a n)) xs ≡ x ∷ at_set (map g (range_with_len a n)) xs
first_at f g a k zero xs x within below one unset above read = absurd (omega (arith, within))
first_at f g a k (suc n) [] x within below one unset above read = cc
first_at f g a zero (suc n) (y ∷ xs) x within below one unset above read =
    let here : a + 0 ≡ a = omega arith in
    let rest = map_range f g (a + 1) n (λ i from to. above i (omega (arith, from))) in
    let is : y ≡ x = cc in
    let set : f a ≡ true = ap f (sym here) ∙ one in
    let fs = at_set (map f (range_with_len (a + 1) n)) xs in
    let gs = at_set (map g (range_with_len (a + 1) n)) xs in
    ap (λ b. if b then y ∷ fs else fs) set ∙ ((λ i. is i ∷ at_set (rest i) xs) ∙ ap (λ b. x ∷ (if b then y ∷ gs else gs)) (sym (unset a (omega arith))))
first_at f g a (suc k) (suc n) (y ∷ xs) x within below one unset above read =
    let there : a + suc k ≡ a + 1 + k = omega arith in
    let fs = at_set (map f (range_with_len (a + 1) n)) xs in
    let gs = at_set (map g (range_with_len (a + 1) n)) xs in
    let rest = first_at f g (a + 1) k n xs x (omega (arith, within)) (λ i to. below i (omega (arith, to))) (ap f (sym there) ∙ one) (λ i to. unset i (omega (arith, to))) (λ i from. above i (omega (arith, from))) read in
    ap (λ b. if b then y ∷ fs else fs) (below a (omega arith)) ∙ (rest ∙ ap (λ b. x ∷ (if b then y ∷ gs else gs)) (sym (unset a (omega arith))))

-- ---- the lowest bit of a word that is set

above_lowest : (w i : ℕ) → (w - 1) / 2 ≡ w / 2 → 0 < i → bit_at (w - 1) i ≡ bit_at w i
above_lowest w zero half above = absurd (omega (arith, above))
above_lowest w (suc i) half above = bit_at-suc (w - 1) i ∙ (ap (λ n. bit_at n i) half ∙ sym (bit_at-suc w i))

-- one less than a number has the same bits above the lowest one that is set, not that one, and all below it
pub record LosesLowest (w k : ℕ) : Type 0 where
  pub some : 0 < w
  pub ones : (i : ℕ) → i < k → bit_at (w - 1) i ≡ 1
  pub unset : bit_at (w - 1) k ≡ 0
  pub above : (i : ℕ) → k < i → bit_at (w - 1) i ≡ bit_at w i

above_half : (w v k i : ℕ) → (w - 1) / 2 ≡ v - 1 → w / 2 ≡ v → ((i : ℕ) → k < i → bit_at (v - 1) i ≡ bit_at v i) → suc k < i → bit_at (w - 1) i ≡ bit_at w i
above_half w v k zero half whole rest from = absurd (omega (arith, from))
above_half w v k (suc i) half whole rest from =
    bit_at-suc (w - 1) i ∙ (ap (λ n. bit_at n i) half ∙ (rest i (omega (arith, from)) ∙ (ap (λ n. bit_at n i) (sym whole) ∙ sym (bit_at-suc w i))))

ones_half : (w v k i : ℕ) → 0 < w → w % 2 ≡ 0 → (w - 1) / 2 ≡ v → ((i : ℕ) → i < k → bit_at v i ≡ 1) → i < suc k → bit_at (w - 1) i ≡ 1
ones_half w v k zero some even half rest to = bit_at_lowest (w - 1) ∙ omega (arith, some, even)
ones_half w v k (suc i) some even half rest to =
    bit_at-suc (w - 1) i ∙ (ap (λ n. bit_at n i) half ∙ rest i (omega (arith, to)))

pub one_less : (w k : ℕ) → ((i : ℕ) → i < k → bit_at w i ≡ 0) → bit_at w k ≡ 1 → LosesLowest w k
one_less w zero below one =
    let odd : w % 2 ≡ 1 = sym (bit_at_lowest w) ∙ one in
    record {
      some = omega (arith, odd);
      ones = λ i to. absurd (omega (arith, to));
      unset = bit_at_lowest (w - 1) ∙ omega (arith, odd);
      above = λ i from. above_lowest w i (omega (arith, odd)) from;
    }
one_less w (suc k) below one =
    let even : w % 2 ≡ 0 = sym (bit_at_lowest w) ∙ below 0 (omega arith) in
    let rest = one_less (w / 2) k (λ i to. sym (bit_at-suc w i) ∙ below (suc i) (omega (arith, to))) (sym (bit_at-suc w k) ∙ one) in
    let half : (w - 1) / 2 ≡ w / 2 - 1 = omega (arith, even, rest.some) in
    record {
      some = omega (arith, rest.some);
      ones = λ i to. ones_half w (w / 2 - 1) k i (omega (arith, rest.some)) even half rest.ones to;
      unset = bit_at-suc (w - 1) k ∙ (ap (λ n. bit_at n k) half ∙ rest.unset);
      above = λ i from. above_half w (w / 2) k i half refl rest.above from;
    }

-- a word without its lowest bit that is set
pub record DropsLowest (w v k : ℕ) : Type 0 where
  pub below : (i : ℕ) → i < k → bit_at w i ≡ 0
  pub one : bit_at w k ≡ 1
  pub unset : (i : ℕ) → i ≤ k → bit_at v i ≡ 0
  pub above : (i : ℕ) → k < i → bit_at v i ≡ bit_at w i

unset_at : (w k i : ℕ) → ((i : ℕ) → i < k → bit_at w i ≡ 0) → bit_at (w - 1) k ≡ 0 → i ≤ k → min (bit_at w i) (bit_at (w - 1) i) ≡ 0
unset_at w k i below unset to =
    elim (cases_lt i k) as (λ _. min (bit_at w i) (bit_at (w - 1) i) ≡ 0) [
      | inl before ↦ omega (arith, below i before)
      | inr after ↦
          let at : i ≡ k = omega (arith, to, after) in
          omega (arith, ap (bit_at (w - 1)) at ∙ unset)
    ]

pub drops_lowest : (w : ℕ) → 0 < w → w < 2 ^ 64 → DropsLowest w (bit_and w (w - 1)) (trailing_zeros w64 w)
drops_lowest w some small =
    let k = trailing_zeros w64 w in
    let found = bit_at-trailing_zeros w64 w some small in
    let less = one_less w k found.2 found.1 in
    record {
      below = found.2;
      one = found.1;
      unset = λ i to. bit_at_and w (w - 1) i ∙ unset_at w k i found.2 less.unset to;
      above = λ i from. bit_at_and w (w - 1) i ∙ omega (arith, less.above i from);
    }

-- it lies within so many bits where the word does
pub lowest_within : (w n : ℕ) → 0 < w → w < 2 ^ 64 → w < 2 ^ n → trailing_zeros w64 w < n
lowest_within w n some small below =
    let k = trailing_zeros w64 w in
    elim (cases_lt k n) as (λ _. k < n) [
      | inl before ↦ before
      | inr after ↦ absurd (omega (arith, (drops_lowest w some small).one, bit_at_above w n k below after))
    ]

is_one : (b c : ℕ) → b ≡ c → (b == 1) ≡ (c == 1)
is_one b c same = ap (λ n. nat_eq n 1) same

-- the member at the lowest bit comes first
pub lowest_first : {A : Type 0} (w : ℕ) (xs : List A) (x : A) → 0 < w → w < 2 ^ 64 → w < 2 ^ length xs → slice_get xs (trailing_zeros w64 w) ≡ Some x → set_in_word w xs ≡ x ∷ set_in_word (bit_and w (w - 1)) xs
lowest_first w xs x some small below read =
    let k = trailing_zeros w64 w in
    let drops = drops_lowest w some small in
    first_at (λ i. bit_at w i == 1) (λ i. bit_at (bit_and w (w - 1)) i == 1) 0 k (length xs) xs x (lowest_within w (length xs) some small below) (λ i to. is_one (bit_at w i) 0 (drops.below i (omega (arith, to)))) (is_one (bit_at w (0 + k)) 1 (ap (bit_at w) (omega arith) ∙ drops.one)) (λ i to. is_one (bit_at (bit_and w (w - 1)) i) 0 (drops.unset i (omega (arith, to)))) (λ i from. is_one (bit_at w i) (bit_at (bit_and w (w - 1)) i) (sym (drops.above i (omega (arith, from))))) read

-- no bit is set in 0
pub set_in_zero : {A : Type 0} (xs : List A) → set_in_word 0 xs ≡ []
set_in_zero xs = none_at (λ i. bit_at 0 i == 1) 0 (length xs) xs (λ i from. is_one (bit_at 0 i) 0 (bit_at-zero i))

-- ---- a word cut off

-- its low bits are the same
pub low_and : (w count : ℕ) → count < 64 → low_bits (bit_and w (1 * 2 ^ count % 18446744073709551616 - 1)) count ≡ low_bits w count
low_and w count below =
    let power = pow-le-pow_right {n = 2} (omega arith) {i = count} {j = 63} (omega (arith, below)) in
    let mask : 1 * 2 ^ count % 18446744073709551616 - 1 ≡ 2 ^ count - 1 = omega (arith, power) in
    map_range (λ i. bit_at (bit_and w (1 * 2 ^ count % 18446744073709551616 - 1)) i == 1) (λ i. bit_at w i == 1) 0 count (λ i from to.
    let ones = ap (λ n. bit_at n i) mask ∙ bit_at_ones count i (omega (arith, to)) in
    is_one _ _ (bit_at_and w (1 * 2 ^ count % 18446744073709551616 - 1) i ∙ omega (arith, ones, bit_at-lt w i)))

-- as many values as the word has ones
pub ones_in_word : {A : Type 0} (w : ℕ) (xs : List A) → w < 2 ^ length xs → length (set_in_word w xs) ≡ count_ones w
ones_in_word w xs below =
    let long = length-low_bits w (length xs) in
    let word = word_of-low_bits w (length xs) ∙ mod-eq_of_lt below in
    length-at_set (low_bits w (length xs)) xs long ∙ (sym (count_ones-word_of (low_bits w (length xs))) ∙ ap count_ones word)

-- ---- the words of a mask

-- the word of the mask that belongs to so many values from a place on
pub record IsWordOf {A : Type 0} (mask : List Bool) (xs : List A) (place word n : ℕ) : Type 0 where
  pub below : word < 2 ^ length (take n (drop place xs))
  pub within : length (take n (drop place xs)) ≤ 64
  pub same : set_in_word word (take n (drop place xs)) ≡ at_set (sliced mask place 64) (sliced xs place 64)

pub word_of_part : {A : Type 0} (mask : List Bool) (xs : List A) (place word count n : ℕ) → length mask ≡ length xs → count ≡ min 64 (length mask - place) → n ≡ count → word ≡ word_of (sliced mask place 64) → IsWordOf mask xs place word n
word_of_part mask xs place word count n lengths is cut read =
    let bits = sliced mask place 64 in
    let part = take n (drop place xs) in
    let long : length bits ≡ count = omega (arith, is, length-take 64 (drop place mask), length-drop place mask) in
    let parts : length part ≡ count = omega (arith, is, cut, lengths, length-take n (drop place xs), length-drop place xs) in
    let many : n ≡ min 64 (length (drop place xs)) = omega (arith, cut, is, lengths, length-drop place xs) in
    let whole : part ≡ sliced xs place 64 = ap (λ m. take m (drop place xs)) many ∙ take_min 64 (drop place xs) in
    let shown : low_bits word (length part) ≡ bits = ap (low_bits word) parts ∙ bits_of_word bits word count read long in
    record {
      below = subst (λ m. word < 2 ^ m) (long ∙ sym parts) (subst (λ w. w < 2 ^ length bits) (sym read) (mask_l-lt bits));
      within = omega (arith, parts, is);
      same = λ i. at_set (shown i) (whole i);
    }

-- as many bits as a word has
pub length-word_bits : (word : ℕ) → length (word_bits word) ≡ 64
unfolding word_bits
length-word_bits word = length-low_bits word 64

low-word_bits : (word bits : ℕ) → low_bits word (length (word_bits bits)) ≡ word_bits word
unfolding word_bits
low-word_bits word bits = ap (low_bits word) (length-low_bits bits 64)

read-word_bits : (word k : ℕ) → k < 64 → slice_get (word_bits word) k ≡ Some (bit_at word k == 1)
unfolding word_bits
read-word_bits word k within =
    slice_get-get_or (low_bits word 64) k false (omega (arith, length-low_bits word 64, within)) ∙ ap (λ b. Some b) (get_or-map-range_with_len (λ i. bit_at word i == 1) 0 64 k k false within (omega arith))

behind : (bits : List Bool) (word n : ℕ) → word ≡ word_of bits → length bits ≡ n → n ≤ 64 → word_bits word ≡ bits ++ low_bits (word / 2 ^ n) (64 - n)
unfolding word_bits
behind bits word n read long most =
    let parts : 64 ≡ n + (64 - n) = omega (arith, most) in
    ap (low_bits word) parts ∙ (low_bits_add word n (64 - n) ∙ ap (λ front. front ++ low_bits (word / 2 ^ n) (64 - n)) (bits_of_word bits word n read long))

-- the words of two lists of bits say what the one keeps of the other
set_in_words : (ms bs : List Bool) (mask bits : ℕ) → mask ≡ word_of ms → bits ≡ word_of bs → length ms ≡ length bs → length ms ≤ 64 → set_in_word mask (word_bits bits) ≡ at_set ms bs
set_in_words ms bs mask bits is read lengths most =
    let n = length ms in
    let small : mask < 2 ^ n = subst (λ w. w < 2 ^ n) (sym is) (mask_l-lt ms) in
    let left = low-word_bits mask bits ∙ behind ms mask n is refl most in
    let right = behind bs bits n read (sym lengths) most in
    let rest = low_bits (bits / 2 ^ n) (64 - n) in
    let above = none_at (λ i. bit_at (mask / 2 ^ n) i == 1) 0 (64 - n) rest (λ i from. is_one (bit_at (mask / 2 ^ n) i) 0 (bit_at-shr mask n i ∙ bit_at_above mask n (n + i) small (omega arith))) in
    (λ i. at_set (left i) (right i)) ∙ (at_set-append ms (low_bits (mask / 2 ^ n) (64 - n)) bs rest lengths ∙ (ap (λ ys. at_set ms bs ++ ys) above ∙ append-nil (at_set ms bs)))

-- where none is left
none_from : {A : Type 0} (place : ℕ) (mask : List Bool) (xs : List A) → length mask ≤ place → at_set (drop place mask) xs ≡ []
none_from place [] xs past = ap (λ bits. at_set bits xs) (drop_all place [] (omega (arith, past)))
none_from zero (b ∷ mask) xs past = absurd (omega (arith, past))
none_from (suc place) (b ∷ mask) xs past = none_from place mask xs (omega (arith, past))

-- ---- a word whose set bits are one run

-- the first are set, and no others
first_run : {A : Type 0} (f : ℕ → Bool) (a m n : ℕ) (xs : List A) → length xs ≡ n → m ≤ n → ((i : ℕ) → a ≤ i → i < a + m → f i ≡ true) → ((i : ℕ) → a + m ≤ i → f i ≡ false) → at_set (map f (range_with_len a n)) xs ≡ take m xs
first_run f a zero n xs long within ones above = none_at f a n xs (λ i from. above i (omega (arith, from)))
first_run f a (suc m) (suc n) (x ∷ xs) long within ones above =
    let rest = at_set (map f (range_with_len (a + 1) n)) xs in
    ap (λ b. if b then x ∷ rest else rest) (ones a (omega arith) (omega arith)) ∙ ap (λ ys. x ∷ ys) (first_run f (a + 1) m n xs (omega (arith, long)) (omega (arith, within)) (λ i from to. ones i (omega (arith, from)) (omega (arith, to))) (λ i from. above i (omega (arith, from))))
first_run f a m n xs long within ones above = absurd (omega (arith, within, long))

-- so many from a place on are set, and no others
run_at : {A : Type 0} (f : ℕ → Bool) (a k m n : ℕ) (xs : List A) → length xs ≡ n → k + m ≤ n → ((i : ℕ) → i < a + k → f i ≡ false) → ((i : ℕ) → a + k ≤ i → i < a + k + m → f i ≡ true) → ((i : ℕ) → a + k + m ≤ i → f i ≡ false) → at_set (map f (range_with_len a n)) xs ≡ take m (drop k xs)
run_at f a zero m n xs long within below ones above =
    first_run f a m n xs long (omega (arith, within)) (λ i from to. ones i (omega (arith, from)) (omega (arith, to))) (λ i from. above i (omega (arith, from)))
run_at f a (suc k) m (suc n) (x ∷ xs) long within below ones above =
    let rest = at_set (map f (range_with_len (a + 1) n)) xs in
    ap (λ b. if b then x ∷ rest else rest) (below a (omega arith)) ∙ run_at f (a + 1) k m n xs (omega (arith, long)) (omega (arith, within)) (λ i to. below i (omega (arith, to))) (λ i from to. ones i (omega (arith, from)) (omega (arith, to))) (λ i from. above i (omega (arith, from)))
run_at f a k m n xs long within below ones above = absurd (omega (arith, within, long))

-- it ends within so many bits where the word does
module _ {w first count : ℕ} (run : IsRunOf w first count) where
  pub run_within : (n : ℕ) → w < 2 ^ n → first + count ≤ n
  run_within n below =
      let last : bit_at w (first + (count - 1)) ≡ 1 = run.ones (count - 1) (omega (arith, run.some)) in
      elim (cases_lt (first + (count - 1)) n) as (λ _. first + count ≤ n) [
        | inl before ↦ omega (arith, before, run.some)
        | inr after ↦ absurd (omega (arith, last, bit_at_above w n (first + (count - 1)) below after))
      ]

  -- the values at which the bits of such a word are set, as a part of a slice is read
  pub set_in_run : {A : Type 0} (xs : List A) → w < 2 ^ length xs → take (first + count - first) (drop first xs) ≡ set_in_word w xs
  set_in_run xs below =
      let many : first + count - first ≡ count = omega arith in
      ap (λ n. take n (drop first xs)) many ∙ sym (run_at (λ i. bit_at w i == 1) 0 first count (length xs) xs refl (run_within (length xs) below) (λ i to. is_one (bit_at w i) 0 (run.below i (omega (arith, to)))) (λ i from to.
      let at : first + (i - first) ≡ i = omega (arith, from) in
      is_one (bit_at w i) 1 (ap (bit_at w) (sym at) ∙ run.ones (i - first) (omega (arith, from, to)))) (λ i from. is_one (bit_at w i) 0 (run.above i (omega (arith, from)))))

  -- and the bits at which it is set
  pub gathered_run : (bits made : ℕ) → w < 2 ^ 64 → made ≡ word_of (sliced (word_bits bits) first count) → made ≡ word_of (set_in_word w (word_bits bits))
  gathered_run bits made small is =
      let many : first + count - first ≡ count = omega arith in
      let below : w < 2 ^ length (word_bits bits) = subst (λ n. w < 2 ^ n) (sym (length-word_bits bits)) small in
      is ∙ ap word_of (ap (λ n. take n (drop first (word_bits bits))) (sym many) ∙ set_in_run (word_bits bits) below)

-- so many bits of a word from a place on
bits_of_run : (bits first count : ℕ) → first + count ≤ 64 → low_bits (bits / 2 ^ first) count ≡ sliced (word_bits bits) first count
unfolding word_bits
bits_of_run bits first count within =
    let high = bits / 2 ^ first in
    let low = low_bits bits first in
    let rest = 64 - first - count in
    let parts : 64 ≡ first + (count + rest) = omega (arith, within) in
    let whole = ap (low_bits bits) parts ∙ (low_bits_add bits first (count + rest) ∙ ap (λ ys. low ++ ys) (low_bits_add high count rest)) in
    sym (ap (λ ys. take count (drop first ys)) whole ∙ (ap (take count) (drop_at low _ first (length-low_bits bits first)) ∙ take_at (low_bits high count) _ count (length-low_bits high count)))

pub word_of_run : (word bits first count : ℕ) → first + count ≤ 64 → word < 2 ^ count → low_bits word count ≡ low_bits (bits / 2 ^ first) count → word ≡ word_of (sliced (word_bits bits) first count)
word_of_run word bits first count within below same =
    sym (word_of-low_bits word count ∙ mod-eq_of_lt below) ∙ ap word_of (same ∙ bits_of_run bits first count within)

-- no word has more ones than bits
ones_few : (w : ℕ) → w < 2 ^ 64 → count_ones w ≤ 64
ones_few w small =
    let bits = word_bits 0 in
    let below = subst (λ n. w < 2 ^ n) (sym (length-word_bits 0)) small in
    omega (arith, ones_in_word w bits below, at_set-short (low_bits w (length bits)) bits, length-word_bits 0)

-- from its lowest set bit on it is a word of as many ones as it has
pub run_of_ones : (w : ℕ) → 0 < count_ones w → w < 2 ^ 64 → w / 2 ^ trailing_zeros w64 w ≡ (2 ^ 64 - 1) / 2 ^ (64 - count_ones w) → IsRunOf w (trailing_zeros w64 w) (count_ones w)
run_of_ones w some small same =
    let first = trailing_zeros w64 w in
    let ones = count_ones w in
    let few = ones_few w small in
    let shifted : (k : ℕ) → bit_at w (first + k) ≡ bit_at (2 ^ 64 - 1) (64 - ones + k) = λ k. sym (bit_at-shr w first k) ∙ (ap (λ v. bit_at v k) same ∙ bit_at-shr (2 ^ 64 - 1) (64 - ones) k) in
    record {
      some = some;
      below = (drops_lowest w (omega (arith, some, ones_le_self w)) small).below;
      ones = λ k within. shifted k ∙ bit_at_ones 64 (64 - ones + k) (omega (arith, within, few));
      above = λ k from.
          let at : first + (k - first) ≡ k = omega (arith, from) in
          ap (bit_at w) (sym at) ∙ (shifted (k - first) ∙ bit_at_above (2 ^ 64 - 1) 64 (64 - ones + (k - first)) (omega arith) (omega (arith, from, few)));
    }

-- ---- one step of a loop

-- members that come before those that are left, and some more of these
some_more : {A : Type 0} (old kept new first some rest all : List A) → first ≡ some ++ rest → new ≡ kept ++ some → kept ++ first ≡ old ++ all → new ++ rest ≡ old ++ all
some_more old kept new first some rest all is pushed so_far =
    ap (λ ys. ys ++ rest) pushed ∙ (append_assoc kept some rest ∙ (ap (λ ys. kept ++ ys) (sym is) ∙ so_far))

-- what a walk over the words of a mask has kept up to a place: with what is set from there on it is all, behind what was there before
pub record KeepsWords {A : Type 0} (mask : List Bool) (xs old kept : List A) (place : ℕ) : Type 0 where
  pub same : kept ++ at_set (drop place mask) (drop place xs) ≡ old ++ at_set mask xs

module _ {A : Type 0} {mask : List Bool} {xs old kept : List A} {place : ℕ} (so_far : KeepsWords mask xs old kept place) where
  abbrev part : List A
  part = at_set (sliced mask place 64) (sliced xs place 64)

  -- with what the next word keeps it is no more than all
  pub words_few : length kept + length (at_set (sliced mask place 64) (sliced xs place 64)) ≤ length old + length (at_set mask xs)
  words_few =
      omega (arith, ap length (at_set-from place 64 mask xs), length-append part (at_set (drop (place + 64) mask) (drop (place + 64) xs)), ap length so_far.same, length-append kept (at_set (drop place mask) (drop place xs)), length-append old (at_set mask xs))

  -- one word more
  pub words_more : (new : List A) (next : ℕ) → new ≡ kept ++ at_set (sliced mask place 64) (sliced xs place 64) → next ≡ place + 64 → KeepsWords mask xs old new next
  words_more new next pushed at =
      let rest = at_set (drop next mask) (drop next xs) in
      let cut = at_set-from place 64 mask xs ∙ ap (λ n. part ++ at_set (drop n mask) (drop n xs)) (sym at) in
      record { same = some_more old kept new (at_set (drop place mask) (drop place xs)) part rest (at_set mask xs) cut pushed so_far.same }

  -- without a set bit it keeps nothing
  pub words_none : (word next : ℕ) → length mask ≡ length xs → word ≡ word_of (sliced mask place 64) → word ≡ 0 → next ≡ place + 64 → KeepsWords mask xs old kept next
  words_none word next lengths read is at =
      let n = min 64 (length mask - place) in
      let values = take n (drop place xs) in
      let none : part ≡ [] = sym (word_of_part mask xs place word n n lengths refl refl read).same ∙ (ap (λ w. set_in_word w values) is ∙ set_in_zero values) in
      words_more kept next (sym (append-nil kept) ∙ ap (λ ys. kept ++ ys) (sym none)) at

  -- where no word is left these are all
  pub words_all : length mask ≤ place → kept ≡ old ++ at_set mask xs
  words_all past =
      sym (append-nil kept) ∙ (ap (λ ys. kept ++ ys) (sym (none_from place mask (drop place xs) past)) ∙ so_far.same)

-- the values so far, with those at which the bits that are left are set, are all
pub record TakesUpTo {A : Type 0} (word left : ℕ) (xs old now : List A) : Type 0 where
  pub below : left < 2 ^ length xs
  pub same : now ++ set_in_word left xs ≡ old ++ set_in_word word xs

module _ {A : Type 0} {word left : ℕ} {xs old now : List A} (so_far : TakesUpTo word left xs old now) where
  -- where none is left these are all
  pub takes_all : left ≡ 0 → now ≡ old ++ set_in_word word xs
  takes_all none =
      let nil : set_in_word left xs ≡ [] = ap (λ w. set_in_word w xs) none ∙ set_in_zero xs in
      sym (append-nil now) ∙ (ap (λ ys. now ++ ys) (sym nil) ∙ so_far.same)

  -- where a bit is left it is that of a value
  module _ (some : left ≡ 0 → ⊥) (small : left < 2 ^ 64) where
    pub takes_within : trailing_zeros w64 left < length xs
    takes_within = lowest_within left (length xs) (omega (arith, some)) small so_far.below

    -- for which there is room, and with it the lowest bit is done
    module _ (x : A) (is : x ≡ get_or xs (trailing_zeros w64 left) x) where
      abbrev rest : List A
      rest = set_in_word (bit_and left (left - 1)) xs

      first : set_in_word left xs ≡ x ∷ rest
      first =
          lowest_first left xs x (omega (arith, some)) small so_far.below (slice_get_read xs (length xs) (trailing_zeros w64 left) x refl takes_within is)

      pub takes_few : length now < length old + length (set_in_word word xs)
      takes_few =
          omega (arith, ap length so_far.same, length-append now (set_in_word left xs), length-append old (set_in_word word xs), ap length first)

      pub takes_more : (new : List A) → new ≡ now ++ x ∷ [] → TakesUpTo word (bit_and left (left - 1)) xs old new
      takes_more new pushed = record {
        below = omega (arith, so_far.below, and_le_l left (left - 1));
        same = some_more old now new (set_in_word left xs) (x ∷ []) rest (set_in_word word xs) first pushed so_far.same;
      }

-- ---- bits that are gathered

-- they are those of a part of two lists
pub record IsGathered (mask bits : List Bool) (place mask_word gathered : ℕ) : Type 0 where
  pub same : low_bits gathered (count_ones mask_word) ≡ at_set (sliced mask place 64) (sliced bits place 64)
  pub many : length (at_set (sliced mask place 64) (sliced bits place 64)) ≡ count_ones mask_word
  pub within : count_ones mask_word ≤ 64

pub gathered_bits : (mask bits : List Bool) (place mask_word bits_word gathered : ℕ) → length mask ≡ length bits → mask_word ≡ word_of (sliced mask place 64) → bits_word ≡ word_of (sliced bits place 64) → gathered ≡ word_of (set_in_word mask_word (word_bits bits_word)) → IsGathered mask bits place mask_word gathered
gathered_bits mask bits place mask_word bits_word gathered lengths is read made =
    let ms = sliced mask place 64 in
    let bs = sliced bits place 64 in
    let few = length-take 64 (drop place mask) in
    let even : length ms ≡ length bs = omega (arith, lengths, few, length-take 64 (drop place bits), length-drop place mask, length-drop place bits) in
    let shown = set_in_words ms bs mask_word bits_word is read even (omega (arith, few)) in
    let long = length-at_set ms bs even ∙ (sym (count_ones-word_of ms) ∙ ap count_ones (sym is)) in
    record {
      same = bits_of_word (at_set ms bs) gathered (count_ones mask_word) (made ∙ ap word_of shown) long;
      many = long;
      within = omega (arith, long, at_set-short ms bs, even, few);
    }

-- the bits so far, as a word of so many, with those at which the bits that are left are set, are all
pub record GathersUpTo (word bits left gathered count : ℕ) : Type 0 where
  pub kept : List Bool
  pub is : gathered ≡ word_of kept
  pub long : length kept ≡ count
  pub same : kept ++ set_in_word left (word_bits bits) ≡ set_in_word word (word_bits bits)

module _ {word bits left gathered count : ℕ} (so_far : GathersUpTo word bits left gathered count) where
  -- where none is left these are all
  pub gathers_all : left ≡ 0 → gathered ≡ word_of (set_in_word word (word_bits bits))
  gathers_all none =
      let kept = so_far.kept in
      let nil : set_in_word left (word_bits bits) ≡ [] = ap (λ w. set_in_word w (word_bits bits)) none ∙ set_in_zero (word_bits bits) in
      so_far.is ∙ ap word_of (sym (append-nil kept) ∙ (ap (λ ys. kept ++ ys) (sym nil) ∙ so_far.same))

  -- where a bit is left the word has room for one, and with it the lowest bit is done
  module _ (some : left ≡ 0 → ⊥) (small : left < 2 ^ 64) where
    abbrev seen : Bool
    seen = nat_eq (bit_and (bits / 2 ^ trailing_zeros w64 left) 1) 1

    abbrev others : List Bool
    others = set_in_word (bit_and left (left - 1)) (word_bits bits)

    first_bit : set_in_word left (word_bits bits) ≡ seen ∷ others
    first_bit =
        let k = trailing_zeros w64 left in
        let left_some : 0 < left = omega (arith, some) in
        let below : left < 2 ^ length (word_bits bits) = subst (λ n. left < 2 ^ n) (sym (length-word_bits bits)) small in
        lowest_first left (word_bits bits) (bit_at bits k == 1) left_some small below (read-word_bits bits k (lowest_within left 64 left_some small small)) ∙ ap (λ n. nat_eq n 1 ∷ others) (sym (shr_and_one bits k))

    pub gathers_below : count < 64
    gathers_below =
        omega (arith, so_far.long, ap length so_far.same, length-append so_far.kept (set_in_word left (word_bits bits)), ap length first_bit, at_set-short (low_bits word (length (word_bits bits))) (word_bits bits), length-word_bits bits)

    pub gathers_more : (bit : ℕ) → bit ≡ from_bool seen → GathersUpTo word bits (bit_and left (left - 1)) (bit_or gathered (bit * 2 ^ count % 18446744073709551616)) (count + 1)
    gathers_more bit is =
        let kept = so_far.kept in
        record {
          kept = kept ++ seen ∷ [];
          is = ap (λ n. bit_or gathered (n * 2 ^ count % 18446744073709551616)) is ∙ word_more kept seen gathered count so_far.long gathers_below so_far.is;
          long = omega (arith, so_far.long, length-append kept (seen ∷ []));
          same = some_more [] kept (kept ++ seen ∷ []) (set_in_word left (word_bits bits)) (seen ∷ []) others (set_in_word word (word_bits bits)) first_bit refl so_far.same;
        }
