-- Characters of a text, and the bytes that begin them.
use Rattle.arrow_logic.proofs.Common.{All-cons, All-nil, All-tail, ◌≡◌, ℕ, zero, suc, ◌+◌, ◌-◌, ◌<◌, ◌≤◌, ◌/◌, min, ℤ, pos, negsuc, ◌≤ℤ◌, ◌<ℤ◌, unsigned_abs, Bool, true, false, ◌||◌, nat_lt, nat_le, ltb, List, [], ◌∷◌, ◌++◌, length, take, drop, get_or, refl, ap, sym, subst, ◌∙◌, arith, count_by, cond, if◌then◌else◌, IsUtf8, chars, encode_utf8_all, encode_utf8, append_assoc, take_at, drop_at, length-append, lt-ltb, le-leb, ltb-true, drop-cons, drop-drop, take-append-drop, All, encode, le-ltb, lt-leb, ints, drop_min, sum_by-append, sum_by-cons, IsAscii, bit_or, le_or_l, le_or_r, or_lt, IsAscii-nil, IsAscii-drop, IsAscii-take, chars-IsAscii, encodes-IsAscii, encodes-chars, next, cut, part_begin, sliced, IsCutByBytes, begins, skipped, text_cut, Option, None, Some, or_from, or_right}

-- a character's bytes: one that begins it, and others that go on with it
record Spelt (c : ℕ) : Type 0 where
  pub first : ℕ
  pub rest : List ℕ
  pub is : encode_utf8 c ≡ first ∷ rest
  pub begins_it : begins first ≡ true
  pub on : All (λ b. begins b ≡ false) rest

pub begins_low : (b : ℕ) → b < 128 → begins b ≡ true
begins_low b low = ap (λ t. t || nat_le 192 b) (lt-ltb b 128 low)

pub begins_high : (b : ℕ) → 192 ≤ b → begins b ≡ true
begins_high b high = or_right (nat_lt b 128) (nat_le 192 b) (le-leb 192 b high)

pub goes_on : (b : ℕ) → 128 ≤ b → b < 192 → begins b ≡ false
goes_on b low high = or_from (nat_lt b 128) (nat_le 192 b) (le-ltb b 128 low) (lt-leb 192 b high)

next_on : (x : ℕ) → begins (next x) ≡ false
next_on x = goes_on (next x) (omega arith) (omega arith)

one_on : (x : ℕ) (bs : List ℕ) → All (λ b. begins b ≡ false) bs → All (λ b. begins b ≡ false) (next x ∷ bs)
one_on x bs on = All-cons (λ b. begins b ≡ false) (next x) bs (next_on x) on

none_on : All (λ b. begins b ≡ false) []
none_on = All-nil (λ b. begins b ≡ false)

abbrev encoded : ℕ → Bool → Bool → Bool → List ℕ
encoded c x y z =
    cond x (c ∷ []) (cond y ((192 + c / 64) ∷ next c ∷ []) (cond z ((224 + c / 4096) ∷ next (c / 64) ∷ next c ∷ []) ((240 + c / 262144) ∷ next (c / 4096) ∷ next (c / 64) ∷ next c ∷ [])))

encode_is : (c : ℕ) → encode c ≡ encoded c (ltb c 128) (ltb c 2048) (ltb c 65536)
unfolding encode
encode_is c = refl

spelt_by : (c : ℕ) (x y z : Bool) → ltb c 128 ≡ x → encode c ≡ encoded c x y z → Spelt c
spelt_by c true y z low is =
    record { first = c; rest = []; is = is; begins_it = begins_low c (ltb-true c 128 low); on = none_on }
spelt_by c false true z low is =
    record { first = 192 + c / 64; rest = next c ∷ []; is = is; begins_it = begins_high (192 + c / 64) (omega arith); on = one_on c [] none_on }
spelt_by c false false true low is =
    record { first = 224 + c / 4096; rest = next (c / 64) ∷ next c ∷ []; is = is; begins_it = begins_high (224 + c / 4096) (omega arith); on = one_on (c / 64) (next c ∷ []) (one_on c [] none_on) }
spelt_by c false false false low is =
    record { first = 240 + c / 262144; rest = next (c / 4096) ∷ next (c / 64) ∷ next c ∷ []; is = is; begins_it = begins_high (240 + c / 262144) (omega arith); on = one_on (c / 4096) (next (c / 64) ∷ next c ∷ []) (one_on (c / 64) (next c ∷ []) (one_on c [] none_on)) }

spelt : (c : ℕ) → Spelt c
spelt c = spelt_by c (ltb c 128) (ltb c 2048) (ltb c 65536) refl (encode_is c)

-- bytes that go on with a character are passed
one_more : (k : ℕ) (b : ℕ) (bs : List ℕ) → begins b ≡ false → skipped k (b ∷ bs) ≡ suc (skipped k bs)
one_more zero b bs goes = ap (λ t. if t then 0 else suc (skipped zero bs)) goes
one_more (suc k) b bs goes = ap (λ t. suc (skipped (if t then k else suc k) bs)) goes

passed : (k : ℕ) (rest bs : List ℕ) → All (λ b. begins b ≡ false) rest → skipped k (rest ++ bs) ≡ length rest + skipped k bs
passed k [] bs on = omega arith
passed k (b ∷ rest) bs on =
    omega (arith, one_more k b (rest ++ bs) (on 0 0 (omega arith)), passed k rest bs (All-tail (λ b. begins b ≡ false) b rest on))

-- the first k characters take the bytes that spell them
pub skipped_is : (k : ℕ) (cs : List ℕ) → skipped k (encode_utf8_all cs) ≡ length (encode_utf8_all (take k cs))
skipped_is zero (c ∷ cs) =
    let s = spelt c in
    ap (λ bs. skipped zero (bs ++ encode_utf8_all cs)) s.is ∙ ap (λ t. if t then 0 else suc (skipped zero (s.rest ++ encode_utf8_all cs))) s.begins_it
skipped_is (suc k) (c ∷ cs) =
    let s = spelt c in
    let one = ap (λ bs. skipped (suc k) (bs ++ encode_utf8_all cs)) s.is ∙ ap (λ t. suc (skipped (if t then k else suc k) (s.rest ++ encode_utf8_all cs))) s.begins_it in
    let more = passed k s.rest (encode_utf8_all cs) s.on in
    let rest = skipped_is k cs in
    let long = length-append (encode_utf8 c) (encode_utf8_all (take k cs)) in
    omega (arith, one, more, rest, long, ap length s.is)
skipped_is k cs = refl

-- how many begin is how many there are
none_begin : (rest : List ℕ) → All (λ b. begins b ≡ false) rest → count_by begins rest ≡ 0
none_begin [] on = refl
none_begin (b ∷ rest) on =
    let here : begins b ≡ false = on 0 0 (omega arith) in
    let zero_here : ℕ = 0 in
    let one : cond (begins b) 1 0 ≡ zero_here = ap (λ t. cond {A = ℕ} t 1 0) here in
    omega (arith, sum_by-cons (λ b. cond (begins b) 1 0) b rest, one, none_begin rest (λ k d within. on (suc k) d (omega (arith, within))))

pub counted_is : (cs : List ℕ) → count_by begins (encode_utf8_all cs) ≡ length cs
counted_is [] = refl
counted_is (c ∷ cs) =
    let s = spelt c in
    let parts = sum_by-append (λ b. cond (begins b) 1 0) (encode_utf8 c) (encode_utf8_all cs) in
    let first = ap (count_by begins) s.is ∙ (sum_by-cons (λ b. cond (begins b) 1 0) s.first s.rest ∙ ap (λ t. cond t 1 0 + count_by begins s.rest) s.begins_it) in
    omega (arith, parts, first, none_begin s.rest s.on, counted_is cs)

-- a byte more: as many characters, or one more
next_at : (b : ℕ) (bs : List ℕ) (k p : ℕ) (t : Bool) → begins b ≡ t → skipped k bs ≡ p → skipped (cond t 1 0 + k) (b ∷ bs) ≡ suc p
next_at b bs k p true starts is =
    let more : 1 + k ≡ suc k = omega arith in
    ap (λ n. skipped n (b ∷ bs)) more ∙ (ap (λ t. suc (skipped (if t then k else suc k) bs)) starts ∙ ap suc is)
next_at b bs k p false goes is =
    let same : 0 + k ≡ k = omega arith in
    ap (λ n. skipped n (b ∷ bs)) same ∙ (one_more k b bs goes ∙ ap suc is)

-- a byte that begins a character lies behind the characters that begin before it
pub skipped_at : (bs : List ℕ) (p : ℕ) → p < length bs → begins (get_or bs p 0) ≡ true → skipped (count_by begins (take p bs)) bs ≡ p
skipped_at [] p within is = absurd (omega (arith, within))
skipped_at (b ∷ bs) zero within is = ap (λ t. if t then 0 else suc (skipped zero bs)) is
skipped_at (b ∷ bs) (suc p) within is =
    ap (λ n. skipped n (b ∷ bs)) (sum_by-cons (λ b. cond (begins b) 1 0) b (take p bs)) ∙ next_at b bs (count_by begins (take p bs)) p (begins b) refl (skipped_at bs p (omega (arith, within)) is)

-- what the first k characters are, and the others
split_at : (k : ℕ) (cs : List ℕ) → encode_utf8_all cs ≡ encode_utf8_all (take k cs) ++ encode_utf8_all (drop k cs)
split_at (suc k) (c ∷ cs) =
    ap (λ bs. encode_utf8 c ++ bs) (split_at k cs) ∙ sym (append_assoc (encode_utf8 c) (encode_utf8_all (take k cs)) (encode_utf8_all (drop k cs)))
split_at k cs = refl

pub first_are : (k : ℕ) (cs : List ℕ) → take (skipped k (encode_utf8_all cs)) (encode_utf8_all cs) ≡ encode_utf8_all (take k cs)
first_are k cs =
    ap (take (skipped k (encode_utf8_all cs))) (split_at k cs) ∙ take_at (encode_utf8_all (take k cs)) (encode_utf8_all (drop k cs)) _ (sym (skipped_is k cs))

pub others_are : (k : ℕ) (cs : List ℕ) → drop (skipped k (encode_utf8_all cs)) (encode_utf8_all cs) ≡ encode_utf8_all (drop k cs)
others_are k cs =
    ap (drop (skipped k (encode_utf8_all cs))) (split_at k cs) ∙ drop_at (encode_utf8_all (take k cs)) (encode_utf8_all (drop k cs)) _ (sym (skipped_is k cs))

lengths_are : (k : ℕ) (cs : List ℕ) → length (encode_utf8_all cs) ≡ length (encode_utf8_all (take k cs)) + length (encode_utf8_all (drop k cs))
lengths_are k cs = ap length (split_at k cs) ∙ length-append (encode_utf8_all (take k cs)) (encode_utf8_all (drop k cs))

-- k characters, and n more of them
more_are : (k n : ℕ) (cs : List ℕ) → skipped k (encode_utf8_all cs) + skipped n (drop (skipped k (encode_utf8_all cs)) (encode_utf8_all cs)) ≡ skipped (k + n) (encode_utf8_all cs)
more_are k n cs =
    omega (arith, skipped_is k cs, ap (skipped n) (others_are k cs), skipped_is n (drop k cs), skipped_is (k + n) cs, lengths_are k cs, lengths_are n (drop k cs), lengths_are (k + n) cs, ap (λ xs. length (encode_utf8_all xs)) (drop-drop n k cs))

-- ---- the part of a text

-- where a part begins, by the sign
pub begin_front : (z : ℤ) (n : ℕ) → pos 0 ≤ℤ z → part_begin z n ≡ min (unsigned_abs z) n
begin_front (pos k) n front = refl
begin_front (negsuc k) n front = absurd (omega (arith, ints, front))

pub begin_back : (z : ℤ) (n : ℕ) → z <ℤ pos 0 → part_begin z n ≡ n - unsigned_abs z
begin_back (pos k) n back = absurd (omega (arith, ints, back))
begin_back (negsuc k) n back = refl

module _ (bs : List ℕ) (text : IsUtf8 bs) where
  spells : encode_utf8_all (chars bs) ≡ bs
  spells = encodes-chars bs text

  -- what stands behind k characters
  others : (k : ℕ) → drop (skipped k bs) bs ≡ encode_utf8_all (drop k (chars bs))
  others k = subst (λ xs. drop (skipped k xs) xs ≡ encode_utf8_all (drop k (chars bs))) spells (others_are k (chars bs))

  pub skipped_more : (k n : ℕ) → skipped k bs + skipped n (drop (skipped k bs) bs) ≡ skipped (k + n) bs
  skipped_more k n = subst (λ xs. skipped k xs + skipped n (drop (skipped k xs) xs) ≡ skipped (k + n) xs) spells (more_are k n (chars bs))

  counted : count_by begins bs ≡ length (chars bs)
  counted = subst (λ xs. count_by begins xs ≡ length (chars bs)) spells (counted_is (chars bs))

  -- nothing stands before the first character
  pub none_before : (k : ℕ) → k ≡ 0 → 0 ≡ skipped k bs
  none_before k none =
      sym (ap (λ n. skipped n bs) none ∙ (ap (skipped 0) (sym spells) ∙ skipped_is 0 (chars bs)))

  -- the rest of a text from the place where a part begins, counted from the front or from the end
  pub rest_front : (start : ℤ) (place count : ℕ) → pos 0 ≤ℤ start → count ≡ unsigned_abs start → place ≡ skipped count bs → drop place bs ≡ encode_utf8_all (drop (part_begin start (length (chars bs))) (chars bs))
  rest_front start place count front is at =
      ap (λ n. drop n bs) (at ∙ ap (λ n. skipped n bs) is) ∙ (others (unsigned_abs start) ∙ ap encode_utf8_all (sym (ap (λ n. drop n (chars bs)) (begin_front start (length (chars bs)) front) ∙ drop_min (unsigned_abs start) (chars bs))))

  pub rest_back : (start : ℤ) (place count : ℕ) → start <ℤ pos 0 → count ≡ unsigned_abs start → place ≡ skipped (count_by begins bs - count) bs → drop place bs ≡ encode_utf8_all (drop (part_begin start (length (chars bs))) (chars bs))
  rest_back start place count back is at =
      let b : count_by begins bs - count ≡ part_begin start (length (chars bs)) = (λ i. counted i - is i) ∙ sym (begin_back start (length (chars bs)) back) in
      ap (λ n. drop n bs) (at ∙ ap (λ n. skipped n bs) b) ∙ others (part_begin start (length (chars bs)))

-- the last byte of those that begin a character and are to be found
pub last_begin : (bs : List ℕ) (p place left count : ℕ) → p + 1 ≡ place → place ≤ length bs → begins (get_or bs p 0) ≡ true → count_by begins (drop place bs) + left ≡ count → left ≡ 1 → p ≡ skipped (count_by begins bs - count) bs
last_begin bs p place left count follows within is told one =
    let on : suc p ≡ place = omega arith in
    let here : drop p bs ≡ get_or bs p 0 ∷ drop place bs = drop-cons bs p 0 (omega arith) ∙ ap (λ n. get_or bs p 0 ∷ drop n bs) on in
    let first : count_by begins (drop p bs) ≡ cond (begins (get_or bs p 0)) 1 0 + count_by begins (drop place bs) = ap (count_by begins) here ∙ sum_by-cons (λ b. cond (begins b) 1 0) (get_or bs p 0) (drop place bs) in
    let none : ℕ = 0 in
    let bit : cond (begins (get_or bs p 0)) 1 none ≡ 1 = ap (λ t. cond {A = ℕ} t 1 0) is in
    let all : count_by begins bs ≡ count_by begins (take p bs) + count_by begins (drop p bs) = ap (count_by begins) (sym (take-append-drop p bs)) ∙ sum_by-append (λ b. cond (begins b) 1 0) (take p bs) (drop p bs) in
    let before : count_by begins bs - count ≡ count_by begins (take p bs) = omega (arith, all, first, bit) in
    sym (ap (λ k. skipped k bs) before ∙ skipped_at bs p (omega arith) is)

pub rest_some : (bs cs : List ℕ) (place k n : ℕ) → drop place bs ≡ encode_utf8_all cs → n ≡ skipped k (drop place bs) → sliced bs place (place + n - place) ≡ encode_utf8_all (take k cs)
rest_some bs cs place k n is counted =
    let long : place + n - place ≡ skipped k (drop place bs) = omega (arith, counted) in
    ap (sliced bs place) long ∙ (ap (λ xs. take (skipped k xs) xs) is ∙ first_are k cs)

-- ---- texts of ASCII alone

IsAscii-cut : (start : ℤ) (len : Option ℕ) (bytes : List ℕ) → IsAscii bytes → IsAscii (cut start len bytes)
IsAscii-cut start None bytes ascii = IsAscii-drop bytes (part_begin start (length bytes)) ascii
IsAscii-cut start (Some k) bytes ascii =
    IsAscii-take _ k (IsAscii-drop bytes (part_begin start (length bytes)) ascii)

-- their characters are their bytes
pub ascii_cut : (row : List ℕ) → IsAscii row → IsCutByBytes text_cut row
ascii_cut row ascii start len =
    ap (λ cs. encode_utf8_all (cut start len cs)) (chars-IsAscii row ascii) ∙ encodes-IsAscii (cut start len row) (IsAscii-cut start len row ascii)

pub ascii_by_bytes : (bytes : List ℕ) → IsAscii bytes → (place n : ℕ) → IsCutByBytes text_cut (sliced bytes place n)
ascii_by_bytes bytes ascii place n =
    ascii_cut (sliced bytes place n) (IsAscii-take (drop place bytes) n (IsAscii-drop bytes place ascii))

-- what a number and bytes have together: the bits that are set in any of them
abbrev pub together : ℕ → List ℕ → ℕ
together n [] = n
together n (b ∷ bs) = together (bit_or n b) bs

ascii_cons : (b : ℕ) (bs : List ℕ) → b < 128 → IsAscii bs → IsAscii (b ∷ bs)
ascii_cons b bs low rest zero = low
ascii_cons b bs low rest (suc i) = rest i

-- it is below 128 exactly where each of them is
pub each_low : (n : ℕ) (bs : List ℕ) → together n bs < 128 → (n < 128) × IsAscii bs
each_low n [] low = (low, IsAscii-nil)
each_low n (b ∷ bs) low =
    let rest = each_low (bit_or n b) bs low in
    (omega (arith, le_or_l n b, rest.0), ascii_cons b bs (omega (arith, le_or_r n b, rest.0)) rest.1)

pub low_together : (n : ℕ) (bs : List ℕ) → n < 128 → IsAscii bs → together n bs < 128
low_together n [] low ascii = low
low_together n (b ∷ bs) low ascii = low_together (bit_or n b) bs (or_lt 7 n b low (ascii 0)) (λ i. ascii (suc i))
