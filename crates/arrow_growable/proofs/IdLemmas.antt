-- Of which rows a type id is one of some field, as words of bits.
use Rattle.arrow_growable.proofs.Common.{◌≡◌, ◌∙◌, ℕ, ℤ, ◌+◌, ◌*◌, ◌<◌, ◌≤◌, ◌%◌, ◌^◌, ◌-◌, ◌==◌, Bool, false, cond, List, [], ◌∷◌, ◌++◌, map, length, take, drop, replicate, get_or, w8, of_z, to_z, refl, sym, ap, ap₂, arith, bit_or, Decides-eqb, Decides-int_eq, same_from_decides, to_z-of_z, length-drop, length-map, length-take, length-take-le, map-append, take-take, get_or-drop, get_or-map, get_or-take, get_or_default, same_lists, take_more, All-head, All-tail, bitmask_splat, mask_l-lt, mul-lt-mul_of_pos_right, pow-le-pow_right, take-add, AnswersBits, AnswersWords, GathersBits, sliced, min, FitsSigned, All, int_eq, have_id}
use Rattle.std.proofs.lemmas.Nat.{pow-add, pow_pos}
use Rattle.std.specs.Int.Bits.{or_shifted_r}
use Rattle.arrow_memory.proofs.BitLemmas.{word_more}
use Rattle.arrow_memory.proofs.WordLemmas.{word_of-append}
use Rattle.std.specs.Int.{from_bool}
use Rattle.arrow_memory.proofs.GatherLemmas.{rows_by_words}
use lib.Lanes.{mask_l, top, zip2}

-- ---- a block of ids

-- whether two words are one
abbrev same_word : ℕ → ℕ → Bool
same_word x y = x == y

same_id : (id x : ℤ) → FitsSigned w8 id → FitsSigned w8 x → (of_z w8 x == of_z w8 id) ≡ int_eq id x
same_id id x fits small =
    let words = Decides-eqb (of_z w8 x) (of_z w8 id) in
    same_from_decides (of_z w8 x == of_z w8 id) (int_eq id x)
    ((λ is. sym (to_z-of_z w8 id fits) ∙ (ap (to_z w8) (sym (words.0 is)) ∙ to_z-of_z w8 x small)), λ is. words.1 (ap (of_z w8) (sym is)))
    (Decides-int_eq id x)

same_ids : (id : ℤ) (xs : List ℤ) → FitsSigned w8 id → All (FitsSigned w8) xs → map (λ x. x == of_z w8 id) (map (of_z w8) xs) ≡ have_id id xs
same_ids id [] fits small = refl
same_ids id (x ∷ xs) fits small =
    ap₂ (λ b bs. b ∷ bs) (same_id id x fits (All-head (FitsSigned w8) x xs small)) (same_ids id xs fits (All-tail (FitsSigned w8) x xs small))

pub block_is : (id : ℤ) (xs : List ℤ) → FitsSigned w8 id → All (FitsSigned w8) xs → length xs ≡ 16 → mask_l (map (top 7) (zip2 (λ a b. cond (same_word a b) 255 0) (map (of_z w8) xs) (replicate 16 (of_z w8 id)))) % 2 ^ 64 ≡ mask_l (have_id id xs)
block_is id xs fits small long =
    bitmask_splat w8 same_word (map (of_z w8) xs) 16 (of_z w8 id) (length-map xs (of_z w8) ∙ long) (omega arith) ∙ ap mask_l (same_ids id xs fits small)

-- ---- words of ids

-- bits above those of a word
joined_word : (xs ys : List Bool) (k low high : ℕ) → low ≡ mask_l xs → length xs ≡ k → high ≡ mask_l ys → k + length ys ≤ 64 → bit_or low (high * 2 ^ k % 18446744073709551616) ≡ mask_l (xs ++ ys)
joined_word xs ys k low high is long other room =
    let small : low < 2 ^ k = rw (is, sym long) (mask_l-lt xs) in
    let above : high < 2 ^ length ys = rw other (mask_l-lt ys) in
    let power = pow-le-pow_right {n = 2} (omega arith) {i = length ys + k} {j = 64} (omega (arith, room)) in
    let whole : high * 2 ^ k % 18446744073709551616 ≡ high * 2 ^ k = omega (arith, mul-lt-mul_of_pos_right above (pow_pos k), pow-add 2 (length ys) k, power) in
    ap (bit_or low) whole ∙ rw (or_shifted_r high k low small, word_of-append xs ys, long, is, other) (omega arith)

rows_cut : (id : ℤ) (types : List ℤ) (row n : ℕ) → have_id id (take (row + n) types) ≡ have_id id (take row types) ++ have_id id (take n (drop row types))
rows_cut id types row n = ap (have_id id) (take-add row n types) ∙ map-append (int_eq id) (take row types) (take n (drop row types))

pub block_more : (id : ℤ) (types : List ℤ) (row word block n : ℕ) → row + 16 ≤ length types → length types ≤ 64 → word ≡ mask_l (have_id id (take row types)) → n ≡ 16 → block ≡ mask_l (have_id id (take 16 (take n (drop row types)))) → bit_or word (block * 2 ^ row % 18446744073709551616) ≡ mask_l (have_id id (take (row + 16) types))
block_more id types row word block n within few is wide_is next =
    let first = take row types in
    let rest = take 16 (drop row types) in
    let long : length (have_id id first) ≡ row = length-map first (int_eq id) ∙ length-take-le row types (omega (arith, within)) in
    let same : take 16 (take n (drop row types)) ≡ rest = take-take 16 n (drop row types) (omega (arith, wide_is)) in
    let wide : length (have_id id rest) ≡ 16 = length-map rest (int_eq id) ∙ length-take-le 16 (drop row types) (omega (arith, within, length-drop row types)) in
    joined_word (have_id id first) (have_id id rest) row word block is long (next ∙ ap (λ xs. mask_l (have_id id xs)) same) (omega (arith, wide, within, few)) ∙ ap mask_l (sym (rows_cut id types row 16))

pub id_more : (id : ℤ) (types : List ℤ) (row word r : ℕ) (bit : Bool) (d : ℤ) → row < length types → length types ≤ 64 → word ≡ mask_l (have_id id (take row types)) → bit ≡ int_eq id (get_or types row d) → r ≡ from_bool bit → bit_or word (r * 2 ^ row % 18446744073709551616) ≡ mask_l (have_id id (take (row + 1) types))
id_more id types row word r bit d within few is next made =
    let first = take row types in
    let long : length (have_id id first) ≡ row = length-map first (int_eq id) ∙ length-take-le row types (omega (arith, within)) in
    let cut : have_id id (take (row + 1) types) ≡ have_id id first ++ bit ∷ [] = ap (have_id id) (take_more types row d within) ∙ (map-append (int_eq id) first (get_or types row d ∷ []) ∙ ap (λ b. have_id id first ++ b ∷ []) (sym next)) in
    ap (λ n. bit_or word (n * 2 ^ row % 18446744073709551616)) made ∙ word_more (have_id id first) bit word row long (omega (arith, within, few)) is ∙ ap mask_l (sym cut)

-- ---- many rows, a word at a time

-- whether a row has an id is what a bit tells
abbrev tells_id : ℤ → List ℤ → ℕ → Bool → Type 0
tells_id id types row bit = bit ≡ int_eq id (get_or types row id)

gathered : (id : ℤ) (types : List ℤ) (j n word : ℕ) → n ≡ min 64 (length types - 64 * j) → word ≡ mask_l (have_id id (sliced types (64 * j) n)) → GathersBits (tells_id id types) (64 * j) n word
gathered id types j n word few is =
    let part = sliced types (64 * j) n in
    let long : length part ≡ n = length-take n (drop (64 * j) types) ∙ omega (arith, few, length-drop (64 * j) types) in
    record {
      bits = have_id id part;
      long = length-map part (int_eq id) ∙ long;
      is = is;
      each = λ k below.
          get_or-map (int_eq id) part k id false (omega (arith, below, long))
          ∙ ap (int_eq id) (get_or-take n (drop (64 * j) types) k id below ∙ get_or-drop (64 * j) types k id);
    }

-- which rows have an id, by a bit each
bits_of_id : (answered : ℕ → Bool → Type 0) (types : List ℤ) (id : ℤ) (bits : List Bool) → AnswersBits answered (length types) bits → ((row : ℕ) (bit : Bool) → row < length types → answered row bit → bit ≡ int_eq id (get_or types row id)) → bits ≡ have_id id types
bits_of_id answered types id bits answers each =
    same_lists _ _ (answers.count ∙ sym (length-map types (int_eq id))) (λ i d within.
    let inside : i < length types = omega (arith, within, answers.count) in
    get_or_default bits i d false within ∙ (each i (get_or bits i false) inside (answers.each i inside) ∙ sym (get_or-map (int_eq id) types i id d inside)))

pub words_of_id : (answered : ℕ → ℕ → Type 0) (types : List ℤ) (id : ℤ) (bits : List Bool) → AnswersWords answered (length types) bits → ((j word : ℕ) → answered j word → word ≡ mask_l (have_id id (sliced types (64 * j) (min 64 (length types - 64 * j))))) → bits ≡ have_id id types
words_of_id answered types id bits answers each =
    bits_of_id (tells_id id types) types id bits
    (rows_by_words answered (tells_id id types) (length types) bits (λ j word given. gathered id types j (min 64 (length types - 64 * j)) word refl (each j word given)) answers)
    (λ row bit within is. is)
