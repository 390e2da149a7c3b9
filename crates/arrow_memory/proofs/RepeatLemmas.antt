-- Bits that are repeated, in a word.
use Rattle.arrow_memory.proofs.Common.{◌≡◌, ℕ, ◌+◌, ◌*◌, ◌/◌, ◌%◌, ◌^◌, ◌<◌, ◌≤◌, Bool, true, false, cond, List, [], ◌∷◌, length, get_or, take, replicate, ap, sym, ◌∙◌, arith, shr_and_one, add-mul, bit_and, bit_at, bit_or, bit_mask_l, flat_map, flat_map_more, flat_map-cons, length-append, length-replicate, length-take, nil_from_length, take_more, word_of}
use Rattle.arrow_memory.proofs.MutableLemmas.{word_of-zeros}
use Rattle.arrow_memory.proofs.WordLemmas.{word_and_more}

-- how many they are
pub repeated_long : (t : ℕ) (xs : List Bool) → length (flat_map (replicate t) xs) ≡ length xs * t
repeated_long t [] = omega arith
repeated_long t (x ∷ xs) =
    ap length (flat_map-cons (replicate t) x xs) ∙ (length-append (replicate t x) (flat_map (replicate t) xs) ∙ omega (arith, length-replicate t x, repeated_long t xs, add-mul 1 (length xs) t))

-- none where they are no times, or none is repeated
pub repeated_none : (t : ℕ) (xs : List Bool) → length xs * t ≡ 0 → 0 ≡ word_of (flat_map (replicate t) xs)
repeated_none t xs none = ap word_of (sym (nil_from_length (flat_map (replicate t) xs) (repeated_long t xs ∙ none)))

-- the bits of one row more
pub repeated_more : (xs : List Bool) (t row word run : ℕ) → row < length xs → (row + 1) * t ≤ 64 → word ≡ word_of (flat_map (replicate t) (take row xs)) → run ≡ word_of (replicate t (get_or xs row false)) → bit_or word (run * 2 ^ (row * t) % 2 ^ 64) ≡ word_of (flat_map (replicate t) (take (row + 1) xs))
repeated_more xs t row word run here few is same =
    let before = flat_map (replicate t) (take row xs) in
    let bit = get_or xs row false in
    let done : length before ≡ row * t = repeated_long t (take row xs) ∙ ap (λ n. n * t) (omega (arith, here, length-take row xs)) in
    let room : row * t + length (replicate t bit) ≤ 64 = omega (arith, few, add-mul row 1 t, length-replicate t bit) in
    let all = flat_map_more (replicate t) [] (take row xs) bit ∙ ap (flat_map (replicate t)) (sym (take_more xs row false here)) in
    word_and_more before (replicate t bit) word run (row * t) 64 is done room same ∙ ap word_of all

one_row : (b : Bool) (x t set run : ℕ) → x ≡ cond b 1 0 → set ≡ word_of (replicate t true) → (x ≡ 1 → run ≡ set) → ((x ≡ 1 → ⊥) → run ≡ 0) → run ≡ word_of (replicate t b)
one_row true x t set run is ones valid null = valid is ∙ ones
one_row false x t set run is ones valid null = null (λ one. omega (arith, is, one)) ∙ sym (word_of-zeros t)

-- a row's bits: ones where its bit is set, and zeros where not
pub row_run : (bits : List Bool) (rows t row set run : ℕ) → rows ≡ word_of bits → set ≡ word_of (replicate t true) → (bit_and (rows / 2 ^ row) 1 ≡ 1 → run ≡ set) → ((bit_and (rows / 2 ^ row) 1 ≡ 1 → ⊥) → run ≡ 0) → run ≡ word_of (replicate t (get_or bits row false))
row_run bits rows t row set run is ones valid null =
    one_row (get_or bits row false) (bit_and (rows / 2 ^ row) 1) t set run (shr_and_one rows row ∙ (ap (λ w. bit_at w row) is ∙ bit_mask_l bits row)) ones valid null
