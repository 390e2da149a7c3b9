-- What four bits give, in words and in lists.
use Rattle.arrow_memory.proofs.Common.{◌≡◌, ℕ, ◌+◌, ◌*◌, ◌%◌, ◌<◌, ◌==◌, Bool, false, List, [], ◌∷◌, length, map, get_or, refl, ap, sym, ◌∙◌, arith, slice_index, set, bit_at, range_with_len, by_fours, is_set, bits_in, word_of}
use Rattle.arrow_memory.proofs.BitmapLemmas.{bits_by_place, by_place}
use Rattle.arrow_memory.proofs.LogicLemmas.{GivesUpTo, gives_more, read_at}
use Rattle.arrow_memory.proofs.WordLemmas.{length-bits_in, get_or-bits_in}

-- what each bit of words gives with those of three others, from a bit of each on
abbrev pub give_at : (Bool → Bool → Bool → Bool → Bool) → List ℕ → ℕ → List ℕ → ℕ → List ℕ → ℕ → Bool → ℕ → Bool
give_at bits ys y zs z ws w bit i = bits bit (is_set ys (y + i)) (is_set zs (z + i)) (is_set ws (w + i))

abbrev pub GivesFoursUpTo : (Bool → Bool → Bool → Bool → Bool) → List ℕ → ℕ → List ℕ → ℕ → List ℕ → ℕ → List ℕ → List ℕ → ℕ → Type 0
GivesFoursUpTo bits ys y zs z ws w = GivesUpTo (give_at bits ys y zs z ws w)

-- one word more
pub fours_more : (bits : Bool → Bool → Bool → Bool → Bool) (ys : List ℕ) (y : ℕ) (zs : List ℕ) (z : ℕ) (ws : List ℕ) (w : ℕ) (old words : List ℕ) (j b c d value : ℕ)
    → GivesFoursUpTo bits ys y zs z ws w old words j → j < length words
    → b ≡ word_of (bits_in ys (y + 64 * j) 64) → c ≡ word_of (bits_in zs (z + 64 * j) 64) → d ≡ word_of (bits_in ws (w + 64 * j) 64)
    → ((k : ℕ) → k < 64 → (bit_at value k == 1) ≡ bits (bit_at (slice_index words j) k == 1) (bit_at b k == 1) (bit_at c k == 1) (bit_at d k == 1))
    → GivesFoursUpTo bits ys y zs z ws w old (set words j value) (j + 1)
fours_more bits ys y zs z ws w old words j b c d value before within b_is c_is d_is gives =
    gives_more (give_at bits ys y zs z ws w) old words j value before within (λ i here.
    let own : (bit_at (slice_index words j) (i % 64) == 1) ≡ is_set words i = ap (λ q. bit_at (slice_index words q) (i % 64) == 1) (sym here) in
    let second = read_at ys y j b i b_is here in
    let third = read_at zs z j c i c_is here in
    let fourth = read_at ws w j d i d_is here in
    gives (i % 64) (omega arith) ∙ (λ t. bits (own t) (second t) (third t) (fourth t)))

-- ---- lists of bits

fours : (f g h k : ℕ → Bool) (give : Bool → Bool → Bool → Bool → Bool) (ns : List ℕ) → by_fours give (map f ns) (map g ns) (map h ns) (map k ns) ≡ map (λ n. give (f n) (g n) (h n) (k n)) ns
fours f g h k give [] = refl
fours f g h k give (n ∷ ns) = ap (λ bits. give (f n) (g n) (h n) (k n) ∷ bits) (fours f g h k give ns)

pub bits_in-by_fours : (give : Bool → Bool → Bool → Bool → Bool) (words : List ℕ) (xs ys zs ws : List Bool) → length xs ≡ length ys → length xs ≡ length zs → length xs ≡ length ws
    → ((i : ℕ) → i < length xs → is_set words i ≡ give (get_or xs i false) (get_or ys i false) (get_or zs i false) (get_or ws i false)) → bits_in words 0 (length xs) ≡ by_fours give xs ys zs ws
bits_in-by_fours give words xs ys zs ws a b c each =
    let n = length xs in
    let places = fours (λ k. get_or xs k false) (λ k. get_or ys k false) (λ k. get_or zs k false) (λ k. get_or ws k false) give (range_with_len 0 n) in
    bits_by_place words n (λ k. give (get_or xs k false) (get_or ys k false) (get_or zs k false) (get_or ws k false)) each ∙ sym ((λ t. by_fours give (by_place xs n refl t) (by_place ys n (sym a) t) (by_place zs n (sym b) t) (by_place ws n (sym c) t)) ∙ places)

-- a bit of the words that hold another bitmap, of as many bits
pub bit_behind : (read : List ℕ) (xs seen : List Bool) (words : List ℕ) (offset len : ℕ) → read ≡ words → bits_in words offset len ≡ seen → length xs ≡ length seen → (i : ℕ) → i < length xs → is_set read (offset + i) ≡ get_or seen i false
bit_behind read xs seen words offset len read_is view_is long i within =
    let below : i < len = omega (arith, within, long, ap length view_is, length-bits_in words offset len) in
    ap (λ them. is_set them (offset + i)) read_is ∙ (sym (get_or-bits_in words offset len i false below) ∙ ap (λ bits. get_or bits i false) view_is)
