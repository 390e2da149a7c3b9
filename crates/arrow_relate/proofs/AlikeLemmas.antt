-- How many bytes of two blocks are alike at the front, and what that tells of two rows that begin there.
use Rattle.std.proofs.Common.{◌≡◌, ℕ, zero, suc, ◌+◌, ◌<◌, ◌≤◌, ◌%◌, ◌^◌, Bool, true, false, not, cond, eqb, List, [], ◌∷◌, map, length, take, get_or, slice_index, w8, refl, sym, ap, ap₂, ◌∙◌, arith}
use Rattle.std.proofs.lemmas.List.{get_or-take, length-take, take_all}
use Rattle.std.proofs.lemmas.Map.Text.{is_eq-slice_cmp}
use Rattle.std.proofs.lemmas.Simd.{get_or-zip2, leading_from_mask_l, length-chunk, length-zip2, mask_l-mod, run_in_chunk_fails, run_in_chunk_le, run_in_chunk_stops, tops_compared, trailing_mask_l}
use Rattle.std.proofs.lemmas.Bool.Decides.{Decides-eqb}
use Rattle.std.proofs.lemmas.Cmp.{ranked}
use Rattle.std.specs.Prelude.{min}
use Rattle.std.specs.Bool.{Decides}
use Rattle.std.specs.Cmp.{nat_cmp_is}
use Rattle.std.specs.declared.cmp.Ordering.{Ordering}
use Rattle.std.specs.declared.cmp.Ordering.TheVariants.{Less, Equal, Greater}
use Rattle.std.specs.List.{prefix_len}
use Rattle.std.specs.Ordering.{MatchOrdering, is_eq, nat_cmp, ordering_then}
use Rattle.std.proofs.lemmas.Slice.Eq.{bytes_eq-Decides}
use Rattle.std.specs.Str.{bytes_eq}
use Rattle.std.specs.Slice.Scan.{HoldsNowhere, IsFirstPlace, differ}
use Rattle.arrow_types.specs.Relation.{byte_order}
use lib.Count.{count_trailing_zeros}
use lib.Lanes.{mask_l, top, zip2}

-- ---- a block of both

-- whether two bytes differ
abbrev apart : ℕ → ℕ → Bool
apart a b = not (eqb a b)

same : (bits : List Bool) → map (λ bit. bit) bits ≡ bits
same [] = refl
same (bit ∷ bits) = ap (λ rest. bit ∷ rest) (same bits)

module _ (xs ys : List ℕ) (left : 16 ≤ length xs) (right : 16 ≤ length ys) where
  abbrev apart_bits : List Bool
  apart_bits = zip2 apart (take 16 xs) (take 16 ys)

  long : length apart_bits ≡ 16
  long = length-zip2 apart (take 16 xs) (take 16 ys) (length-chunk 0 16 xs left ∙ sym (length-chunk 0 16 ys right)) ∙ length-chunk 0 16 xs left

  read : (k : ℕ) → k < 16 → get_or apart_bits k false ≡ differ xs ys k
  read k within =
      get_or-zip2 apart (take 16 xs) (take 16 ys) k 0 0 false (omega (arith, length-chunk 0 16 xs left)) (omega (arith, length-chunk 0 16 ys right))
      ∙ ap₂ apart (get_or-take 16 xs k 0 within) (get_or-take 16 ys k 0 within)

  masked : mask_l (map (top 7) (zip2 (λ a b. cond (apart a b) 255 0) (take 16 xs) (take 16 ys))) % 2 ^ 64 ≡ mask_l (map (λ bit. bit) apart_bits)
  masked =
      ap (λ bits. mask_l bits % 2 ^ 64) (tops_compared w8 apart (take 16 xs) (take 16 ys)) ∙ (mask_l-mod apart_bits 64 (omega (arith, long)) ∙ ap mask_l (sym (same apart_bits)))

  counted : (r : ℕ) → r ≡ prefix_len not apart_bits → IsFirstPlace (differ xs ys) 0 16 r
  counted r is =
      let room : 0 + 16 ≤ length apart_bits = omega (arith, long) in
      let run : r ≡ prefix_len not (take 16 apart_bits) = is ∙ ap (prefix_len not) (sym (take_all 16 apart_bits (omega (arith, long)))) in
      let at : r ≡ 0 + r = omega arith in
      record {
        low = omega arith;
        high = run_in_chunk_le (λ bit. bit) apart_bits 0 16 r false room run;
        before = λ k from to. sym (read k (omega (arith, run_in_chunk_le (λ bit. bit) apart_bits 0 16 r false room run))) ∙ run_in_chunk_fails (λ bit. bit) apart_bits 0 16 r false room run k from (omega (arith, to));
        hit = λ within. sym (read r within) ∙ ap (λ k. get_or apart_bits k false) at ∙ run_in_chunk_stops (λ bit. bit) apart_bits 0 16 r false room run within;
      }

  -- where no bit of the mask is set
  pub all_alike : mask_l (map (top 7) (zip2 (λ a b. cond (apart a b) 255 0) (take 16 xs) (take 16 ys))) % 2 ^ 64 ≡ 0 → IsFirstPlace (differ xs ys) 0 16 16
  all_alike none = counted 16 (sym long ∙ sym (leading_from_mask_l (λ bit. bit) apart_bits (sym masked ∙ none)))

  -- and where one is
  pub first_apart : (mask : ℕ) → mask ≡ mask_l (map (top 7) (zip2 (λ a b. cond (apart a b) 255 0) (take 16 xs) (take 16 ys))) % 2 ^ 64 → 0 < mask → IsFirstPlace (differ xs ys) 0 16 (count_trailing_zeros 64 mask)
  first_apart mask is some =
      let seen = is ∙ masked in
      counted _ (ap (count_trailing_zeros 64) seen ∙ trailing_mask_l (λ bit. bit) 64 apart_bits (omega (arith, long)) (omega (arith, seen)))

-- ---- rows that begin there

same_byte : (x y : ℕ) → not (eqb x y) ≡ false → x ≡ y
same_byte x y alike = by (eqb x y) (Decides-eqb x y) alike
  where
    by : (is : Bool) → Decides is (x ≡ y) → not is ≡ false → x ≡ y
    by true decides alike = decides.0 refl
    by false decides alike = let no : ◌≡◌ {A = ℕ} 1 0 = ap (λ bit. cond bit 1 0) alike in absurd (omega (arith, no))

other_byte : (x y : ℕ) → not (eqb x y) ≡ true → x ≡ y → ⊥
other_byte x y differs level = by (eqb x y) ((Decides-eqb x y).1 level) differs
  where
    by : (is : Bool) → is ≡ true → not is ≡ true → ⊥
    by true is differs = let no : ◌≡◌ {A = ℕ} 0 1 = ap (λ bit. cond bit 1 0) differs in omega (arith, no)
    by false is differs = let no : ◌≡◌ {A = ℕ} 0 1 = ap (λ bit. cond bit 1 0) is in omega (arith, no)

-- two bytes that differ decide, whatever comes after them
decided : (x y : ℕ) (r o : Ordering) → MatchOrdering r (x < y) (x ≡ y) (y < x) → (x ≡ y → ⊥) → r ≡ ordering_then r o
decided x y Less o is apart = refl
decided x y Equal o is apart = absurd (apart is)
decided x y Greater o is apart = refl

-- two that are alike leave it to those after them
left_over : (x y : ℕ) (o : Ordering) → not (eqb x y) ≡ false → o ≡ ordering_then (nat_cmp x y) o
left_over x y o alike = ap (λ r. ordering_then r o) (nat_cmp_is x y Equal (same_byte x y alike))

-- rows of m and n bytes compare by the first two bytes that differ
pub by_byte : (d m n : ℕ) (xs ys : List ℕ) → d < m → d < n → d < length xs → d < length ys → HoldsNowhere (differ xs ys) 0 d → differ xs ys d ≡ true → nat_cmp (slice_index xs d) (slice_index ys d) ≡ byte_order (take m xs) (take n ys)
by_byte zero (suc m) (suc n) (x ∷ xs) (y ∷ ys) l r p q alike hit =
    decided x y (nat_cmp x y) (byte_order (take m xs) (take n ys)) (ranked x y (nat_cmp x y) refl) (other_byte x y hit)
by_byte (suc d) (suc m) (suc n) (x ∷ xs) (y ∷ ys) l r p q alike hit =
    by_byte d m n xs ys (omega arith) (omega arith) (omega arith) (omega arith) (λ k from to. alike (suc k) (omega arith) (omega arith)) hit
    ∙ left_over x y (byte_order (take m xs) (take n ys)) (alike 0 (omega arith) (omega arith))
by_byte d m n xs ys l r p q alike hit = absurd (omega arith)

one_more : (m n : ℕ) (r : Ordering) → MatchOrdering r (m < n) (m ≡ n) (n < m) → MatchOrdering r (suc m < suc n) (suc m ≡ suc n) (suc n < suc m)
one_more m n Less below = let below : m < n = below in omega (arith, below)
one_more m n Equal level = ap suc level
one_more m n Greater above = let above : n < m = above in omega (arith, above)

-- and by their lengths where none do
pub by_lengths : (m n : ℕ) (xs ys : List ℕ) → m ≤ length xs → n ≤ length ys → HoldsNowhere (differ xs ys) 0 (min m n) → nat_cmp m n ≡ byte_order (take m xs) (take n ys)
by_lengths zero zero xs ys p q alike = refl
by_lengths zero (suc n) xs (y ∷ ys) p q alike = sym (nat_cmp_is 0 (suc n) Less (omega arith))
by_lengths (suc m) zero (x ∷ xs) ys p q alike = sym (nat_cmp_is (suc m) 0 Greater (omega arith))
by_lengths (suc m) (suc n) (x ∷ xs) (y ∷ ys) p q alike =
    sym (nat_cmp_is (suc m) (suc n) (nat_cmp m n) (one_more m n (nat_cmp m n) (ranked m n (nat_cmp m n) refl)))
    ∙ by_lengths m n xs ys (omega arith) (omega arith) (λ k from to. alike (suc k) (omega arith) (omega arith))
    ∙ left_over x y (byte_order (take m xs) (take n ys)) (alike 0 (omega arith) (omega arith))
by_lengths m n xs ys p q alike = absurd (omega arith)

-- ---- whether such rows are equal

-- rows of different lengths are not
pub other_lengths : (m n : ℕ) (xs ys : List ℕ) → m ≤ length xs → n ≤ length ys → (m ≡ n → ⊥) → false ≡ is_eq (byte_order (take m xs) (take n ys))
other_lengths m n xs ys left right unequal =
    by (bytes_eq (take m xs) (take n ys)) (bytes_eq-Decides (take m xs) (take n ys)) ∙ sym (is_eq-slice_cmp (take m xs) (take n ys))
  where
    by : (same : Bool) → Decides same (take m xs ≡ take n ys) → false ≡ same
    by true decides = let as_long = ap length (decides.0 refl) in absurd (unequal (omega (arith, left, right, as_long, length-take m xs, length-take n ys)))
    by false decides = refl

-- rows of one length are, that are alike so far
pub rows_equal : (m n d : ℕ) (xs ys : List ℕ) → m ≤ length xs → n ≤ length ys → m ≡ n → m ≤ d → HoldsNowhere (differ xs ys) 0 d → true ≡ is_eq (byte_order (take m xs) (take n ys))
rows_equal m n d xs ys left right long far alike =
    ap is_eq (nat_cmp_is m n Equal long ∙ by_lengths m n xs ys left right (λ k from to. alike k from (omega (arith, to))))

untied : (x y : ℕ) (r : Ordering) → MatchOrdering r (x < y) (x ≡ y) (y < x) → (x ≡ y → ⊥) → false ≡ is_eq r
untied x y Less is apart = refl
untied x y Equal is apart = absurd (apart is)
untied x y Greater is apart = refl

-- and rows are not that have two bytes that differ
pub rows_differ : (d m n : ℕ) (xs ys : List ℕ) → d < m → d < n → m ≤ length xs → n ≤ length ys → HoldsNowhere (differ xs ys) 0 d → differ xs ys d ≡ true → false ≡ is_eq (byte_order (take m xs) (take n ys))
rows_differ d m n xs ys l r left right alike hit =
    let x = slice_index xs d in
    let y = slice_index ys d in
    untied x y (nat_cmp x y) (ranked x y (nat_cmp x y) refl) (other_byte x y hit) ∙ ap is_eq (by_byte d m n xs ys l r (omega arith) (omega arith) alike hit)
