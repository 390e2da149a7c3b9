-- Which of 16 bytes are ASCII, by one mask.
use Rattle.arrow_logic.proofs.Common.{◌≡◌, ℕ, ◌<◌, ◌≤◌, ◌%◌, ◌^◌, Bool, true, false, cond, leb, List, length, map, take, replicate, get_or, slice_index, w8, w64, refl, ap, sym, subst, ◌∙◌, arith, inl, inr, IsAscii, bit_at, trailing_zeros, mask_l, top, zip2, eq-zero-or-pos, cases_lt, leb-false, get_or-take, get_or_past, length-map, length-take, length-take-le, bit_at-zero, bit_at-trailing_zeros, bit_mask_l, mask_l-mod, tops_compared, zip2_splat_left}
use Rattle.std.proofs.Math.ListN.{get_or-map}

-- the mask of a comparison of each of 16 bytes with one number
pub mask_of_16 : (n : ℕ) (bytes : List ℕ) → length bytes ≡ 16 → mask_l (map (top 7) (zip2 (λ a b. cond (leb a b) 255 0) (replicate 16 n) bytes)) % 2 ^ 64 ≡ mask_l (map (leb n) bytes)
mask_of_16 n bytes count =
    ap (λ bits. mask_l bits % 2 ^ 64) (tops_compared w8 leb (replicate 16 n) bytes ∙ zip2_splat_left leb n 16 bytes count) ∙ mask_l-mod (map (leb n) bytes) 64 (omega (arith, length-map bytes (leb n), count))

not_high : (b : ℕ) (t : Bool) → leb 128 b ≡ t → cond {A = ℕ} t 1 0 ≡ 0 → b < 128
not_high b true is none = absurd (omega (arith, none))
not_high b false is none = omega (arith, leb-false 128 b is)

-- bytes before the lowest set bit of the mask of those that are not ASCII
pub low_before : (xs : List ℕ) (mask k : ℕ) → 16 ≤ length xs → mask ≡ mask_l (map (top 7) (zip2 (λ a b. cond (leb a b) 255 0) (replicate 16 128) (take 16 xs))) % 2 ^ 64 → k < 16 → k < trailing_zeros w64 mask → slice_index xs k < 128
low_before xs mask k long is small before =
    subst (λ b. b < 128) (get_or-take 16 xs k 0 small) (not_high (get_or (take 16 xs) k 0) _ refl (sym read ∙ unset))
  where
    seen : mask ≡ mask_l (map (leb 128) (take 16 xs))
    seen = is ∙ mask_of_16 128 (take 16 xs) (length-take-le 16 xs long)

    fits : mask < 2 ^ 64
    fits = omega (arith, is)

    read : bit_at mask k ≡ cond (leb 128 (get_or (take 16 xs) k 0)) 1 0
    read =
        ap (λ m. bit_at m k) seen ∙ (bit_mask_l (map (leb 128) (take 16 xs)) k ∙ ap (λ b. cond b 1 0) (get_or-map (leb 128) (take 16 xs) k 0))

    unset : bit_at mask k ≡ 0
    unset = elim (eq-zero-or-pos mask) as (λ _. bit_at mask k ≡ 0) [
      | inl none ↦ ap (λ m. bit_at m k) none ∙ bit_at-zero k
      | inr some ↦ (bit_at-trailing_zeros w64 mask some fits).2 k before
    ]

-- a beginning of bytes that are below 128 so far
pub low_take : (xs : List ℕ) (n m : ℕ) → n ≤ m → ((k : ℕ) → k < m → slice_index xs k < 128) → IsAscii (take n xs)
low_take xs n m within low i =
    elim (cases_lt i n) as (λ _. slice_index (take n xs) i < 128) [
      | inl below ↦ subst (λ b. b < 128) (sym (get_or-take n xs i 0 below)) (low i (omega (arith, below, within)))
      | inr past ↦ subst (λ b. b < 128) (sym (get_or_past (take n xs) i 0 (omega (arith, past, length-take n xs)))) (omega arith)
    ]
