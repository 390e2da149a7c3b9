-- Ranges of rows under a validity: which of them are null, and runs of rows that are valid or null.
use Rattle.std.proofs.Common.{◌≡◌, ℕ, zero, suc, ◌+◌, ◌-◌, ◌<◌, ◌≤◌, Bool, true, false, not, Option, Some, None, List, [], ◌∷◌, length, map, take, drop, get_or, replicate, refl, ap, sym, ◌∙◌, zero-add, inl, inr, arith}
use Rattle.std.specs.Prelude.{slice_get}
use Rattle.std.specs.Bool.{Decides}
use Rattle.std.specs.List.{All}
use Rattle.std.proofs.lemmas.Bool.{cases_lt}
use Rattle.std.proofs.lemmas.List.{drop-replicate, take-replicate, get_or-take, get_or-drop, get_or-replicate}
use Rattle.std.proofs.lemmas.Option.{get_or_from_slice_get}
use Rattle.std.proofs.lemmas.List.Elements.{All-take, All-drop}
use Rattle.arrow_types.specs.Relation.{is_null}
use Rattle.arrow_types.specs.Rows.{mask, masked}
use Rattle.arrow_types.specs.Slot.{Slot, Null}
use Rattle.arrow_memory.specs.Sliced.{sliced}
use Rattle.arrow_memory.proofs.OffsetLemmas.{map_sliced}
use Rattle.arrow_memory.proofs.SlicedLemmas.{length-sliced, sliced-sliced, same_joined}
use Rattle.arrow_flat.specs.Parts.{FitsRows, IsValue, bits_of_slice}
use Rattle.arrow_flat.proofs.PartsLemmas.{marks-masked, masked-sliced}

-- bits that are all set

bit_of_part : (bits : List Bool) (start n i : ℕ) → i < n → get_or (sliced bits start n) i false ≡ get_or bits (start + i) false
bit_of_part bits start n i within = get_or-take n (drop start bits) i false within ∙ get_or-drop start bits i false

bit_of_run : (bits : List Bool) (bit : Bool) (start n i : ℕ) → i < n → sliced bits start n ≡ replicate n bit → get_or bits (start + i) false ≡ bit
bit_of_run bits bit start n i within run =
    sym (bit_of_part bits start n i within) ∙ (ap (λ bs. get_or bs i false) run ∙ get_or-replicate n i bit false within)

-- the longest run from a place on reaches to the end, and is of such bits
pub longest_run : (bits : List Bool) (bit : Bool) (start end len : ℕ) → 0 < len → start < end → end ≤ start + len → sliced bits start (end - start) ≡ replicate (end - start) bit → (end < start + len → slice_get bits end ≡ Some (not bit)) → sliced bits start len ≡ replicate len true → (bit ≡ true) × (end ≡ start + len)
longest_run bits bit start end len some low high run longest set =
    let first : bit ≡ true = sym (bit_of_run bits bit start (end - start) 0 (omega arith) run) ∙ bit_of_run bits true start len 0 some set in
    elim (cases_lt end (start + len)) as (λ _. (bit ≡ true) × (end ≡ start + len)) [
      | inl below ↦
          let place : start + (end - start) ≡ end = omega arith in
          let here : get_or bits end false ≡ true = ap (λ k. get_or bits k false) (sym place) ∙ bit_of_run bits true start len (end - start) (omega arith) set in
          let other : get_or bits end false ≡ not bit = get_or_from_slice_get bits end (not bit) false (longest below) in
          let clash : not true ≡ true = ap not (sym first) ∙ (sym other ∙ here) in
          absurd (cc)
      | inr from ↦ (first, omega arith)
    ]

-- rows without and with nulls

pub mask_of_values : (xs : List Slot) (n : ℕ) → length xs ≤ n → mask (replicate n true) xs ≡ xs
mask_of_values [] zero short = refl
mask_of_values [] (suc n) short = refl
mask_of_values (x ∷ xs) zero short = absurd (omega (arith, short))
mask_of_values (x ∷ xs) (suc n) short = ap (λ ys. x ∷ ys) (mask_of_values xs n (omega (arith, short)))

pub mask_of_nulls : (xs : List Slot) (n : ℕ) → n ≤ length xs → mask (replicate n false) xs ≡ replicate n Null
mask_of_nulls xs zero long = refl
mask_of_nulls [] (suc n) long = absurd (omega (arith, long))
mask_of_nulls (x ∷ xs) (suc n) long = ap (λ ys. Null ∷ ys) (mask_of_nulls xs n (omega (arith, long)))

-- a part of the bits of a range
part_of_bits : (v : Option (List Bool)) (a len i n : ℕ) → i + n ≤ len → sliced (bits_of_slice v a len) i n ≡ bits_of_slice v (a + i) n
part_of_bits None a len i n within =
    ap (take n) (drop-replicate i len true) ∙ take-replicate n (len - i) true (omega (arith, within))
part_of_bits (Some bits) a len i n within = sliced-sliced bits a len i n within

-- and of its rows
part_of_range : (v : Option (List Bool)) (xs : List Slot) (a b len i n : ℕ) → i + n ≤ len → sliced (mask (bits_of_slice v a len) (sliced xs b len)) i n ≡ mask (bits_of_slice v (a + i) n) (sliced xs (b + i) n)
part_of_range v xs a b len i n within =
    sym (masked-sliced (Some (bits_of_slice v a len)) (sliced xs b len) i n) ∙ (λ t. mask (part_of_bits v a len i n within t) (sliced-sliced xs b len i n within t))

-- what is stored in two ranges, under the bits of the first
module _ (v : Option (List Bool)) (xs ys : List Slot) (a b len : ℕ) (here : a + len ≤ length xs) (there : b + len ≤ length ys) where
  abbrev left : List Slot
  left = mask (bits_of_slice v a len) (sliced xs a len)

  abbrev right : List Slot
  right = mask (bits_of_slice v a len) (sliced ys b len)

  more : (i n : ℕ) → i + n ≤ len → take i left ≡ take i right → mask (bits_of_slice v (a + i) n) (sliced xs (a + i) n) ≡ mask (bits_of_slice v (a + i) n) (sliced ys (b + i) n) → take (i + n) left ≡ take (i + n) right
  more i n within before same =
      let next : sliced left i n ≡ sliced right i n = part_of_range v xs a a len i n within ∙ (same ∙ sym (part_of_range v ys a b len i n within)) in
      same_joined left right 0 0 i n before (ap (λ k. sliced left k n) (zero-add i) ∙ (next ∙ ap (λ k. sliced right k n) (sym (zero-add i))))

  -- a run of rows that are stored alike
  pub more_values : (i n : ℕ) → i + n ≤ len → take i left ≡ take i right → sliced xs (a + i) n ≡ sliced ys (b + i) n → take (i + n) left ≡ take (i + n) right
  more_values i n within before same = more i n within before (ap (mask (bits_of_slice v (a + i) n)) same)

  -- and one of nulls
  pub more_nulls : (i n : ℕ) → i + n ≤ len → take i left ≡ take i right → bits_of_slice v (a + i) n ≡ replicate n false → take (i + n) left ≡ take (i + n) right
  more_nulls i n within before run =
      let long = length-sliced xs (a + i) n (omega (arith, here, within)) in
      let other_long = length-sliced ys (b + i) n (omega (arith, there, within)) in
      more i n within before (rw run (mask_of_nulls (sliced xs (a + i) n) n (omega (arith, long)) ∙ sym (mask_of_nulls (sliced ys (b + i) n) n (omega (arith, other_long)))))

  -- where all is the same, so is each run of valid rows
  pub run_same : (i n : ℕ) → i + n ≤ len → bits_of_slice v (a + i) n ≡ replicate n true → left ≡ right → sliced xs (a + i) n ≡ sliced ys (b + i) n
  run_same i n within run same =
      let long = length-sliced xs (a + i) n (omega (arith, here, within)) in
      let other_long = length-sliced ys (b + i) n (omega (arith, there, within)) in
      let parts = sym (part_of_range v xs a a len i n within) ∙ (ap (λ zs. sliced zs i n) same ∙ part_of_range v ys a b len i n within) in
      let valid : mask (replicate n true) (sliced xs (a + i) n) ≡ mask (replicate n true) (sliced ys (b + i) n) = rw run at parts in
      sym (mask_of_values (sliced xs (a + i) n) n (omega (arith, long))) ∙ (valid ∙ mask_of_values (sliced ys (b + i) n) n (omega (arith, other_long)))

  -- the first rows are all rows
  pub runs_all : take len left ≡ take len right → left ≡ right
  runs_all same =
      let start : a + 0 ≡ a = omega arith in
      let other_start : b + 0 ≡ b = omega arith in
      let first : take len left ≡ left = part_of_range v xs a a len 0 len (omega arith) ∙ (λ t. mask (bits_of_slice v (start t) len) (sliced xs (start t) len)) in
      let other : take len right ≡ right = part_of_range v ys a b len 0 len (omega arith) ∙ (λ t. mask (bits_of_slice v (start t) len) (sliced ys (other_start t) len)) in
      sym first ∙ (same ∙ other)

-- the rows of a range
range_is : (v : Option (List Bool)) (xs : List Slot) (a len : ℕ) → a + len ≤ length xs → sliced (masked v xs) a len ≡ mask (bits_of_slice v a len) (sliced xs a len)
range_is None xs a len within =
    let long = length-sliced xs a len within in
    sym (mask_of_values (sliced xs a len) len (omega (arith, long)))
range_is (Some bits) xs a len within = sym (masked-sliced (Some bits) xs a len)

all_valid : (xs : List Slot) (n : ℕ) → length xs ≡ n → All IsValue xs → replicate n true ≡ map (λ s. not (is_null s)) xs
all_valid [] zero long values = refl
all_valid [] (suc n) long values = absurd (omega (arith, long))
all_valid (x ∷ xs) zero long values = absurd (omega (arith, long))
all_valid (x ∷ xs) (suc n) long values =
    let first : is_null x ≡ false = values 0 x (omega arith) in
    let rest = all_valid xs n (omega (arith, long)) (λ k d within. values (suc k) d (omega (arith, within))) in
    λ i. not (sym first i) ∷ rest i

-- which of them are valid is theirs to say
bits_are : (v : Option (List Bool)) (xs : List Slot) (a len : ℕ) → All IsValue xs → FitsRows v (length xs) → a + len ≤ length xs → bits_of_slice v a len ≡ map (λ s. not (is_null s)) (sliced (masked v xs) a len)
bits_are None xs a len values fits within =
    all_valid (sliced xs a len) len (length-sliced xs a len within) (All-take IsValue len _ (All-drop IsValue a _ values))
bits_are (Some bits) xs a len values fits within =
    ap (λ zs. sliced zs a len) (marks-masked (Some bits) xs values fits) ∙ sym (map_sliced (λ s. not (is_null s)) (masked (Some bits) xs) a len)

-- two ranges of rows are the same where the same rows are null, and what is stored in the others is the same
module _ (v w : Option (List Bool)) (xs ys : List Slot) (a b len : ℕ) (values : All IsValue xs) (other_values : All IsValue ys) (fits : FitsRows v (length xs)) (other_fits : FitsRows w (length ys)) (here : a + len ≤ length xs) (there : b + len ≤ length ys) where
  pub bits_same : sliced (masked v xs) a len ≡ sliced (masked w ys) b len → bits_of_slice v a len ≡ bits_of_slice w b len
  bits_same same =
      bits_are v xs a len values fits here ∙ (ap (map (λ s. not (is_null s))) same ∙ sym (bits_are w ys b len other_values other_fits there))

  pub ranges_decide : (r : Bool) → bits_of_slice v a len ≡ bits_of_slice w b len → Decides r (mask (bits_of_slice v a len) (sliced xs a len) ≡ mask (bits_of_slice v a len) (sliced ys b len)) → Decides r (sliced (masked v xs) a len ≡ sliced (masked w ys) b len)
  ranges_decide r bits told =
      let left = range_is v xs a len here in
      let right : sliced (masked w ys) b len ≡ mask (bits_of_slice v a len) (sliced ys b len) = range_is w ys b len there ∙ ap (λ zs. mask zs (sliced ys b len)) (sym bits) in
      (λ e. left ∙ (told.0 e ∙ sym right), λ same. told.1 (sym left ∙ (same ∙ right)))
