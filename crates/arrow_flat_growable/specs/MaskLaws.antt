-- Rows under a mask of bits, as the laws of what stores them ask.
use Rattle.std.proofs.Common.{arith, ◌≡◌, ◌+◌, ◌≤◌, ℕ, zero, suc, Bool, true, false, List, [], ◌∷◌, ◌++◌, Option, Some, None, length, map, replicate, if◌then◌else◌, refl, ap}
use Rattle.std.proofs.lemmas.List.{length-replicate}
use Rattle.arrow_types.specs.Rows.{mask, masked}
use Rattle.arrow_types.specs.Slot.{Slot, Null}
use Rattle.arrow_memory.specs.Sliced.{sliced}
use Rattle.arrow_memory.proofs.SlicedLemmas.{length-sliced}
use Rattle.arrow_flat.specs.Parts.{FitsRows, bits_of_slice}
use Rattle.arrow_flat.proofs.PartsLemmas.{masked-sliced}
use Rattle.arrow_flat_growable.specs.GrownRows.{filled}

-- bits that are all set leave the rows as they are
pub mask-set : (n : ℕ) (xs : List Slot) → length xs ≡ n → mask (replicate n true) xs ≡ xs
mask-set zero [] same = refl
mask-set zero (x ∷ xs) same = absurd (omega (arith, same))
mask-set (suc n) [] same = absurd (omega (arith, same))
mask-set (suc n) (x ∷ xs) same = ap (λ ys. x ∷ ys) (mask-set n xs (omega (arith, same)))

-- the rows of two masks, one behind the other
pub mask-append : (bits more : List Bool) (xs ys : List Slot) → length bits ≡ length xs → mask (bits ++ more) (xs ++ ys) ≡ mask bits xs ++ mask more ys
mask-append [] more [] ys same = refl
mask-append [] more (x ∷ xs) ys same = absurd (omega (arith, same))
mask-append (b ∷ bits) more [] ys same = absurd (omega (arith, same))
mask-append (b ∷ bits) more (x ∷ xs) ys same =
    ap (λ zs. (if b then x else Null) ∷ zs) (mask-append bits more xs ys (omega (arith, same)))

-- bits of which none is set make nulls of the rows
pub mask-unset : (n : ℕ) (ys : List Slot) → length ys ≡ n → mask (replicate n false) ys ≡ replicate n Null
mask-unset zero [] same = refl
mask-unset zero (y ∷ ys) same = absurd (omega (arith, same))
mask-unset (suc n) [] same = absurd (omega (arith, same))
mask-unset (suc n) (y ∷ ys) same = ap (λ zs. Null ∷ zs) (mask-unset n ys (omega (arith, same)))

-- the bits of a part are as many as its rows
pub length-bits_of_slice : (v : Option (List Bool)) (n start len : ℕ) → FitsRows v n → start + len ≤ n → length (bits_of_slice v start len) ≡ len
length-bits_of_slice None n start len fits within = length-replicate len true
length-bits_of_slice (Some bits) n start len fits within = length-sliced bits start len (omega (arith, fits, within))

-- a part under the bits of that part is that part of the rows
pub mask-part : (v : Option (List Bool)) (xs : List Slot) (start len : ℕ) → start + len ≤ length xs → mask (bits_of_slice v start len) (sliced xs start len) ≡ sliced (masked v xs) start len
mask-part None xs start len within = mask-set len (sliced xs start len) (length-sliced xs start len within)
mask-part (Some bits) xs start len within = masked-sliced (Some bits) xs start len

-- rows that are emptied beneath nulls: that does not show, and they are as many
pub mask-filled : {A : Type 0} (slot : List A → Slot) (bits : List Bool) (rows : List (List A)) → mask bits (map slot (filled bits rows)) ≡ mask bits (map slot rows)
mask-filled slot [] rows = refl
mask-filled slot (b ∷ bits) [] = refl
mask-filled slot (true ∷ bits) (row ∷ rows) = ap (λ xs. slot row ∷ xs) (mask-filled slot bits rows)
mask-filled slot (false ∷ bits) (row ∷ rows) = ap (λ xs. Null ∷ xs) (mask-filled slot bits rows)

pub length-filled : {A : Type 0} (bits : List Bool) (rows : List (List A)) → length bits ≡ length rows → length (filled bits rows) ≡ length rows
length-filled [] [] same = refl
length-filled [] (row ∷ rows) same = absurd (omega (arith, same))
length-filled (b ∷ bits) [] same = absurd (omega (arith, same))
length-filled (b ∷ bits) (row ∷ rows) same = ap suc (length-filled bits rows (omega (arith, same)))
