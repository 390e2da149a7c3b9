-- Lengths of the lists that kernels give, and how those of a list that is cut in two join.
use Rattle.std.proofs.Common.{◌≡◌, suc, ◌-◌, ◌≤◌, ℤ, pos, negsuc, Bool, true, false, List, [], ◌∷◌, ◌++◌, length, take, drop, replicate, sum_by, refl, ap, sym, ◌∙◌, arith, append_assoc, length-append, length-take, length-drop}
use Rattle.std.proofs.lemmas.List.{map-append, length-map, length-replicate}
use Rattle.std.proofs.lemmas.List.Sums.{sum_by-cons}
use Rattle.std.specs.Prelude.{cond, count_by, unsigned_abs}
use Rattle.arrow_types.specs.ArrowType.{ArrowType}
use Rattle.arrow_types.specs.Rows.{select, gather, gathered, joined, shifted, choice, chosen}
use Rattle.arrow_types.specs.Slot.{Slot, null_slot}

-- as many rows as the mask has bits set
pub length-select : (mask : List Bool) (xs : List Slot) → length mask ≡ length xs → length (select mask xs) ≡ count_by (λ b. b) mask
length-select [] xs h = refl
length-select (b ∷ mask) [] h = absurd (omega (arith, h))
length-select (true ∷ mask) (x ∷ xs) h = omega (arith, length-select mask xs (omega (arith, h)), sum_by-cons (λ b. cond b 1 0) true mask)
length-select (false ∷ mask) (x ∷ xs) h = omega (arith, length-select mask xs (omega (arith, h)), sum_by-cons (λ b. cond b 1 0) false mask)

pub select-append : (mask : List Bool) (xs : List Slot) (more : List Bool) (ys : List Slot) → length mask ≡ length xs → select (mask ++ more) (xs ++ ys) ≡ select mask xs ++ select more ys
select-append [] [] more ys h = refl
select-append [] (x ∷ xs) more ys h = absurd (omega (arith, h))
select-append (b ∷ mask) [] more ys h = absurd (omega (arith, h))
select-append (true ∷ mask) (x ∷ xs) more ys h = ap (λ zs. x ∷ zs) (select-append mask xs more ys (omega (arith, h)))
select-append (false ∷ mask) (x ∷ xs) more ys h = select-append mask xs more ys (omega (arith, h))

pub length-gather : (xs indices : List Slot) (t : ArrowType) → length (gather xs indices t) ≡ length indices
length-gather xs indices t = length-map indices (gathered xs t)

pub gather-append : (xs indices more : List Slot) (t : ArrowType) → gather xs (indices ++ more) t ≡ gather xs indices t ++ gather xs more t
gather-append xs indices more t = map-append (gathered xs t) indices more

pub length-joined : (xss : List (List Slot)) → length (joined xss) ≡ sum_by (λ ys. length ys) xss
length-joined [] = refl
length-joined (xs ∷ xss) = omega (arith, length-append xs (joined xss), length-joined xss, sum_by-cons (λ (ys : List Slot). length ys) xs xss)

pub joined-append : (xss yss : List (List Slot)) → joined (xss ++ yss) ≡ joined xss ++ joined yss
joined-append [] yss = refl
joined-append (xs ∷ xss) yss = ap (λ zs. xs ++ zs) (joined-append xss yss) ∙ sym (append_assoc xs (joined xss) (joined yss))

-- as many rows as before
pub length-shifted : (xs : List Slot) (k : ℤ) (t : ArrowType) → unsigned_abs k ≤ length xs → length (shifted xs k t) ≡ length xs
length-shifted xs (pos k) t h =
    omega (arith, h, length-append (replicate k (null_slot t)) (take (length xs - k) xs), length-replicate k (null_slot t), length-take (length xs - k) xs)
length-shifted xs (negsuc k) t h =
    omega (arith, h, length-append (drop (suc k) xs) (replicate (suc k) (null_slot t)), length-replicate (suc k) (null_slot t), length-drop (suc k) xs)

pub length-chosen : (ps ls rs : List Slot) (t : ArrowType) → length ps ≡ length ls → length ps ≡ length rs → length (chosen ps ls rs t) ≡ length ps
length-chosen [] ls rs t left right = refl
length-chosen (p ∷ ps) [] rs t left right = absurd (omega (arith, left))
length-chosen (p ∷ ps) (l ∷ ls) [] t left right = absurd (omega (arith, right))
length-chosen (p ∷ ps) (l ∷ ls) (r ∷ rs) t left right = ap suc (length-chosen ps ls rs t (omega (arith, left)) (omega (arith, right)))

pub chosen-append : (ps ls rs qs ms ss : List Slot) (t : ArrowType) → length ps ≡ length ls → length ps ≡ length rs → chosen (ps ++ qs) (ls ++ ms) (rs ++ ss) t ≡ chosen ps ls rs t ++ chosen qs ms ss t
chosen-append [] [] [] qs ms ss t left right = refl
chosen-append (p ∷ ps) (l ∷ ls) (r ∷ rs) qs ms ss t left right =
    ap (λ zs. choice t p l r ∷ zs) (chosen-append ps ls rs qs ms ss t (omega (arith, left)) (omega (arith, right)))
chosen-append ps ls rs qs ms ss t left right = absurd (omega (arith, right, left))
