-- What is given of batches of rows that are joined.
use Rattle.arrow_logic.proofs.Common.{arith, ◌≡◌, ◌∙◌, List, [], ◌∷◌, ◌++◌, length, map, ap, refl, map-append, joined, Slot, AreAlikeLong, row_by_row, GiveByBatch, GiveEachByBatch}

row_by_row-append : {A B C : Type 0} (give : A → B → C) (xs zs : List A) (ys ws : List B) → length xs ≡ length ys → row_by_row give (xs ++ zs) (ys ++ ws) ≡ row_by_row give xs ys ++ row_by_row give zs ws
row_by_row-append give [] zs [] ws same = refl
row_by_row-append give (x ∷ xs) zs (y ∷ ys) ws same = ap (λ more. give x y ∷ more) (row_by_row-append give xs zs ys ws (omega (arith, same)))
row_by_row-append give xs zs ys ws same = absurd (omega (arith, same))

pub pairs_by_batch : (lefts rights : List (List Slot)) → AreAlikeLong lefts rights → GiveByBatch lefts rights
pairs_by_batch [] [] same give = refl
pairs_by_batch (xs ∷ lefts) (ys ∷ rights) same give =
    let first : length xs ≡ length ys = cc in
    let rest : AreAlikeLong lefts rights = cc in
    row_by_row-append give xs (joined lefts) ys (joined rights) first ∙ ap (λ more. row_by_row give xs ys ++ more) (pairs_by_batch lefts rights rest give)
pairs_by_batch lefts rights same give = cc

pub each_by_batch : (batches : List (List Slot)) → GiveEachByBatch batches
each_by_batch [] give = refl
each_by_batch (xs ∷ batches) give = map-append give xs (joined batches) ∙ ap (λ more. map give xs ++ more) (each_by_batch batches give)
