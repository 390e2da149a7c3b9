-- Rows of bytes by themselves, whose offsets are a part of others.
use Rattle.arrow_flat_growable.proofs.Common.{arith, ◌≡◌, ◌+◌, ◌≤◌, ◌∙◌, ℕ, Bool, List, length, ap, sym, All, take_all, sliced, length-sliced, pieces, pieces-sliced, filled}
use Rattle.std.proofs.lemmas.Grind.{pieces as parts_of_lists}

pub part_rows : (os bytes part : List ℕ) (start len : ℕ) → part ≡ sliced os start (len + 1) → pieces part bytes ≡ sliced (pieces os bytes) start len
part_rows os bytes part start len is = ap (λ p. pieces p bytes) is ∙ pieces-sliced os bytes start len

pub all_of_part : {A : Type 0} (P : A → Type 0) (xs : List A) (start len : ℕ) → All P xs → All P (sliced xs start len)
all_of_part P xs start len all = search parts_of_lists

pub part_filled : (bits : List Bool) (os bytes part : List ℕ) (rows : List (List ℕ)) (start n : ℕ) → n ≡ length bits → part ≡ sliced os start (n + 1) → rows ≡ pieces os bytes → start + length bits ≤ length rows → filled (sliced bits 0 n) (sliced (pieces part bytes) 0 n) ≡ filled bits (sliced rows start (length bits))
part_filled bits os bytes part rows start n count is same within =
    let own : pieces part bytes ≡ sliced rows start n = part_rows os bytes part start n is ∙ ap (λ xs. sliced xs start n) (sym same) in
    let long = length-sliced rows start n (omega (arith, within, count)) in
    (λ i. filled (take_all n bits (omega (arith, count)) i) (take_all n (pieces part bytes) (omega (arith, ap length own, long)) i)) ∙ (λ i. filled bits (own i)) ∙ ap (λ k. filled bits (sliced rows start k)) count
