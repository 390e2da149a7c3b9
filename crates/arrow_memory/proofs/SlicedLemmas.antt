-- A slice of a slice.
use Rattle.arrow_memory.proofs.Common.{◌≡◌, ℕ, ◌+◌, ◌-◌, ◌≤◌, min, List, ◌++◌, length, take, drop, ap, sym, ◌∙◌, arith, take-add, drop-take, take-take, drop-drop, length-take, length-drop, take_min, drop_min, sliced}

pub sliced-sliced : {A : Type 0} (xs : List A) (a m o n : ℕ) → o + n ≤ m → sliced (sliced xs a m) o n ≡ sliced xs (a + o) n
sliced-sliced xs a m o n h =
    let split : m ≡ o + (m - o) = omega arith in
    let fits : n ≤ m - o = omega arith in
    rw (split, drop-take, drop-drop) (take-take n (m - o) (drop (a + o) xs) fits)

pub length-sliced : {A : Type 0} (xs : List A) (o n : ℕ) → o + n ≤ length xs → length (sliced xs o n) ≡ n
length-sliced xs o n h = omega (arith, length-take n (drop o xs), length-drop o xs)

-- a slice that is cut where the list ends
pub sliced-clamped : {A : Type 0} (xs : List A) (place n : ℕ) → sliced xs (min place (length xs)) (min n (length xs - min place (length xs))) ≡ sliced xs place n
sliced-clamped xs place n =
    let start = min place (length xs) in
    ap (λ m. take (min n m) (drop start xs)) (sym (length-drop start xs)) ∙ (take_min n (drop start xs) ∙ ap (take n) (drop_min place xs))

-- ---- parts of two lists

-- a slice that is cut in two
pub sliced-cut : {A : Type 0} (xs : List A) (a m n : ℕ) → sliced xs a (m + n) ≡ sliced xs a m ++ sliced xs (a + m) n
sliced-cut xs a m n = take-add m n (drop a xs) ∙ ap (λ ys. take m (drop a xs) ++ take n ys) (drop-drop m a xs)

-- parts are the same where those that they are cut in are
pub same_joined : {A : Type 0} (xs ys : List A) (a b m n : ℕ) → sliced xs a m ≡ sliced ys b m → sliced xs (a + m) n ≡ sliced ys (b + m) n → sliced xs a (m + n) ≡ sliced ys b (m + n)
same_joined xs ys a b m n first second =
    sliced-cut xs a m n ∙ ((λ i. first i ++ second i) ∙ sym (sliced-cut ys b m n))

-- and a part of parts that are the same is the same
pub same_within : {A : Type 0} (xs ys : List A) (a b m o n : ℕ) → o + n ≤ m → sliced xs a m ≡ sliced ys b m → sliced xs (a + o) n ≡ sliced ys (b + o) n
same_within xs ys a b m o n within same =
    sym (sliced-sliced xs a m o n within) ∙ (ap (λ zs. sliced zs o n) same ∙ sliced-sliced ys b m o n within)
