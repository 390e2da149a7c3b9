-- What the kernels that select rows make of batches of rows that are joined.
use Rattle.arrow_select.proofs.Common.{arith, ◌≡◌, ◌∙◌, ℕ, zero, suc, ◌+◌, ◌-◌, ◌<◌, ◌≤◌, ℤ, pos, negsuc, List, [], ◌∷◌, ◌++◌, drop, length, map, replicate, take, refl, ap, sym, append_assoc, slice_get, unwrap_or, drop-append-le, length-append, length-map, map-append, take-append-drop, map-map, ArrowType, chosen, gather, gathered, joined, mask_of, select, selects, shifted, Slot, null_slot, chosen-append, gather-append, select-append, AreAlikeLong, IsKey, AreIndicesByBatch, chosen_by_batch, kept_by_batch, moved_by_batch, moved_index, shifted_by_edge, taken_by_batch, AreIndices, each_key, map-agree, unsigned_abs, take-append-add}

-- filter: each batch by its predicate
pub kept_joined : (filters batches : List (List Slot)) → AreAlikeLong filters batches → select (mask_of (joined filters)) (joined batches) ≡ joined (kept_by_batch filters batches)
kept_joined [] [] same = refl
kept_joined (ps ∷ filters) (xs ∷ batches) same =
    let first : length ps ≡ length xs = cc in
    let rest : AreAlikeLong filters batches = cc in
    ap (λ bits. select bits (xs ++ joined batches)) (map-append selects ps (joined filters)) ∙ (select-append (mask_of ps) xs (mask_of (joined filters)) (joined batches) (length-map ps selects ∙ first) ∙ ap (λ more. select (mask_of ps) xs ++ more) (kept_joined filters batches rest))
kept_joined filters batches same = cc

-- choice: both batches by their predicate
pub chosen_joined : (filters lefts rights : List (List Slot)) (t : ArrowType) → AreAlikeLong filters lefts → AreAlikeLong filters rights → chosen (joined filters) (joined lefts) (joined rights) t ≡ joined (chosen_by_batch filters lefts rights t)
chosen_joined [] [] [] t left right = refl
chosen_joined (ps ∷ filters) (ls ∷ lefts) (rs ∷ rights) t left right =
    let first : length ps ≡ length ls = cc in
    let second : length ps ≡ length rs = cc in
    let lefts_rest : AreAlikeLong filters lefts = cc in
    let rights_rest : AreAlikeLong filters rights = cc in
    chosen-append ps ls rs (joined filters) (joined lefts) (joined rights) t first second ∙ ap (λ more. chosen ps ls rs t ++ more) (chosen_joined filters lefts rights t lefts_rest rights_rest)
chosen_joined filters lefts rights t left right = cc

-- take: batches of indices over one table
pub gather_joined : (xs : List Slot) (indices : List (List Slot)) (t : ArrowType) → gather xs (joined indices) t ≡ joined (map (λ is. gather xs is t) indices)
gather_joined xs [] t = refl
gather_joined xs (is ∷ indices) t =
    gather-append xs is (joined indices) t ∙ ap (λ more. gather xs is t ++ more) (gather_joined xs indices t)

-- and each batch by indices of its own, which are moved by the rows before it
get_before : (xs ys : List Slot) (n : ℕ) → n < length xs → slice_get (xs ++ ys) n ≡ slice_get xs n
get_before [] ys n within = absurd (omega (arith, within))
get_before (x ∷ xs) ys zero within = refl
get_before (x ∷ xs) ys (suc n) within = get_before xs ys n (omega (arith, within))

get_behind : (xs ys : List Slot) (n : ℕ) → slice_get (xs ++ ys) (length xs + n) ≡ slice_get ys n
get_behind [] ys n =
    let none : 0 + n ≡ n = omega arith in
    ap (slice_get ys) none
get_behind (x ∷ xs) ys n =
    let at : suc (length xs) + n ≡ suc (length xs + n) = omega arith in
    ap (slice_get (x ∷ (xs ++ ys))) at ∙ get_behind xs ys n

part_row : (before xs after : List Slot) (t : ArrowType) (i : Slot) → IsKey (length xs) i → gathered (before ++ (xs ++ after)) t (moved_index (length before) i) ≡ gathered xs t i
part_row before xs after t =
    each_key (length xs) (λ i. gathered (before ++ (xs ++ after)) t (moved_index (length before) i) ≡ gathered xs t i) refl (λ n within. ap (λ o. unwrap_or o (null_slot t)) (get_behind before (xs ++ after) n ∙ get_before xs after n within))

gather_part : (before xs after is : List Slot) (t : ArrowType) → AreIndices (length xs) is → gather (before ++ (xs ++ after)) (map (moved_index (length before)) is) t ≡ gather xs is t
gather_part before xs after is t inside =
    map-map (gathered (before ++ (xs ++ after)) t) (moved_index (length before)) is ∙ map-agree (IsKey (length xs)) (λ i. gathered (before ++ (xs ++ after)) t (moved_index (length before) i)) (gathered xs t) (part_row before xs after t) is inside

taken_behind : (before : List Slot) (batches indices : List (List Slot)) (t : ArrowType) → AreIndicesByBatch batches indices → gather (before ++ joined batches) (joined (moved_by_batch (length before) batches indices)) t ≡ joined (taken_by_batch batches indices t)
taken_behind before [] [] t inside = refl
taken_behind before (xs ∷ batches) (is ∷ indices) t inside =
    let all = before ++ (xs ++ joined batches) in
    let moved = map (moved_index (length before)) is in
    let rest = joined (moved_by_batch (length before + length xs) batches indices) in
    let here = gather_part before xs (joined batches) is t inside.0 in
    let whole = sym (append_assoc before xs (joined batches)) in
    let count = sym (length-append before xs) in
    let there : gather all rest t ≡ joined (taken_by_batch batches indices t) = (λ k. gather (whole k) (joined (moved_by_batch (count k) batches indices)) t) ∙ taken_behind (before ++ xs) batches indices t inside.1 in
    gather-append all moved rest t ∙ (λ k. here k ++ there k)
taken_behind before batches indices t inside = absurd inside

pub taken_joined : (batches indices : List (List Slot)) (t : ArrowType) → AreIndicesByBatch batches indices → gather (joined batches) (joined (moved_by_batch 0 batches indices)) t ≡ joined (taken_by_batch batches indices t)
taken_joined batches indices t inside = taken_behind [] batches indices t inside

-- shift: the rows at the edge go over to the other batch
pub shifted_at_edge : (xs ys : List Slot) (k : ℤ) (t : ArrowType) → unsigned_abs k ≤ length xs → unsigned_abs k ≤ length ys → shifted (xs ++ ys) k t ≡ shifted_by_edge xs ys k t
shifted_at_edge xs ys (pos k) t left right =
    let nulls = replicate k (null_slot t) in
    let head = take (length xs - k) xs in
    let tail = drop (length xs - k) xs in
    let more = take (length ys - k) ys in
    let count : length (xs ++ ys) - k ≡ length xs + (length ys - k) = omega (arith, length-append xs ys, right) in
    let cut : xs ≡ head ++ tail = sym (take-append-drop (length xs - k) xs) in
    let kept : take (length (xs ++ ys) - k) (xs ++ ys) ≡ head ++ (tail ++ more) = ap (λ n. take n (xs ++ ys)) count ∙ (take-append-add xs ys (length ys - k) ∙ (ap (λ zs. zs ++ more) cut ∙ append_assoc head tail more)) in
    ap (λ zs. nulls ++ zs) kept ∙ sym (append_assoc nulls head (tail ++ more))
shifted_at_edge xs ys (negsuc k) t left right =
    let nulls = replicate (suc k) (null_slot t) in
    let head = take (suc k) ys in
    let tail = drop (suc k) ys in
    let past : drop (suc k) (xs ++ ys) ≡ (drop (suc k) xs ++ head) ++ tail = drop-append-le (suc k) xs ys left ∙ (ap (λ zs. drop (suc k) xs ++ zs) (sym (take-append-drop (suc k) ys)) ∙ sym (append_assoc (drop (suc k) xs) head tail)) in
    ap (λ zs. zs ++ nulls) past ∙ append_assoc (drop (suc k) xs ++ head) tail nulls

-- those that are laws of their own
pub ruleset laws = (kept_joined, chosen_joined, gather_joined, taken_joined, shifted_at_edge)
