-- The laws of rows that are selected, taken and joined.
use Rattle.arrow_select.proofs.Common.{arith, ◌≡◌, ◌-◌, ℕ, ◌≤◌, pos, Bool, Some, List, [], ◌∷◌, ◌++◌, length, map, take, drop, ap, sym, subst, ◌∙◌, append_assoc, option_map, slice_get, unwrap_or, append-nil, length-drop, take-append-drop, take_all, slice_get-get_or, slice_get-map, map-map, ArrowType, gather, gathered, joined, mask_of, select, Slot, Null, Number, null_slot, sliced, AreKeys, IsKey, Layout, rows, RowsFit, kept_columns, places_from, true_places, each_key, map-agree, ◌<◌}
use Rattle.arrow_select.proofs.FilterLemmas.{select_is}
use Rattle.arrow_select.proofs.SetBytes.{set_by_place}

pub selected_is_gathered : (xs : List Slot) (mask : List Bool) (t : ArrowType) → length mask ≡ length xs → select mask xs ≡ gather xs (true_places mask) t
selected_is_gathered xs mask t same =
    let reads : (n : ℕ) → n < length xs → slice_get xs n ≡ Some (gathered xs t (Number (pos n))) = λ n within. slice_get-get_or xs n Null within ∙ ap Some (sym (ap (λ o. unwrap_or o (null_slot t)) (slice_get-get_or xs n Null within))) in
    select_is mask xs ∙ (set_by_place (λ n. gathered xs t (Number (pos n))) xs mask 0 reads (omega (arith, same)) ∙ sym (map-map (gathered xs t) (λ n. Number (pos n)) (places_from 0 mask)))

-- rows by index of rows by index
pub gather-gather : (xs is js : List Slot) (t u : ArrowType) → null_slot u ≡ Null → AreKeys (length is) js → gather (gather xs is t) js t ≡ gather xs (gather is js u) t
gather-gather xs is js t u none keys =
    map-agree (IsKey (length is)) (gathered (gather xs is t) t) (λ s. gathered xs t (gathered is u s)) (each_key (length is) (λ s. gathered (gather xs is t) t s ≡ gathered xs t (gathered is u s)) (sym (ap (gathered xs t) none)) (λ n within. ap (λ o. unwrap_or o (null_slot t)) (slice_get-map (gathered xs t) is n ∙ ap (option_map (gathered xs t)) (slice_get-get_or is n Null within)) ∙ sym (ap (λ o. gathered xs t (unwrap_or o (null_slot u))) (slice_get-get_or is n Null within)))) js keys ∙ sym (map-map (gathered xs t) (gathered is u) js)

pub joined-associative : (l m r : List Slot) → joined (joined (l ∷ m ∷ []) ∷ r ∷ []) ≡ joined (l ∷ joined (m ∷ r ∷ []) ∷ [])
joined-associative l m r =
    let right = ap (λ ys. l ++ ys) (append-nil (m ++ (r ++ [])) ∙ ap (λ ys. m ++ ys) (append-nil r)) in
    (λ i. (l ++ append-nil m i) ++ append-nil r i) ∙ (append_assoc l m r ∙ sym right)

pub joined-cut : (xs : List Slot) (at : ℕ) → at ≤ length xs → joined (sliced xs 0 at ∷ sliced xs at (length xs - at) ∷ []) ≡ xs
joined-cut xs at within =
    let rest = append-nil (sliced xs at (length xs - at)) ∙ take_all (length xs - at) (drop at xs) (omega (arith, length-drop at xs)) in
    ap (λ ys. take at xs ++ ys) rest ∙ take-append-drop at xs

-- a kernel whose answer is what is made of type and rows of its inputs, of equal ones
pub equal_inputs : {A B : Type 0} (kernel : A → B) (inputs others : A) (result other : B) → others ≡ inputs → result ≡ kernel inputs → other ≡ kernel others → other ≡ result
equal_inputs kernel inputs others result other same is other_is =
    other_is ∙ (ap kernel same ∙ sym is)

-- and rows that it may answer of the one where those of the other fit
pub fits_alike : {A : Type 0} (kernel : A → ArrowType × List Slot) (inputs others : A) (result : ArrowType × List Slot) → others ≡ inputs → result ≡ kernel inputs → RowsFit result → RowsFit (kernel others)
fits_alike kernel inputs others result same is fits =
    subst RowsFit (is ∙ ap kernel (sym same)) fits

-- rows that are kept of columns of the same rows
pub columns_alike : (ps qs : List Slot) (columns others : List Layout) → qs ≡ ps → map rows others ≡ map rows columns → kept_columns qs others ≡ kept_columns ps columns
columns_alike ps qs columns others same same_rows =
    let of = λ (ps : List Slot) (columns : List Layout). map-map (select (mask_of ps)) rows columns in
    sym (of qs others) ∙ ((λ i. map (select (mask_of (same i))) (same_rows i)) ∙ of ps columns)

-- those that are laws of their own
pub ruleset laws = (joined-associative, joined-cut)
