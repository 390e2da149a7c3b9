-- Columns of one length, each by the same mask.
use Rattle.arrow_select.proofs.Common.{arith, ◌≡◌, ◌+◌, ℕ, ◌<◌, Bool, List, [], ◌∷◌, ◌++◌, length, map, take, get_or, ap, sym, subst, ◌∙◌, count_by, get_or-map, length-map, map-append, All-map, get_or_from_slice_get, slice_get_within, Fits, take_at_read, length-select, any_array_rows, layout_of, Layout, rows, type_of_layout, AreColumns, HaveRows, AnyArray, slice_get-map_read, FirstDoesNotFit, selected_rows, All}

-- each has so many rows, where all do
pub column_long : (n : ℕ) (columns : List AnyArray) (i : ℕ) (item : AnyArray) → HaveRows n (map layout_of columns) → i < length columns → item ≡ get_or columns i item → n ≡ length (any_array_rows item)
column_long n columns i item long within is =
    let read = get_or-map layout_of columns i item (layout_of item) within in
    let here = long i (layout_of item) (omega (arith, within, length-map columns layout_of)) in
    sym (ap (λ a. length (any_array_rows a)) is ∙ (ap (λ l. length (rows l)) (sym read) ∙ here))

-- columns that are made one by one of others
pub column_next : {A : Type 0} (f h : Layout → A) (done whole : List AnyArray) (x item : AnyArray) (i : ℕ) → i < length whole → item ≡ get_or whole i item → f (layout_of x) ≡ h (layout_of item) → map f (map layout_of done) ≡ map h (take i (map layout_of whole)) → map f (map layout_of (done ++ x ∷ [])) ≡ map h (take (i + 1) (map layout_of whole))
column_next f h done whole x item i within is same so_far =
    let next = take_at_read (map layout_of whole) i (layout_of item) (slice_get-map_read layout_of whole i item within is) in
    let grown = ap (map f) (map-append layout_of done (x ∷ [])) ∙ map-append f (map layout_of done) (layout_of x ∷ []) in
    grown ∙ ((λ j. so_far j ++ same j ∷ []) ∙ (sym (map-append h (take i (map layout_of whole)) (layout_of item ∷ [])) ∙ ap (map h) (sym next)))

-- they are of one length where each has as many rows as there are
pub are_columns : (n : ℕ) (columns : List Layout) → HaveRows n columns → AreColumns columns
are_columns n [] each = λ k d within. absurd (omega (arith, within))
are_columns n (c ∷ columns) each = subst (λ m. HaveRows m (c ∷ columns)) (sym (each 0 c (omega arith))) each

-- the same of lists of rows
long_as : (n : ℕ) (columns : List Layout) → All (λ xs. length xs ≡ n) (map rows columns) → HaveRows n columns
long_as n columns each =
    λ k d within. ap length (sym (get_or-map rows columns k d (rows d) within)) ∙ each k (rows d) (omega (arith, within, length-map columns rows))

-- so where each is by one mask
pub selected_columns : (mask : List Bool) (columns kept : List Layout) → HaveRows (length mask) columns → map rows kept ≡ map (selected_rows mask) columns → AreColumns kept
selected_columns mask columns kept long same =
    let n = count_by (λ b. b) mask in
    let each = All-map (λ xs. length xs ≡ n) (selected_rows mask) columns (λ k d within. length-select mask (rows (get_or columns k d)) (sym (long k d within))) in
    are_columns n kept (long_as n kept (subst (All (λ xs. length xs ≡ n)) (sym same) each))

-- and what is kept of each column fits where what was made of it does
pub kept_fit : (mask : List Bool) (columns kept : List Layout) → All (λ l. Fits (type_of_layout l) (rows l)) kept → map type_of_layout kept ≡ map type_of_layout columns → map rows kept ≡ map (selected_rows mask) columns → All (λ l. Fits (type_of_layout l) (selected_rows mask l)) columns
kept_fit mask columns kept fits types same =
    λ k d within.
    let here : k < length kept = omega (arith, within, ap length types, length-map kept type_of_layout, length-map columns type_of_layout) in
    let type : type_of_layout (get_or kept k d) ≡ type_of_layout (get_or columns k d) = sym (get_or-map type_of_layout kept k d (type_of_layout d) here) ∙ (ap (λ ts. get_or ts k (type_of_layout d)) types ∙ get_or-map type_of_layout columns k d (type_of_layout d) within) in
    let row : rows (get_or kept k d) ≡ selected_rows mask (get_or columns k d) = sym (get_or-map rows kept k d (rows d) here) ∙ (ap (λ xs. get_or xs k (rows d)) same ∙ get_or-map (selected_rows mask) columns k d (rows d) within) in
    subst (λ t. Fits t (selected_rows mask (get_or columns k d))) type (subst (Fits (type_of_layout (get_or kept k d))) row (fits k d here))

-- then there is no first column of which they do not
pub none_passes : (mask : List Bool) (columns : List Layout) → All (λ l. Fits (type_of_layout l) (selected_rows mask l)) columns → FirstDoesNotFit mask columns → ⊥
none_passes mask columns fit first =
    let k = first.0 in
    let column = first.1 in
    let here = get_or_from_slice_get columns k column column first.2 in
    let fits = fit k column (slice_get_within columns k column first.2) in
    first.4 (subst (λ l. Fits (type_of_layout l) (selected_rows mask l)) here fits)
