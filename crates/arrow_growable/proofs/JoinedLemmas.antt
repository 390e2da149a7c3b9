-- All rows of several arrays, one array behind the other.
use Rattle.arrow_growable.proofs.Common.{◌≡◌, ℕ, ◌+◌, ◌<◌, List, [], ◌∷◌, ◌++◌, Some, length, get_or, map, take, drop, refl, ap, sym, ◌∙◌, append_assoc, slice_get, option_map, append-nil, take-append-drop, slice_get_read, slice_get-map, joined, Slot, drop_at_read, take_at_read, joined-append, Layout, rows, source_at, get_or_default, no_child}

pub slice_get-map_read : {A B : Type 0} (f : A → B) (xs : List A) (i : ℕ) (x : A) → i < length xs → x ≡ get_or xs i x → slice_get (map f xs) i ≡ Some (f x)
slice_get-map_read f xs i x within read =
    slice_get-map f xs i ∙ ap (option_map f) (slice_get_read xs (length xs) i x refl within read)

-- the rows of one of them
pub rows_read : (layouts : List Layout) (i : ℕ) → i < length layouts → slice_get (map rows layouts) i ≡ Some (rows (source_at layouts i))
rows_read layouts i within =
    slice_get-map_read rows layouts i (source_at layouts i) within (get_or_default layouts i no_child (source_at layouts i) within)

-- the rows of one more list
pub joined_next : (xss : List (List Slot)) (i : ℕ) (xs : List Slot) → slice_get xss i ≡ Some xs → joined (take (i + 1) xss) ≡ joined (take i xss) ++ xs
joined_next xss i xs read =
    ap joined (take_at_read xss i xs read) ∙ (joined-append (take i xss) (xs ∷ []) ∙ ap (λ ys. joined (take i xss) ++ ys) (append-nil xs))

-- all rows, by a list of them
pub joined_around : (xss : List (List Slot)) (i : ℕ) (xs : List Slot) → slice_get xss i ≡ Some xs → joined xss ≡ (joined (take i xss) ++ xs) ++ joined (drop (i + 1) xss)
joined_around xss i xs read =
    ap joined (sym (take-append-drop i xss)) ∙ (joined-append (take i xss) (drop i xss) ∙ (ap (λ yss. joined (take i xss) ++ joined yss) (drop_at_read xss i xs read) ∙ sym (append_assoc (joined (take i xss)) xs (joined (drop (i + 1) xss)))))
