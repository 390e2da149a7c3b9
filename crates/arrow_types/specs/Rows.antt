-- Lists of rows: what a validity bitmap makes of them, and what the kernels give of them.
use Rattle.std.specs.Prelude.{ℕ, suc, ◌-◌, ℤ, pos, negsuc, Bool, true, false, Option, Some, None, List, [], ◌∷◌, ◌++◌, map, take, drop, length, replicate, slice_get, slice_index_or, unwrap_or, if◌then◌else◌}
use Rattle.arrow_types.specs.ArrowType.{ArrowType}
use Rattle.arrow_types.specs.Slot.{Slot, Null, Boolean, Number, null_slot}

-- each row where its bit is set, and Null where it is not ("Validity bitmaps")
abbrev pub mask : List Bool → List Slot → List Slot
mask (valid ∷ validity) (x ∷ xs) = (if valid then x else Null) ∷ mask validity xs
mask _ _ = []

-- the same where the bitmap may be absent: then no row is null
abbrev pub masked : Option (List Bool) → List Slot → List Slot
masked None xs = xs
masked (Some validity) xs = mask validity xs

-- whether a row of a predicate selects: true does, and neither false nor Null
abbrev pub selects : Slot → Bool
selects (Boolean b) = b
selects _ = false

-- the mask that a predicate stands for: a bit a row
abbrev pub mask_of : List Slot → List Bool
mask_of = map selects

-- the rows of xs at which a mask is true, in order
abbrev pub select : List Bool → List Slot → List Slot
select (chosen ∷ mask) (x ∷ xs) = if chosen then x ∷ select mask xs else select mask xs
select _ _ = []

-- one list after the other
abbrev pub joined : List (List Slot) → List Slot
joined [] = []
joined (xs ∷ xss) = xs ++ joined xss

-- whether row i is valid; without a bitmap every row is
abbrev pub valid_at : Option (List Bool) → ℕ → Bool
valid_at None i = true
valid_at (Some validity) i = slice_index_or validity i true

-- the row of xs that an index names, and the null slot of the type where the index is null
abbrev pub gathered : List Slot → ArrowType → Slot → Slot
gathered xs t (Number (pos n)) = unwrap_or (slice_get xs n) (null_slot t)
gathered xs t _ = null_slot t

-- the rows that a list of indices names, in the order of the indices
abbrev pub gather : List Slot → List Slot → ArrowType → List Slot
gather xs indices t = map (gathered xs t) indices

-- for k > 0, k null slots and then all rows but the last k; else all rows but the first |k|, and then |k| null slots
abbrev pub shifted : List Slot → ℤ → ArrowType → List Slot
shifted xs (pos k) t = replicate k (null_slot t) ++ take (length xs - k) xs
shifted xs (negsuc k) t = drop (suc k) xs ++ replicate (suc k) (null_slot t)

-- the left slot where the predicate is true, the right one where it is false, and the null slot of the type where it is null
abbrev pub choice : ArrowType → Slot → Slot → Slot → Slot
choice t (Boolean true) l r = l
choice t (Boolean false) l r = r
choice t _ l r = null_slot t

-- the rows of the left or the right list, as each row of a predicate chooses
abbrev pub chosen : List Slot → List Slot → List Slot → ArrowType → List Slot
chosen (p ∷ ps) (l ∷ ls) (r ∷ rs) t = choice t p l r ∷ chosen ps ls rs t
chosen _ _ _ t = []
