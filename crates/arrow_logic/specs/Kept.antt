-- What a kernel stores of each row: something of each valid one, and one value beneath nulls ("Validity bitmaps").
use Rattle.std.specs.Prelude.{Bool, Option, None, Some, List, [], ◌∷◌, map, if◌then◌else◌}

-- what f makes of each member whose bit is set, and a spare value where it is not
abbrev pub kept_by : {A B : Type 0} → B → (A → B) → List Bool → List A → List B
kept_by spare f (valid ∷ bits) (x ∷ xs) = (if valid then f x else spare) ∷ kept_by spare f bits xs
kept_by spare f _ _ = []

-- the same where the bitmap may be absent: then every row is valid
abbrev pub kept : {A B : Type 0} → B → (A → B) → Option (List Bool) → List A → List B
kept spare f None xs = map f xs
kept spare f (Some bits) xs = kept_by spare f bits xs
