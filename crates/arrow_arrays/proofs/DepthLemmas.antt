-- Each child is no deeper than the deepest.
use Rattle.std.proofs.Common.{ℕ, zero, suc, ◌<◌, ◌≤◌, List, [], ◌∷◌, length, map, get_or, arith}
use Rattle.arrow_arrays.specs.Layout.{Layout, depth, depth_of_all, to_layouts}

pub depth_at : {A : Type 0} (layout_of : A → Layout) (xs : List A) (k : ℕ) (d : A) → k < length xs → depth (layout_of (get_or xs k d)) ≤ depth_of_all (to_layouts (map layout_of xs))
depth_at layout_of [] k d within = absurd (omega (arith, within))
depth_at layout_of (x ∷ xs) zero d within = omega arith
depth_at layout_of (x ∷ xs) (suc k) d within = omega (arith, depth_at layout_of xs k d (omega (arith, within)))
