use Rattle.arrow_growable.proofs.Common.{◌≡◌, ◌<◌, ℕ, All, map, range_with_len, layout_of, child_at, type_of_layout, union_layout, first_type, variant_type}
use Rattle.arrow_growable.proofs.growable.union.all_columns.Given as goal

-- the children of the fields so far, which have their types
abbrev pub invariant-loop-f : goal.invariant-loop-f
invariant-loop-f l =
    let layouts = map (λ r. union_layout r.now) l.arrays in
    (map (λ column. map (λ a. layout_of a.now) column.items) l.columns.items ≡ map (λ f. map (child_at f) layouts) (range_with_len 0 l.f)) × ((f : ℕ) → f < l.f → All (λ l. type_of_layout l ≡ variant_type (first_type layouts) f) (map (child_at f) layouts))
