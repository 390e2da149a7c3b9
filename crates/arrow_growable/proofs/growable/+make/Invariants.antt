use Rattle.arrow_growable.proofs.Common.{◌≡◌, ◌+◌, ◌*◌, map, take, range_with_len, layout_of, layouts_in, keyed_layout, deepest, type_depth, union_layout, bound_to, first_type, grown_of, bound_layouts, child_types, nth_child}
use Rattle.arrow_growable.proofs.growable.+make.Given as goal

-- each call goes to arrays of a less deep type, or comes nearer to their children

abbrev pub decreases-make::make_growable : goal.decreases-make::make_growable
decreases-make::make_growable l = 4 * type_depth (first_type (map (λ a. layout_of a.now) l.arrays.now)) + 2

abbrev pub decreases-nested::GrowableNested::new : goal.decreases-nested::GrowableNested::new
decreases-nested::GrowableNested::new l = 4 * type_depth (first_type (bound_layouts l.arrays)) + 1

abbrev pub decreases-nested::make_children : goal.decreases-nested::make_children
decreases-nested::make_children l = 4 * type_depth (first_type (bound_layouts l.arrays.now))

abbrev pub decreases-dictionary::GrowableDictionary::new : goal.decreases-dictionary::GrowableDictionary::new
decreases-dictionary::GrowableDictionary::new l =
    4 * type_depth (first_type (map (λ r. keyed_layout r.now) l.arrays.now)) + 1

abbrev pub decreases-dictionary::join_values : goal.decreases-dictionary::join_values
decreases-dictionary::join_values l = 4 * type_depth (first_type (map (λ r. keyed_layout r.now) l.arrays.now))

abbrev pub decreases-join::join_arrays : goal.decreases-join::join_arrays
decreases-join::join_arrays l = 4 * type_depth (first_type (layouts_in l.arrays.now)) + 3

-- and those of unions

abbrev pub decreases-union::GrowableUnion::new : goal.decreases-union::GrowableUnion::new
decreases-union::GrowableUnion::new l = 4 * type_depth (first_type (map (λ r. union_layout r.now) l.arrays.items)) + 1

abbrev pub decreases-make::make_each : goal.decreases-make::make_each
decreases-make::make_each l =
    4 * deepest (map first_type (map (λ column. map (λ a. layout_of a.now) column.items) l.columns.now))

-- the growables so far are bound to the columns
abbrev pub invariant-make::make_each-loop-column : goal.invariant-make::make_each-loop-column
invariant-make::make_each-loop-column l =
    map grown_of l.growables.items ≡ map bound_to (take l.column-index (map (λ column. map (λ a. layout_of a.now) column.items) l.columns))

-- the children so far are bound to those of the arrays, and have their types
abbrev pub invariant-nested::make_children-loop-f : goal.invariant-nested::make_children-loop-f
invariant-nested::make_children-loop-f l =
    (map grown_of l.children.items ≡ map (λ f. bound_to (map (nth_child f) (bound_layouts l.arrays))) (range_with_len 0 l.f)) × (map (λ g. g.arrow_type) (map grown_of l.children.items) ≡ take l.f (child_types (first_type (bound_layouts l.arrays))))
