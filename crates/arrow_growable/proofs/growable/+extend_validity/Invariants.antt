use Rattle.arrow_growable.proofs.Common.{◌+◌, ◌*◌, ◌<◌, map, get_or, deepest, type_depth, ChangedUpTo, FitsItself, grown_of, grown_by_nulls}
use Rattle.arrow_growable.proofs.growable.+extend_validity.Given as goal

-- each call goes to a less deep growable, or comes nearer to one

abbrev pub decreases-children::extend_all_nulls : goal.decreases-children::extend_all_nulls
decreases-children::extend_all_nulls l = 6 * deepest (map (λ g. g.arrow_type) (map grown_of l.children.now))

abbrev pub decreases-children::extend_nulls : goal.decreases-children::extend_nulls
decreases-children::extend_nulls l = 6 * type_depth ((grown_of l.child.now).arrow_type) + 5

abbrev pub decreases-any::AnyGrowableGrowable::extend_validity : goal.decreases-any::AnyGrowableGrowable::extend_validity
decreases-any::AnyGrowableGrowable::extend_validity l = 6 * type_depth ((grown_of l.self.now).arrow_type) + 4

abbrev pub decreases-nested::GrowableNestedGrowable::extend_validity : goal.decreases-nested::GrowableNestedGrowable::extend_validity
decreases-nested::GrowableNestedGrowable::extend_validity l = 6 * type_depth l.self.now.arrow_type + 1

-- and those of a union

abbrev pub decreases-union::GrowableUnionGrowable::extend_validity : goal.decreases-union::GrowableUnionGrowable::extend_validity
decreases-union::GrowableUnionGrowable::extend_validity l = 6 * type_depth l.self.now.arrow_type + 3

abbrev pub decreases-variants::extend_null_variants : goal.decreases-variants::extend_null_variants
decreases-variants::extend_null_variants l = 6 * deepest (map (λ g. g.arrow_type) (map grown_of l.children.now)) + 2

abbrev pub decreases-variants::extend_null_variant : goal.decreases-variants::extend_null_variant
decreases-variants::extend_null_variant l = 6 * deepest (map (λ g. g.arrow_type) (map grown_of l.children.now)) + 1

abbrev pub decreases-variants::extend_first_nulls : goal.decreases-variants::extend_first_nulls
decreases-variants::extend_first_nulls l = 6 * deepest (map (λ g. g.arrow_type) (map grown_of l.children.now))

-- the children so far have grown, and fit; the others are as they were
abbrev pub invariant-children::extend_all_nulls-loop-child : goal.invariant-children::extend_all_nulls-loop-child
invariant-children::extend_all_nulls-loop-child l =
    goal.unvisited-children::extend_all_nulls-loop-child l × ChangedUpTo grown_of (grown_by_nulls l.count) l.child-items l.initial.child-items l.child-index × ((k : _) (d : _) → k < l.child-index → FitsItself (grown_of (get_or l.child-items k d)))
