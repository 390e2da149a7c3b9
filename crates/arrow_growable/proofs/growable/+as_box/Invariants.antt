use Rattle.arrow_growable.proofs.Common.{◌≡◌, ◌+◌, ◌*◌, ◌≤◌, ℕ, get_or, length, map, take, any_array_rows, any_array_type, deepest, type_depth, ChangedUpTo, grown_of, emptied_of}
use Rattle.arrow_growable.proofs.growable.+as_box.Given as goal

-- each call goes to a less deep growable, or comes nearer to one

abbrev pub decreases-children::box_children : goal.decreases-children::box_children
decreases-children::box_children l = 4 * deepest (map (λ g. g.arrow_type) (map grown_of l.children.now))

abbrev pub decreases-any::AnyGrowableGrowable::as_box : goal.decreases-any::AnyGrowableGrowable::as_box
decreases-any::AnyGrowableGrowable::as_box l = 4 * type_depth ((grown_of l.self.now).arrow_type) + 3

abbrev pub decreases-nested::GrowableNestedGrowable::as_box : goal.decreases-nested::GrowableNestedGrowable::as_box
decreases-nested::GrowableNestedGrowable::as_box l = 4 * type_depth l.self.now.arrow_type + 1

-- and those of a union

abbrev pub decreases-union::GrowableUnionGrowable::as_box : goal.decreases-union::GrowableUnionGrowable::as_box
decreases-union::GrowableUnionGrowable::as_box l = 4 * type_depth l.self.now.arrow_type + 2

abbrev pub decreases-union::GrowableUnion::take_array : goal.decreases-union::GrowableUnion::take_array
decreases-union::GrowableUnion::take_array l = 4 * type_depth l.self.now.arrow_type + 1

-- the arrays so far are those of the children, which are left without rows; the others are as they were
abbrev pub invariant-children::box_children-loop-child : goal.invariant-children::box_children-loop-child
invariant-children::box_children-loop-child l =
    let done = take l.child-index (map grown_of l.initial.child-items) in
    ((length l.child-items ≡ length l.initial.child-items) × ((k : ℕ) (d : _) → l.child-index ≤ k → get_or l.child-items k d ≡ get_or l.initial.child-items k d)) × ChangedUpTo grown_of emptied_of l.child-items l.initial.child-items l.child-index × (map any_array_type l.arrays.items ≡ map (λ g. g.arrow_type) done) × (map any_array_rows l.arrays.items ≡ map (λ g. g.rows) done)
