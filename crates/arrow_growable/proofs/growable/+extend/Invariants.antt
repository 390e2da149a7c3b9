use Rattle.arrow_growable.proofs.Common.{◌≡◌, ◌+◌, ◌-◌, ◌*◌, ◌<◌, ◌≤◌, length, map, get_or, option_copied, sliced, bits_of_slice, rows, deepest, type_depth, union_layout, ChangedUpTo, FitsItself, source_at, grown_of, grown_by, GrowsVariants, IsBoundUnion, offsets_in, source_type, span_nulls, span_place}
use Rattle.arrow_growable.proofs.ChildLemmas.{GrowsTo}
use Rattle.arrow_growable.proofs.growable.+extend.Given as goal

-- each call goes to a less deep growable, or comes nearer to one: all children, one child, its runs, one run

abbrev pub decreases-children::extend_children : goal.decreases-children::extend_children
decreases-children::extend_children l = 10 * deepest (map (λ g. g.arrow_type) (map grown_of l.children.now))

abbrev pub decreases-children::extend_child : goal.decreases-children::extend_child
decreases-children::extend_child l = 10 * type_depth ((grown_of l.child.now).arrow_type) + 9

abbrev pub decreases-children::extend_nullable : goal.decreases-children::extend_nullable
decreases-children::extend_nullable l = 10 * type_depth ((grown_of l.child.now).arrow_type) + 8

abbrev pub decreases-children::extend_runs : goal.decreases-children::extend_runs
decreases-children::extend_runs l = 10 * type_depth ((grown_of l.child.now).arrow_type) + 7

abbrev pub decreases-children::extend_run : goal.decreases-children::extend_run
decreases-children::extend_run l = 10 * type_depth ((grown_of l.child.now).arrow_type) + 6

abbrev pub decreases-any::AnyGrowableGrowable::extend : goal.decreases-any::AnyGrowableGrowable::extend
decreases-any::AnyGrowableGrowable::extend l = 10 * type_depth ((grown_of l.self.now).arrow_type) + 5

abbrev pub decreases-nested::GrowableNestedGrowable::extend : goal.decreases-nested::GrowableNestedGrowable::extend
decreases-nested::GrowableNestedGrowable::extend l = 10 * type_depth l.self.now.arrow_type + 1

-- and those of a union: all runs, one run, in a sparse or a dense one, the child of its field

abbrev pub decreases-union::GrowableUnionGrowable::extend : goal.decreases-union::GrowableUnionGrowable::extend
decreases-union::GrowableUnionGrowable::extend l = 10 * type_depth l.self.now.arrow_type + 4

abbrev pub decreases-variants::extend_variants : goal.decreases-variants::extend_variants
decreases-variants::extend_variants l = 10 * deepest (map (λ g. g.arrow_type) (map grown_of l.children.now)) + 3

abbrev pub decreases-variants::extend_variant : goal.decreases-variants::extend_variant
decreases-variants::extend_variant l = 10 * deepest (map (λ g. g.arrow_type) (map grown_of l.children.now)) + 2

abbrev pub decreases-variants::extend_sparse : goal.decreases-variants::extend_sparse
decreases-variants::extend_sparse l = 10 * deepest (map (λ g. g.arrow_type) (map grown_of l.children.now)) + 1

abbrev pub decreases-variants::extend_dense : goal.decreases-variants::extend_dense
decreases-variants::extend_dense l = 10 * deepest (map (λ g. g.arrow_type) (map grown_of l.children.now)) + 1

abbrev pub decreases-variants::extend_chosen : goal.decreases-variants::extend_chosen
decreases-variants::extend_chosen l = 10 * deepest (map (λ g. g.arrow_type) (map grown_of l.children.now))

-- the children so far have grown, and fit; the others are as they were
abbrev pub invariant-children::extend_children-loop-child : goal.invariant-children::extend_children-loop-child
invariant-children::extend_children-loop-child l =
    goal.unvisited-children::extend_children-loop-child l × ChangedUpTo grown_of (grown_by (span_nulls l.rows) (bits_of_slice (option_copied l.validity) l.start l.len) (span_place l.rows) l.index l.start) l.child-items l.initial.child-items l.child-index × ((k : _) (d : _) → k < l.child-index → FitsItself (grown_of (get_or l.child-items k d)))

-- the rows so far are held, and what the runs that are left name comes behind them
abbrev pub invariant-children::extend_runs-loop-row : goal.invariant-children::extend_runs-loop-row
invariant-children::extend_runs-loop-row l =
    (l.row + length l.left ≡ l.end) × GrowsTo (grown_of l.initial.child) (grown_of l.child) l.index (span_nulls l.rows) (span_place l.rows) (sliced l.validity l.start l.len) l.left l.start l.row

abbrev pub decreases-children::extend_runs-loop-row : goal.decreases-children::extend_runs-loop-row
decreases-children::extend_runs-loop-row l = l.end - l.row

-- the rows up to this one are appended
abbrev pub invariant-variants::extend_variants-loop-row : goal.invariant-variants::extend_variants-loop-row
invariant-variants::extend_variants-loop-row l =
    let layouts = map (λ r. union_layout r.now) l.arrays in
    (l.start ≤ l.row) × (l.row ≤ l.end) × IsBoundUnion layouts (source_type layouts l.index) (offsets_in l.offsets) (map grown_of l.children) × GrowsVariants (source_type layouts l.index) l.initial.types.items (offsets_in l.initial.offsets) (map grown_of l.initial.children) l.types.items (offsets_in l.offsets) (map grown_of l.children) (sliced (rows (source_at layouts l.index)) l.start (l.row - l.start))

abbrev pub decreases-variants::extend_variants-loop-row : goal.decreases-variants::extend_variants-loop-row
decreases-variants::extend_variants-loop-row l = l.end - l.row
