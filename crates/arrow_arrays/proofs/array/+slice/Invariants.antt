use Rattle.std.specs.Prelude.{◌+◌, ◌*◌, map}
use Rattle.arrow_arrays.specs.Any.{layout_of}
use Rattle.arrow_arrays.specs.FixedListParts.{fixed_list_layout}
use Rattle.arrow_arrays.specs.Layout.{depth, depth_of_all, to_layouts}
use Rattle.arrow_arrays.specs.SliceOf.{slice_of}
use Rattle.arrow_arrays.specs.StructParts.{struct_layout}
use Rattle.arrow_arrays.proofs.SliceLemmas.{ChangedUpTo}
use Rattle.arrow_arrays.proofs.array.+slice.Given as goal

abbrev pub decreases-any::AnyArray::slice : goal.decreases-any::AnyArray::slice
decreases-any::AnyArray::slice l = 3 * depth (layout_of l.self.now) + 2

abbrev pub decreases-fixed_size_list::FixedSizeListArray::slice : goal.decreases-fixed_size_list::FixedSizeListArray::slice
decreases-fixed_size_list::FixedSizeListArray::slice l = 3 * depth (fixed_list_layout l.self.now) + 1

abbrev pub decreases-struct_::StructArray::slice : goal.decreases-struct_::StructArray::slice
decreases-struct_::StructArray::slice l = 3 * depth (struct_layout l.self.now) + 1

abbrev pub decreases-struct_::slice_all : goal.decreases-struct_::slice_all
decreases-struct_::slice_all l = 3 * depth_of_all (to_layouts (map layout_of l.values.now)) + 3

-- the children so far are sliced, and the others as they were
abbrev pub invariant-struct_::slice_all-loop-array : goal.invariant-struct_::slice_all-loop-array
invariant-struct_::slice_all-loop-array l =
    goal.unvisited-struct_::slice_all-loop-array l × ChangedUpTo layout_of (λ c. slice_of c l.offset l.len) l.array-items l.initial.array-items l.array-index
