use Rattle.std.proofs.Common.{◌≡◌, ◌+◌, ◌*◌, map, take, get_or}
use Rattle.arrow_types.specs.Slot.{Null}
use Rattle.arrow_memory.specs.Sliced.{sliced}
use Rattle.arrow_arrays.specs.Any.{layout_of}
use Rattle.arrow_arrays.specs.FixedListParts.{fixed_list_layout, fixed_list_rows}
use Rattle.arrow_arrays.specs.KeyedParts.{keyed_layout, keyed_rows}
use Rattle.arrow_arrays.specs.Layout.{depth, depth_of_all, rows, to_layouts}
use Rattle.arrow_arrays.specs.ListParts.{list_layout, list_rows}
use Rattle.arrow_arrays.specs.StructParts.{struct_layout, struct_rows}
use Rattle.arrow_arrays.specs.UnionParts.{union_layout, union_rows}
use Rattle.arrow_arrays.proofs.array.+equal.Given as goal

-- each call goes to a less deep array, or comes nearer to one: a range, its rows, and what they hold

abbrev pub decreases-any::AnyArray::equal_range : goal.decreases-any::AnyArray::equal_range
decreases-any::AnyArray::equal_range l = 5 * depth (layout_of l.self.now) + 3

abbrev pub decreases-any::equal_spans : goal.decreases-any::equal_spans
decreases-any::equal_spans l = 5 * depth (layout_of l.values.now) + 4

abbrev pub decreases-struct_::equal_parts : goal.decreases-struct_::equal_parts
decreases-struct_::equal_parts l = 5 * depth_of_all (to_layouts (map layout_of l.values.now)) + 4

abbrev pub decreases-list::ListArray::equal_range : goal.decreases-list::ListArray::equal_range
decreases-list::ListArray::equal_range l = 5 * depth (list_layout l.self.now) + 2

abbrev pub decreases-list::ListArray::equal_row : goal.decreases-list::ListArray::equal_row
decreases-list::ListArray::equal_row l = 5 * depth (list_layout l.self.now) + 1

abbrev pub decreases-map::MapArray::equal_range : goal.decreases-map::MapArray::equal_range
decreases-map::MapArray::equal_range l = 5 * depth (list_layout l.self.now) + 2

abbrev pub decreases-map::MapArray::equal_row : goal.decreases-map::MapArray::equal_row
decreases-map::MapArray::equal_row l = 5 * depth (list_layout l.self.now) + 1

abbrev pub decreases-fixed_size_list::FixedSizeListArray::equal_range : goal.decreases-fixed_size_list::FixedSizeListArray::equal_range
decreases-fixed_size_list::FixedSizeListArray::equal_range l = 5 * depth (fixed_list_layout l.self.now) + 2

abbrev pub decreases-fixed_size_list::FixedSizeListArray::equal_row : goal.decreases-fixed_size_list::FixedSizeListArray::equal_row
decreases-fixed_size_list::FixedSizeListArray::equal_row l = 5 * depth (fixed_list_layout l.self.now) + 1

abbrev pub decreases-dictionary::DictionaryArray::equal_range : goal.decreases-dictionary::DictionaryArray::equal_range
decreases-dictionary::DictionaryArray::equal_range l = 5 * depth (keyed_layout l.self.now) + 2

abbrev pub decreases-dictionary::DictionaryArray::equal_row : goal.decreases-dictionary::DictionaryArray::equal_row
decreases-dictionary::DictionaryArray::equal_row l = 5 * depth (keyed_layout l.self.now) + 1

abbrev pub decreases-struct_::StructArray::equal_range : goal.decreases-struct_::StructArray::equal_range
decreases-struct_::StructArray::equal_range l = 5 * depth (struct_layout l.self.now) + 2

abbrev pub decreases-struct_::StructArray::equal_row : goal.decreases-struct_::StructArray::equal_row
decreases-struct_::StructArray::equal_row l = 5 * depth (struct_layout l.self.now) + 1

abbrev pub decreases-union::UnionArray::equal_range : goal.decreases-union::UnionArray::equal_range
decreases-union::UnionArray::equal_range l = 5 * depth (union_layout l.self.now) + 2

abbrev pub decreases-union::UnionArray::equal_row : goal.decreases-union::UnionArray::equal_row
decreases-union::UnionArray::equal_row l = 5 * depth (union_layout l.self.now) + 1

-- the rows so far are the same

abbrev pub invariant-list::ListArray::equal_range-loop-i : goal.invariant-list::ListArray::equal_range-loop-i
invariant-list::ListArray::equal_range-loop-i l = sliced (list_rows l.self) l.start l.i ≡ sliced (list_rows l.other) l.other_start l.i

abbrev pub invariant-map::MapArray::equal_range-loop-i : goal.invariant-map::MapArray::equal_range-loop-i
invariant-map::MapArray::equal_range-loop-i l = sliced (list_rows l.self) l.start l.i ≡ sliced (list_rows l.other) l.other_start l.i

abbrev pub invariant-fixed_size_list::FixedSizeListArray::equal_range-loop-i : goal.invariant-fixed_size_list::FixedSizeListArray::equal_range-loop-i
invariant-fixed_size_list::FixedSizeListArray::equal_range-loop-i l = sliced (fixed_list_rows l.self) l.start l.i ≡ sliced (fixed_list_rows l.other) l.other_start l.i

abbrev pub invariant-dictionary::DictionaryArray::equal_range-loop-i : goal.invariant-dictionary::DictionaryArray::equal_range-loop-i
invariant-dictionary::DictionaryArray::equal_range-loop-i l = sliced (keyed_rows l.self) l.start l.i ≡ sliced (keyed_rows l.other) l.other_start l.i

abbrev pub invariant-struct_::StructArray::equal_range-loop-i : goal.invariant-struct_::StructArray::equal_range-loop-i
invariant-struct_::StructArray::equal_range-loop-i l = sliced (struct_rows l.self) l.start l.i ≡ sliced (struct_rows l.other) l.other_start l.i

abbrev pub invariant-union::UnionArray::equal_range-loop-i : goal.invariant-union::UnionArray::equal_range-loop-i
invariant-union::UnionArray::equal_range-loop-i l = sliced (union_rows l.self) l.start l.i ≡ sliced (union_rows l.other) l.other_start l.i

-- the columns so far have the same row
abbrev pub invariant-struct_::equal_parts-loop-k : goal.invariant-struct_::equal_parts-loop-k
invariant-struct_::equal_parts-loop-k l =
    take l.k (map (λ x. get_or (rows (layout_of x)) l.i Null) l.values) ≡ take l.k (map (λ x. get_or (rows (layout_of x)) l.j Null) l.others)
