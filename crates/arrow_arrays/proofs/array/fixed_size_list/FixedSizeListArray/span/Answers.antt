use Rattle.std.proofs.Common.{arith}
use Rattle.arrow_types.specs.TypeOf.{type_of}
use Rattle.arrow_arrays.specs.Any.{layout_of}
use Rattle.arrow_arrays.specs.FixedListParts.{FixedListParts}
use Rattle.arrow_arrays.proofs.FixedLemmas.{items_of_row_within, fixed_bit_within, fixed_row_within, fixed_row_null, fixed_row_valid}
use Rattle.arrow_arrays.proofs.array.fixed_size_list.FixedSizeListArray.span.Goals as goal

pub is_valid-requires : goal.is_valid-requires
is_valid-requires c =
    let p : FixedListParts = record { arrow_type = type_of c.self.inside.data_type; validity = c.self.inside.validity; size = c.self.inside.size; child = layout_of c.self.inside.values.value } in
    fixed_bit_within p _ c.args.i c.self.invariant c.self.view_is c.requires

pub returns-clause-within : goal.returns-clause-within
returns-clause-within c =
    let p : FixedListParts = record { arrow_type = type_of c.self.inside.data_type; validity = c.self.inside.validity; size = c.self.inside.size; child = layout_of c.self.inside.values.value } in
    rw (← c.self.view_is) (items_of_row_within p c.args.i c.self.invariant (fixed_row_within p _ c.args.i c.self.invariant c.self.view_is c.requires))

pub returns-then-not-is_valid-clause-row : goal.returns-then-not-is_valid-clause-row
returns-then-not-is_valid-clause-row c =
    let p : FixedListParts = record { arrow_type = type_of c.self.inside.data_type; validity = c.self.inside.validity; size = c.self.inside.size; child = layout_of c.self.inside.values.value } in
    rw (← c.self.view_is) (fixed_row_null p c.args.i c.self.invariant (fixed_row_within p _ c.args.i c.self.invariant c.self.view_is c.requires) c.if-not-is_valid.ensures)

pub overflow_mul-result : goal.overflow_mul-result
overflow_mul-result c =
    let p : FixedListParts = record { arrow_type = type_of c.self.inside.data_type; validity = c.self.inside.validity; size = c.self.inside.size; child = layout_of c.self.inside.values.value } in
    omega (arith, items_of_row_within p c.args.i c.self.invariant (fixed_row_within p _ c.args.i c.self.invariant c.self.view_is c.requires), c.self.invariant.counted)

pub returns-clause-row : goal.returns-clause-row
returns-clause-row c =
    let p : FixedListParts = record { arrow_type = type_of c.self.inside.data_type; validity = c.self.inside.validity; size = c.self.inside.size; child = layout_of c.self.inside.values.value } in
    rw (← c.self.view_is) (fixed_row_valid p c.args.i c.self.invariant (fixed_row_within p _ c.args.i c.self.invariant c.self.view_is c.requires) c.if-not-is_valid.ensures)
