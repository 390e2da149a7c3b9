use Rattle.arrow_types.specs.TypeOf.{type_of}
use Rattle.arrow_arrays.specs.Any.{layout_of}
use Rattle.arrow_arrays.specs.ListParts.{ListParts}
use Rattle.arrow_arrays.proofs.ListLemmas.{row_within, list_row_null, list_row_valid}
use Rattle.arrow_arrays.proofs.array.map.MapArray.span.Goals as goal

pub returns-then-not-is_valid-clause-row : goal.returns-then-not-is_valid-clause-row
returns-then-not-is_valid-clause-row c =
    let p : ListParts = record { arrow_type = type_of c.self.inside.data_type; validity = c.self.inside.validity; offsets = c.self.inside.offsets; child = layout_of c.self.inside.field.value } in
    rw (← c.self.view_is) (list_row_null p c.args.i c.self.invariant (row_within p _ c.args.i c.self.view_is c.requires) c.if-not-is_valid.ensures)

pub returns-clause-row : goal.returns-clause-row
returns-clause-row c =
    let p : ListParts = record { arrow_type = type_of c.self.inside.data_type; validity = c.self.inside.validity; offsets = c.self.inside.offsets; child = layout_of c.self.inside.field.value } in
    rw (← c.self.view_is, c.start_end-start.ensures.start, c.start_end-start.ensures.end) (list_row_valid p c.args.i c.self.invariant (row_within p _ c.args.i c.self.view_is c.requires) c.if-not-is_valid.ensures)
