use Rattle.std.proofs.Common.{arith}
use Rattle.arrow_types.specs.TypeOf.{type_of}
use Rattle.arrow_arrays.specs.Any.{layout_of}
use Rattle.arrow_arrays.specs.ListParts.{ListParts}
use Rattle.arrow_arrays.proofs.ListLemmas.{offsets_within, bits_within, list_part_is, list_part_rows}
use Rattle.arrow_arrays.proofs.array.map.MapArray.slice.Goals as goal

pub prove-unreachable-requires : goal.prove-unreachable-requires
prove-unreachable-requires c =
    let p : ListParts = record { arrow_type = type_of c.self.inside.data_type; validity = c.self.inside.validity; offsets = c.self.inside.offsets; child = layout_of c.self.inside.field.value } in
    omega (arith, offsets_within p _ c.args.offset c.args.len c.self.invariant c.self.view_is c.requires, c.len.ensures.count, c.if-prove.true)

pub slice-requires-clause-part : goal.slice-requires-clause-part
slice-requires-clause-part c =
    let p : ListParts = record { arrow_type = type_of c.self.inside.data_type; validity = c.self.inside.validity; offsets = c.self.inside.offsets; child = layout_of c.self.inside.field.value } in
    offsets_within p _ c.args.offset c.args.len c.self.invariant c.self.view_is c.requires

pub slice-requires-2 : goal.slice-requires-2
slice-requires-2 c =
    let p : ListParts = record { arrow_type = type_of c.self.inside.data_type; validity = c.self.inside.validity; offsets = c.self.inside.offsets; child = layout_of c.self.inside.field.value } in
    bits_within p _ c.args.offset c.args.len c.self.invariant c.self.view_is c.requires

pub invariant_of-self : goal.invariant_of-self
invariant_of-self c =
    let p : ListParts = record { arrow_type = type_of c.self.inside.data_type; validity = c.self.inside.validity; offsets = c.self.inside.offsets; child = layout_of c.self.inside.field.value } in
    rw (c.slice.ensures, c.slice-2.ensures) (list_part_is p _ c.args.offset c.args.len c.self.invariant c.self.view_is c.requires)

pub returns-clause-rows : goal.returns-clause-rows
returns-clause-rows c =
    let p : ListParts = record { arrow_type = type_of c.self.inside.data_type; validity = c.self.inside.validity; offsets = c.self.inside.offsets; child = layout_of c.self.inside.field.value } in
    rw (c.slice.ensures, c.slice-2.ensures, ← c.self.view_is) (list_part_rows p _ c.args.offset c.args.len c.self.view_is c.requires)
