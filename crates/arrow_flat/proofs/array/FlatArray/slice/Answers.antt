use Rattle.std.proofs.Common.{◌+◌}
use Rattle.arrow_types.specs.TypeOf.{type_of}
use Rattle.arrow_flat.specs.Parts.{Parts}
use Rattle.arrow_flat.proofs.PartsLemmas.{within_stored, fits_within, array_of_part, rows_of_slice}
use Rattle.arrow_flat.proofs.array.FlatArray.slice.Goals as goal

pub slice-requires : goal.slice-requires
slice-requires g c =
    within_stored _ c.args.self.now (c.args.offset + c.args.len) c.self.invariant c.self.view_is c.requires

pub slice-requires-2 : goal.slice-requires-2
slice-requires-2 g c =
    let within = within_stored _ c.args.self.now (c.args.offset + c.args.len) c.self.invariant c.self.view_is c.requires in
    fits_within c.self.inside.validity _ (c.args.offset + c.args.len) c.self.invariant.fits within

pub invariant_of-self : goal.invariant_of-self
invariant_of-self g c =
    let p : Parts _ = record { arrow_type = type_of c.self.inside.data_type; values = c.self.inside.values; validity = c.self.inside.validity } in
    let within = within_stored p c.args.self.now (c.args.offset + c.args.len) c.self.invariant c.self.view_is c.requires in
    let kind = g.met.V.Values.slice_is_of _ _ c.args.offset c.args.len c.self.invariant.kind in
    let stored = g.met.V.Values.slots_of_slice _ c.args.offset c.args.len within in
    rw (c.slice.ensures, c.slice-2.ensures) (array_of_part g.V.Values.slots g.V.Values.are_of g.V.Values.slice p c.args.offset c.args.len c.self.invariant within kind stored)

pub returns-clause-rows : goal.returns-clause-rows
returns-clause-rows g c =
    let p : Parts _ = record { arrow_type = type_of c.self.inside.data_type; values = c.self.inside.values; validity = c.self.inside.validity } in
    let within = within_stored p c.args.self.now (c.args.offset + c.args.len) c.self.invariant c.self.view_is c.requires in
    let stored = g.met.V.Values.slots_of_slice _ c.args.offset c.args.len within in
    rw (← c.self.view_is, c.slice.ensures, c.slice-2.ensures) (rows_of_slice g.V.Values.slots g.V.Values.slice p c.args.offset c.args.len stored)
