use Rattle.std.proofs.Common.{◌+◌, refl}
use Rattle.arrow_types.specs.TypeOf.{type_of}
use Rattle.arrow_flat.specs.Parts.{Parts}
use Rattle.arrow_flat.proofs.PartsLemmas.{within_stored, fits_within}
use Rattle.arrow_flat.proofs.RunLemmas.{bits_same, ranges_decide}
use Rattle.arrow_flat.proofs.array.FlatArray.equal_range.Goals as goal

pub equal_range-requires-clause-here : goal.equal_range-requires-clause-here
equal_range-requires-clause-here g c =
    fits_within c.self.inside.validity _ (c.args.start + c.args.len) c.self.invariant.fits (within_stored _ c.args.self.now (c.args.start + c.args.len) c.self.invariant c.self.view_is c.requires.here)

pub equal_range-requires-clause-there : goal.equal_range-requires-clause-there
equal_range-requires-clause-there g c =
    fits_within c.other.inside.validity _ (c.args.other_start + c.args.len) c.other.invariant.fits (within_stored _ c.args.other.now (c.args.other_start + c.args.len) c.other.invariant c.other.view_is c.requires.there)

pub equal_runs-requires-clause-here : goal.equal_runs-requires-clause-here
equal_runs-requires-clause-here g c =
    within_stored _ c.args.self.now (c.args.start + c.args.len) c.self.invariant c.self.view_is c.requires.here

pub equal_runs-requires-clause-there : goal.equal_runs-requires-clause-there
equal_runs-requires-clause-there g c =
    within_stored _ c.args.other.now (c.args.other_start + c.args.len) c.other.invariant c.other.view_is c.requires.there

pub returns-then-equal_range : goal.returns-then-equal_range
returns-then-equal_range g c =
    let p : Parts _ = record { arrow_type = type_of c.self.inside.data_type; values = c.self.inside.values; validity = c.self.inside.validity } in
    let q : Parts _ = record { arrow_type = type_of c.other.inside.data_type; values = c.other.inside.values; validity = c.other.inside.validity } in
    let here = within_stored p c.args.self.now (c.args.start + c.args.len) c.self.invariant c.self.view_is c.requires.here in
    let there = within_stored q c.args.other.now (c.args.other_start + c.args.len) c.other.invariant c.other.view_is c.requires.there in
    rw (← c.self.view_is, ← c.other.view_is) (ranges_decide p.validity q.validity (g.V.Values.slots p.values) (g.V.Values.slots q.values) c.args.start c.args.other_start c.args.len (g.met.V.Values.stored p.values) (g.met.V.Values.stored q.values) c.self.invariant.fits c.other.invariant.fits here there c.equal_runs.result (c.if-equal_range.ensures.0 refl) c.equal_runs.ensures)

pub returns-else-equal_range : goal.returns-else-equal_range
returns-else-equal_range g c =
    let p : Parts _ = record { arrow_type = type_of c.self.inside.data_type; values = c.self.inside.values; validity = c.self.inside.validity } in
    let q : Parts _ = record { arrow_type = type_of c.other.inside.data_type; values = c.other.inside.values; validity = c.other.inside.validity } in
    let here = within_stored p c.args.self.now (c.args.start + c.args.len) c.self.invariant c.self.view_is c.requires.here in
    let there = within_stored q c.args.other.now (c.args.other_start + c.args.len) c.other.invariant c.other.view_is c.requires.there in
    rw (← c.self.view_is, ← c.other.view_is) (λ e. absurd (cc), λ same. c.equal_range.ensures.1 (bits_same p.validity q.validity (g.V.Values.slots p.values) (g.V.Values.slots q.values) c.args.start c.args.other_start c.args.len (g.met.V.Values.stored p.values) (g.met.V.Values.stored q.values) c.self.invariant.fits c.other.invariant.fits here there same))
