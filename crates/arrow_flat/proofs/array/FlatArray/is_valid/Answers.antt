use Rattle.std.proofs.Common.{arith, ◌<◌, length, ◌∙◌, ap, subst}
use Rattle.arrow_types.specs.Rows.{valid_at}
use Rattle.arrow_flat.specs.Parts.{IsArray}
use Rattle.arrow_flat.proofs.PartsLemmas.{length-rows_by, row_marked}
use Rattle.arrow_flat.proofs.array.FlatArray.is_valid.Goals as goal

pub returns-clause-row : goal.returns-clause-row
returns-clause-row g c =
    let array = subst (IsArray g.V.Values.slots g.V.Values.are_of) c.self.view_is c.self.invariant in
    let values = g.met.V.Values.stored c.args.self.now.values in
    let within : c.args.i < length (g.V.Values.slots c.args.self.now.values) = omega (arith, c.requires, length-rows_by c.args.self.now array) in
    c.is_valid.ensures ∙ (ap (λ p. valid_at p.validity c.args.i) c.self.view_is ∙ row_marked c.args.self.now c.args.i array values within)
