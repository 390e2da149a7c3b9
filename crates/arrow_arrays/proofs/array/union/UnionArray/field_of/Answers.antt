use Rattle.std.proofs.Common.{◌<◌, ◌∙◌, ap, sym, pos, length, get_or, subst, w8, rules}
use mir.Val.{SFits}
use Rattle.std.proofs.lemmas.Int.{to_z-of_z}
use Rattle.arrow_types.specs.TypeOf.{type_of}
use Rattle.arrow_arrays.specs.Layout.{field_ids}
use Rattle.arrow_arrays.specs.TypeParts.{field_types}
use Rattle.arrow_arrays.specs.UnionParts.{FindsField}
use Rattle.arrow_arrays.proofs.UnionLemmas.{finds_some, finds_none}
use Rattle.arrow_arrays.proofs.array.union.UnionArray.field_of.Goals as goal

pub unreachable-requires : goal.unreachable-requires
unreachable-requires c =
    let t = type_of c.self.inside.data_type in
    let fits : SFits w8 (get_or c.as_slice.result.now c.args.i (pos 0)) = search rules in
    let is = to_z-of_z w8 (get_or c.as_slice.result.now c.args.i (pos 0)) fits ∙ ap (λ xs. get_or xs c.args.i (pos 0)) c.as_slice.ensures in
    let within : c.args.i < length c.self.inside.types = subst (λ p. c.args.i < length p.types) (sym c.self.view_is) c.requires in
    finds_none _ c.args.i _ c.self.invariant within is (subst (FindsField (field_ids t) (length (field_types t)) _) c.in_default.is c.field_of_id.ensures)

pub returns : goal.returns
returns c =
    let t = type_of c.self.inside.data_type in
    let fits : SFits w8 (get_or c.as_slice.result.now c.args.i (pos 0)) = search rules in
    let is = to_z-of_z w8 (get_or c.as_slice.result.now c.args.i (pos 0)) fits ∙ ap (λ xs. get_or xs c.args.i (pos 0)) c.as_slice.ensures in
    rw (← c.self.view_is) (finds_some _ c.args.i c.in-Some.field _ c.self.invariant is (subst (FindsField (field_ids t) (length (field_types t)) _) c.in-Some.is c.field_of_id.ensures))
