use Rattle.std.proofs.Common.{◌<◌, ◌≤◌, ◌∙◌, ap, sym, pos, length, get_or, subst, w8, rules, arith}
use mir.Val.{SFits}
use Rattle.std.proofs.lemmas.Int.{to_z-of_z}
use Rattle.arrow_types.specs.TypeOf.{type_of}
use Rattle.arrow_arrays.specs.Layout.{field_ids}
use Rattle.arrow_arrays.specs.TypeParts.{field_types}
use Rattle.arrow_arrays.specs.UnionParts.{IsKnown}
use Rattle.arrow_arrays.proofs.UnionLemmas.{all_next, all_at, all_found}
use Rattle.arrow_arrays.proofs.array.union.are_known.Goals as goal

pub returns-then-not-is_known : goal.returns-then-not-is_known
returns-then-not-is_known c =
    let t = type_of c.args.data_type.now in
    let i = c.loop-id.id-index in
    let read = get_or c.as_slice-id-items.result.now i (pos 0) in
    let fits : SFits w8 read = search rules in
    let is = to_z-of_z w8 read fits ∙ ap (λ xs. get_or xs i (pos 0)) c.as_slice-id-items.ensures in
    let within : i < length c.args.types.now = subst (λ xs. i < length xs) c.as_slice-id-items.ensures c.loop-id-test.true in
    (λ h. cc, λ all. sym c.if-not-is_known.true ∙ c.is_known.ensures.1 (all_at (IsKnown (field_ids t) (length (field_types t))) c.args.types.now i (pos 0) _ within is all))

pub loop-id-preserved : goal.loop-id-preserved
loop-id-preserved c =
    let t = type_of c.args.data_type.now in
    let i = c.loop-id.id-index in
    let read = get_or c.as_slice-id-items.result.now i (pos 0) in
    let fits : SFits w8 read = search rules in
    let is = to_z-of_z w8 read fits ∙ ap (λ xs. get_or xs i (pos 0)) c.as_slice-id-items.ensures in
    let within : i < length c.args.types.now = subst (λ xs. i < length xs) c.as_slice-id-items.ensures c.loop-id-test.true in
    all_next (IsKnown (field_ids t) (length (field_types t))) c.args.types.now i (pos 0) _ within is (c.is_known.ensures.0 c.if-not-is_known.false) c.loop-id.invariant

pub returns : goal.returns
returns c =
    let t = type_of c.args.data_type.now in
    let whole : length c.args.types.now ≤ c.loop-id.id-index = omega (arith, ap length c.as_slice-id-items.ensures, c.loop-id-test.false) in
    (λ h. all_found (IsKnown (field_ids t) (length (field_types t))) c.args.types.now c.loop-id.id-index whole c.loop-id.invariant, λ all. search rules)
