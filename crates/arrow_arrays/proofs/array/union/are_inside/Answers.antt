use Rattle.std.proofs.Common.{◌≤◌, ◌∙◌, ap, sym, pos, ℤ, map, length, get_or, w8, w32, rules, arith}
use mir.Val.{SFits}
use Rattle.std.specs.List.{zip}
use Rattle.std.proofs.lemmas.Slice.Zip.{length-zip}
use Rattle.arrow_types.specs.TypeOf.{type_of}
use Rattle.arrow_arrays.specs.Any.{layout_of}
use Rattle.arrow_arrays.specs.Layout.{field_ids}
use Rattle.arrow_arrays.specs.UnionParts.{IsInside}
use Rattle.arrow_arrays.proofs.UnionLemmas.{all_next, all_at, all_found, pair_read}
use Rattle.arrow_arrays.proofs.array.union.are_inside.Goals as goal

pub returns-then-not-is_inside : goal.returns-then-not-is_inside
returns-then-not-is_inside c =
    let i = c.loop-i.i in
    let inside = λ (row : ℤ × ℤ). IsInside (field_ids (type_of c.args.data_type.now)) (map layout_of c.args.fields.now) row.0 row.1 in
    let id_fits : SFits w8 (get_or c.as_slice-ids.result.now i (pos 0)) = search rules in
    let child_row_fits : SFits w32 (get_or c.as_slice-child_rows.result.now i (pos 0)) = search rules in
    let read = pair_read c.args.types.now c.args.offsets.now c.as_slice-ids.result.now c.as_slice-child_rows.result.now i c.as_slice-ids.ensures c.as_slice-child_rows.ensures c.requires.count c.loop-i-test.true id_fits child_row_fits in
    (λ h. cc, λ all. sym c.if-not-is_inside.true ∙ c.is_inside.ensures.1 (all_at inside (zip c.args.types.now c.args.offsets.now) i (pos 0, pos 0) _ read.0 read.1 all))

pub loop-i-preserved : goal.loop-i-preserved
loop-i-preserved c =
    let i = c.loop-i.i in
    let inside = λ (row : ℤ × ℤ). IsInside (field_ids (type_of c.args.data_type.now)) (map layout_of c.args.fields.now) row.0 row.1 in
    let id_fits : SFits w8 (get_or c.as_slice-ids.result.now i (pos 0)) = search rules in
    let child_row_fits : SFits w32 (get_or c.as_slice-child_rows.result.now i (pos 0)) = search rules in
    let read = pair_read c.args.types.now c.args.offsets.now c.as_slice-ids.result.now c.as_slice-child_rows.result.now i c.as_slice-ids.ensures c.as_slice-child_rows.ensures c.requires.count c.loop-i-test.true id_fits child_row_fits in
    all_next inside (zip c.args.types.now c.args.offsets.now) i (pos 0, pos 0) _ read.0 read.1 (c.is_inside.ensures.0 c.if-not-is_inside.false) c.loop-i.invariant

pub returns : goal.returns
returns c =
    let pairs = zip c.args.types.now c.args.offsets.now in
    let inside = λ (row : ℤ × ℤ). IsInside (field_ids (type_of c.args.data_type.now)) (map layout_of c.args.fields.now) row.0 row.1 in
    let whole : length pairs ≤ c.loop-i.i = omega (arith, ap length c.as_slice-ids.ensures, c.loop-i-test.false, length-zip c.args.types.now c.args.offsets.now) in
    (λ h. all_found inside pairs c.loop-i.i whole c.loop-i.invariant, λ all. search rules)
