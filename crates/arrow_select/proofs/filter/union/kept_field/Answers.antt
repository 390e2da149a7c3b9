use Rattle.arrow_select.proofs.Common.{◌≡◌, ◌<◌, ◌∙◌, Some, arith, ap, length, map, of_z, rules, subst, sym, to_z, w8, int_eq, IfSome, ints, to_z-of_z, length-map, id_at, sliced, any_array_rows, layout_of, field_ids, rows, slice_of, true_places, KeptUnder, mask_in, HasPart, have_id, part_long, q_rows, q_type, spans_rows, part, variant_type, any_array_type}
use Rattle.arrow_select.proofs.KeptFields.{field_kept, made_is, names_rows}
use Rattle.arrow_select.proofs.filter.union.kept_field.Goals.{After-sliced-part}
use Rattle.arrow_select.proofs.filter.union.kept_field.Goals as goal

-- the rows of the field's column that the union has, their type, and that they are as many as the union's
column : (c : After-sliced-part) → (any_array_rows c.sliced-part.result ≡ part c.args.array.now c.requires.sparse (true_places (mask_in c.args.selection)) (names_rows c.args.array.now c.requires.sparse (mask_in c.args.selection) c.requires.lengths) c.args.f) × (any_array_type c.sliced-part.result ≡ variant_type c.args.array.now.arrow_type c.args.f) × (length (any_array_rows c.sliced-part.result) ≡ length c.args.array.now.types)
column c =
    let p = c.args.array.now in
    let sparse = c.requires.sparse in
    let keys = names_rows p sparse (mask_in c.args.selection) c.requires.lengths in
    let fields = c.fields.result.now in
    let field = c.index-fields-f.result in
    let own = c.sliced-part.result in
    let among : c.args.f < length fields = omega (arith, c.requires.field, length-map fields layout_of, ap length c.fields.ensures.same) in
    let within : c.args.f < length (map rows p.children) = omega (arith, c.requires.field, length-map p.children rows) in
    let cut : layout_of own ≡ slice_of (layout_of field) p.start (length p.types) = search rules in
    let cut_rows : any_array_rows own ≡ sliced (any_array_rows field) p.start (length p.types) = search rules in
    let are = q_rows p sparse _ keys fields c.fields.ensures.same c.args.f among field c.index-fields-f.is own cut cut_rows in
    (are, q_type p sparse _ keys fields c.fields.ensures.same c.args.f among field c.index-fields-f.is own cut cut_rows, ap length are ∙ part_long p sparse _ keys c.args.f within)

pub sliced-part-requires : goal.sliced-part-requires
sliced-part-requires c =
    let p = c.args.array.now in
    let keys = names_rows p c.requires.sparse (mask_in c.args.selection) c.requires.lengths in
    let fields = c.fields.result.now in
    let among : c.args.f < length fields = omega (arith, c.requires.field, length-map fields layout_of, ap length c.fields.ensures.same) in
    let spans = spans_rows p c.requires.sparse _ keys fields c.fields.ensures.same c.args.f among c.index-fields-f.result c.index-fields-f.is in
    search rules

pub kept_under-requires-clause-lengths : goal.kept_under-requires-clause-lengths
kept_under-requires-clause-lengths c =
    c.requires.lengths ∙ sym (column (goal.at.kept_under-requires-clause-lengths c).After-sliced-part).2

pub kept_under-requires-clause-fits : goal.kept_under-requires-clause-fits
kept_under-requires-clause-fits c =
    let types : c.as_slice.result.now ≡ c.args.array.now.types = search rules in
    ap length c.in_ok-own.ensures.ok ∙ (length-map c.as_slice.result.now (int_eq _) ∙ (ap length types ∙ sym (column (goal.at.kept_under-requires-clause-fits c).After-sliced-part).2))

pub returns-clause-part : goal.returns-clause-part
returns-clause-part c =
    let p = c.args.array.now in
    let mask = mask_in c.args.selection in
    let own = column (goal.at.returns-clause-part c).After-sliced-part in
    let within : c.args.f < length (map rows p.children) = omega (arith, c.requires.field, length-map p.children rows) in
    let types : c.as_slice.result.now ≡ p.types = search rules in
    let id : to_z w8 (of_z w8 c.id_of_field-id.result) ≡ id_at (field_ids p.arrow_type) c.args.f = to_z-of_z w8 c.id_of_field-id.result (omega (arith, ints, c.id_of_field-id.type_inv)) ∙ (c.id_of_field-id.ensures ∙ ap (λ u. id_at (field_ids u) c.args.f) c.data_type.ensures.same) in
    let bits : c.in_ok-own.own ≡ have_id (id_at (field_ids p.arrow_type) c.args.f) p.types = c.in_ok-own.ensures.ok ∙ (λ i. have_id (id i) (types i)) in
    let kept = subst (λ o. IfSome o (KeptUnder mask (Some c.in_ok-own.own) c.sliced-part.result)) c.in-Some.is c.in_ok-kept.ensures.ok in
    subst (λ xs. HasPart p.arrow_type xs c.args.f c.in-Some.kept) (made_is p c.requires.sparse mask c.requires.lengths) (field_kept p c.requires.sparse mask c.requires.lengths c.args.f within c.sliced-part.result c.in-Some.kept own.1 own.0 (subst (λ bits. KeptUnder mask (Some bits) c.sliced-part.result c.in-Some.kept) bits kept))
