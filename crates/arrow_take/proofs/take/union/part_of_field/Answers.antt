use Rattle.arrow_take.proofs.Common.{◌≡◌, ◌<◌, ◌∙◌, Some, None, arith, ap, length, map, of_z, rules, subst, sym, to_z, w8, option_copied, option_map, ints, to_z-of_z, length-map, id_at, sliced, rows_by, any_array_rows, layout_of, field_ids, slice_of, ArePlaces, NamesPart, kept, taken_id, have_id, valid_index}
use Rattle.arrow_take.proofs.TakenPlaces.{places_name}
use Rattle.arrow_take.proofs.TakenVariants.{IsField, TakesUnion, field_is, q_names, sparse_by, spans_rows}
use Rattle.arrow_take.proofs.take.union.part_of_field.Goals as goal

pub sliced-array-requires : goal.sliced-array-requires
sliced-array-requires g c =
    let p = c.args.values.now in
    let indices = rows_by (map g.I.NativeType.slot) c.args.indices.now in
    let fields = c.fields.result.now in
    let none : p.child_rows ≡ None = subst (λ o. ArePlaces p indices (option_map (rows_by (map g.I.NativeType.slot)) (option_copied o))) c.in-None.is c.requires.places in
    let among : c.args.f < length fields = omega (arith, c.requires.field, length-map fields layout_of, ap length c.fields.ensures.same) in
    let spans = spans_rows p (sparse_by p c.requires.union none) indices c.requires.inside fields c.fields.ensures.same c.args.f among c.index-fields-f.result c.index-fields-f.is in
    search rules

pub own_places-requires : goal.own_places-requires
own_places-requires g c =
    let p = c.args.values.now in
    let slot = g.I.NativeType.slot in
    let indices = rows_by (map slot) c.args.indices.now in
    let are : ArePlaces p indices (Some (rows_by (map slot) c.in-Some.places.now)) = subst (λ o. ArePlaces p indices (option_map (rows_by (map slot)) (option_copied o))) c.in-Some.is c.requires.places in
    record { lengths = are.1 ∙ (sym (length-map indices (taken_id p)) ∙ sym (ap length c.requires.types)) }

pub returns-in_ok-clone-in-None-clause-ok : goal.returns-in_ok-clone-in-None-clause-ok
returns-in_ok-clone-in-None-clause-ok g c =
    let p = c.args.values.now in
    let slot = g.I.NativeType.slot in
    let indices = rows_by (map slot) c.args.indices.now in
    let fields = c.fields.result.now in
    let none : p.child_rows ≡ None = subst (λ o. ArePlaces p indices (option_map (rows_by (map slot)) (option_copied o))) c.in-None.is c.requires.places in
    let among : c.args.f < length fields = omega (arith, c.requires.field, length-map fields layout_of, ap length c.fields.ensures.same) in
    let id : to_z w8 (of_z w8 c.id_of_field-id.result) ≡ id_at (field_ids p.arrow_type) c.args.f = to_z-of_z w8 c.id_of_field-id.result (omega (arith, ints, c.id_of_field-id.type_inv)) ∙ (c.id_of_field-id.ensures ∙ ap (λ u. id_at (field_ids u) c.args.f) c.data_type.ensures.same) in
    let own = c.in_ok-own-in-None.ensures.ok ∙ ap (λ k. map (valid_index (Some (have_id k p.types))) indices) id in
    let part = c.sliced-array.result in
    let cut : layout_of part ≡ slice_of (layout_of c.index-fields-f.result) p.start (length p.types) = search rules in
    let cut_rows : any_array_rows part ≡ sliced (any_array_rows c.index-fields-f.result) p.start (length p.types) = search rules in
    subst (NamesPart p indices c.args.f part) (sym own) (q_names p (sparse_by p c.requires.union none) indices c.requires.inside fields c.fields.ensures.same c.args.f among c.index-fields-f.result c.index-fields-f.is part cut cut_rows)

pub returns-in_ok-array-in-Some-clause-ok : goal.returns-in_ok-array-in-Some-clause-ok
returns-in_ok-array-in-Some-clause-ok g c =
    let p = c.args.values.now in
    let slot = g.I.NativeType.slot in
    let indices = rows_by (map slot) c.args.indices.now in
    let fields = c.fields-in-Some.result.now in
    let places = rows_by (map slot) c.in-Some.places.now in
    let are : ArePlaces p indices (Some places) = subst (λ o. ArePlaces p indices (option_map (rows_by (map slot)) (option_copied o))) c.in-Some.is c.requires.places in
    let among : c.args.f < length fields = omega (arith, c.requires.field, length-map fields layout_of, ap length c.fields-in-Some.ensures.same) in
    let id : to_z w8 (of_z w8 c.id_of_field-id.result) ≡ id_at (field_ids p.arrow_type) c.args.f = to_z-of_z w8 c.id_of_field-id.result (omega (arith, ints, c.id_of_field-id.type_inv)) ∙ (c.id_of_field-id.ensures ∙ ap (λ u. id_at (field_ids u) c.args.f) c.data_type.ensures.same) in
    let own = c.in_ok-own-in-Some.ensures.ok ∙ ap (λ k. kept (have_id k c.args.types.now) places) id in
    let same : layout_of c.in_ok-array-in-Some.array ≡ layout_of c.index-fields-f-in-Some.result = search rules in
    let takes : TakesUnion p indices c.args.types.now = record { held = c.requires.union; keys = c.requires.inside; types_are = c.requires.types } in
    let field = subst (IsField p c.args.f) (sym same) (field_is p c.requires.union.fields fields c.fields-in-Some.ensures.same c.args.f among c.index-fields-f-in-Some.result c.index-fields-f-in-Some.is) in
    subst (NamesPart p indices c.args.f c.in_ok-array-in-Some.array) (sym own) (places_name takes places are c.args.f c.in_ok-array-in-Some.array field)
