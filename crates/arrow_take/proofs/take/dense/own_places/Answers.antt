use Rattle.arrow_take.proofs.Common.{◌≡◌, ◌∙◌, arith, ap, length, map, of_z, subst, sym, to_z, w8, option_map, ints, to_z-of_z, length-map, FitsRows, rows_by, length-masked, kept, have_id}
use Rattle.arrow_take.proofs.KeptLemmas.{kept_fits, kept_rows}
use Rattle.arrow_take.proofs.take.dense.own_places.Goals as goal

pub keep_validity-requires : goal.keep_validity-requires
keep_validity-requires g c =
    let places = c.args.places.now in
    let long = length-masked places.validity (map g.I.NativeType.slot places.values) c.validity.ensures.fits in
    record { fits = subst (λ v. FitsRows v (length c.args.types.now)) (sym c.validity.ensures.same) (subst (FitsRows places.validity) (sym long ∙ c.requires.lengths) c.validity.ensures.fits) }

pub keep_values-requires : goal.keep_values-requires
keep_values-requires g c =
    let places = c.args.places.now in
    let slot = g.I.NativeType.slot in
    let long = length-masked places.validity (map slot places.values) c.validity.ensures.fits in
    record { lengths = ap length (c.as_slice.ensures ∙ c.values.ensures) ∙ (sym (length-map places.values slot) ∙ (sym long ∙ c.requires.lengths)) }

pub new-requires-clause-length : goal.new-requires-clause-length
new-requires-clause-length g c =
    let places = c.args.places.now in
    let mask = have_id (to_z w8 (of_z w8 c.args.id)) c.args.types.now in
    let values = c.in_ok-from_vec.ensures.ok ∙ (c.in_ok-own.ensures.ok ∙ ap (kept mask) (c.as_slice.ensures ∙ c.values.ensures)) in
    let valid = c.in_ok-validity.ensures.ok ∙ ap (option_map (kept mask)) c.validity.ensures.same in
    kept_fits mask places.validity c.in_ok-validity.validity places.values c.in_ok-from_vec.field-0 valid values (subst (FitsRows places.validity) (length-map places.values g.I.NativeType.slot) c.validity.ensures.fits)

pub returns-clause-ok : goal.returns-clause-ok
returns-clause-ok g c =
    let slot = g.I.NativeType.slot in
    let places = c.args.places.now in
    let id : to_z w8 (of_z w8 c.args.id) ≡ c.args.id = to_z-of_z w8 c.args.id (omega (arith, ints, c.ranges.id.sfits)) in
    let values = c.in_ok-from_vec.ensures.ok ∙ (c.in_ok-own.ensures.ok ∙ (λ i. kept (have_id (id i) c.args.types.now) ((c.as_slice.ensures ∙ c.values.ensures) i))) in
    let valid = c.in_ok-validity.ensures.ok ∙ (λ i. option_map (kept (have_id (id i) c.args.types.now)) (c.validity.ensures.same i)) in
    ap (rows_by (map slot)) c.new.ensures ∙ kept_rows slot (have_id c.args.id c.args.types.now) places.validity places.values c.in_ok-validity.validity c.in_ok-from_vec.field-0 c.validity.ensures.fits valid values
