use Rattle.arrow_select.proofs.Common.{◌≡◌, ◌-◌, ◌∙◌, arith, ap, length, rules, subst, sym, refl, option_map, Fits, IsOffsets, byte_slots, row_bytes, rows_by, pieces, length-byte_slots, at_set, mask_in, rows_fit, All}
use Rattle.arrow_select.proofs.FilterLemmas.{select_all, set_rows}
use Rattle.arrow_select.proofs.SetBytes.{all_set, kept_bits, kept_fit, last_below}
use Rattle.arrow_select.proofs.filter.bytes.filter_bytes.Goals as goal

pub kept_parts-requires : goal.kept_parts-requires
kept_parts-requires g c = record {
  lengths = omega (arith, c.requires.lengths, c.len-2.ensures.rows, c.len-2.ensures.values, length-byte_slots g.K.ByteKind.slot c.args.array.now.values);
}

pub returns-then-count-len-clause-rows : goal.returns-then-count-len-clause-rows
returns-then-count-len-clause-rows g c =
    let slots = rows_by (byte_slots g.K.ByteKind.slot) in
    ap slots c.in_ok-clone.ensures.cases ∙ select_all (mask_in c.args.selection) (slots c.args.array.now) c.requires.lengths (sym c.requires.count ∙ (c.if-count-len.true ∙ c.len-2.ensures.rows))

pub returns-then-count-len-clause-fits : goal.returns-then-count-len-clause-fits
returns-then-count-len-clause-fits g c =
    let slot = g.K.ByteKind.slot in
    let p = c.args.array.now in
    let long : length (mask_in c.args.selection) ≡ length p.values.offsets - 1 = omega (arith, c.requires.lengths, c.len-2.ensures.rows, c.len-2.ensures.values, length-byte_slots slot p.values) in
    let sound = subst IsOffsets c.offsets-rows.ensures c.len.ensures.sound in
    let fits = rows_fit slot p.validity p.validity p.values.offsets p.values.offsets p.values.bytes refl refl c.validity-validity.ensures.fits in
    let most = last_below c.offsets-rows.result.now p.values.offsets c.len.result c.range.result.1 g.O.Index.greatest c.offsets-rows.ensures c.len.ensures.count c.range.ensures.end c.range.ensures.fits in
    let fit = kept_fit p.values.offsets p.values.bytes sound c.values.ensures.within (mask_in c.args.selection) long slot g.met.K.GrowableKind.counts g.O.Offset.IS_LARGE p.arrow_type _ (g.met.K.GrowableKind.lies_as_bytes g.O.Offset.IS_LARGE) c.data_type-data_type.ensures.kind p.validity g.O.Index.greatest g.met.O.Offset.greatest_is fits (omega (arith, c.requires.lengths, c.len-2.ensures.rows, c.len-2.type_inv)) most in
    let all = select_all (mask_in c.args.selection) (rows_by (byte_slots slot) p) c.requires.lengths (sym c.requires.count ∙ (c.if-count-len.true ∙ c.len-2.ensures.rows)) in
    subst (λ kept. Fits kept.arrow_type (rows_by (byte_slots slot) kept)) (sym c.in_ok-clone.ensures.cases) (subst (Fits p.arrow_type) (sym all) fit)

pub new-requires-clause-length : goal.new-requires-clause-length
new-requires-clause-length g c =
    let slot = g.K.ByteKind.slot in
    let p = c.args.array.now in
    let mask = mask_in c.args.selection in
    let long : length mask ≡ length p.values.offsets - 1 = omega (arith, c.requires.lengths, c.len-2.ensures.rows, c.len-2.ensures.values, length-byte_slots slot p.values) in
    let is = c.in_ok-validity.ensures.ok ∙ ap (option_map (at_set mask)) c.validity-validity.ensures.same in
    let fits = rows_fit slot p.validity p.validity p.values.offsets p.values.offsets p.values.bytes refl refl c.validity-validity.ensures.fits in
    kept_bits p.values.offsets p.values.bytes c.in_ok-ends.ends c.in_ok-ends.bytes.items mask p.validity c.in_ok-validity.validity long is c.in_ok-ends.ensures.rows fits

pub new-requires-clause-text : goal.new-requires-clause-text
new-requires-clause-text g c =
    let are = ap (pieces c.in_ok-ends.ends) c.in_ok-bytes.ensures.ok ∙ c.in_ok-ends.ensures.rows in
    subst (All g.K.ByteKind.Allows) (sym are) (all_set g.K.ByteKind.Allows (mask_in c.args.selection) (row_bytes c.args.array.now.values) c.values.ensures.allowed)

pub returns-clause-rows : goal.returns-clause-rows
returns-clause-rows g c =
    let slot = g.K.ByteKind.slot in
    let p = c.args.array.now in
    let mask = mask_in c.args.selection in
    let is = c.in_ok-validity.ensures.ok ∙ ap (option_map (at_set mask)) c.validity-validity.ensures.same in
    let are = ap (pieces c.in_ok-ends.ends) c.in_ok-bytes.ensures.ok ∙ c.in_ok-ends.ensures.rows in
    ap (rows_by (byte_slots slot)) c.new.ensures ∙ set_rows slot mask p.validity c.in_ok-validity.validity (row_bytes p.values) (pieces c.in_ok-ends.ends c.in_ok-bytes.bytes) is are

pub returns-clause-fits : goal.returns-clause-fits
returns-clause-fits g c =
    let slot = g.K.ByteKind.slot in
    let p = c.args.array.now in
    let long : length (mask_in c.args.selection) ≡ length p.values.offsets - 1 = omega (arith, c.requires.lengths, c.len-2.ensures.rows, c.len-2.ensures.values, length-byte_slots slot p.values) in
    let sound = subst IsOffsets c.offsets-rows.ensures c.len.ensures.sound in
    let fits = rows_fit slot p.validity p.validity p.values.offsets p.values.offsets p.values.bytes refl refl c.validity-validity.ensures.fits in
    let most = last_below c.offsets-rows.result.now p.values.offsets c.len.result c.range.result.1 g.O.Index.greatest c.offsets-rows.ensures c.len.ensures.count c.range.ensures.end c.range.ensures.fits in
    let fit = kept_fit p.values.offsets p.values.bytes sound c.values.ensures.within (mask_in c.args.selection) long slot g.met.K.GrowableKind.counts g.O.Offset.IS_LARGE p.arrow_type _ (g.met.K.GrowableKind.lies_as_bytes g.O.Offset.IS_LARGE) c.data_type-data_type.ensures.kind p.validity g.O.Index.greatest g.met.O.Offset.greatest_is fits (omega (arith, c.requires.lengths, c.len-2.ensures.rows, c.len-2.type_inv)) most in
    let same : c.new.result.arrow_type ≡ p.arrow_type = search rules in
    subst (λ t. Fits t (rows_by (byte_slots slot) c.new.result)) (sym same) (subst (Fits p.arrow_type) (sym (returns-clause-rows g c)) fit)
