use Rattle.arrow_select.proofs.Common.{◌≤◌, ◌∷◌, arith, ap, length, map, subst, sym, ◌∙◌, IsOffsets, last_of, valid_values, places_from, mask_in, IsSpanWithin, spanned, ends_from, row_length, spans_fit, All}
use Rattle.arrow_select.proofs.SetBytes.{kept_end, kept_pieces}
use Rattle.arrow_select.proofs.filter.bytes.kept_parts.Goals as goal

pub copy_spans-requires : goal.copy_spans-requires
copy_spans-requires g c =
    let values = c.as_slice-values.result.now in
    let within : last_of c.offsets-rows.result.now ≤ length values = omega (arith, c.values.ensures.within, ap last_of c.offsets-rows.ensures, ap length (c.as_slice-values.ensures ∙ c.values.ensures.same)) in
    subst (All (IsSpanWithin (length values))) (sym c.deref.ensures.value) (spans_fit (last_of c.offsets-rows.result.now) (length values) c.in_ok-spans.spans.items within c.in_ok-spans.ensures.within)

pub returns-clause-rows : goal.returns-clause-rows
returns-clause-rows g c =
    let p = c.args.array.now.values in
    let mask = mask_in c.args.selection in
    let sound = subst IsOffsets c.offsets-rows.ensures c.len.ensures.sound in
    let lent = c.as_slice-values.ensures ∙ c.values.ensures.same in
    let within : last_of c.offsets-rows.result.now ≤ length c.as_slice-values.result.now = omega (arith, c.values.ensures.within, ap last_of c.offsets-rows.ensures, ap length lent) in
    let ends = c.in_ok-into_buffer.ensures.ok ∙ (c.in_ok-spans.ensures.ends ∙ ap (λ os. 0 ∷ ends_from 0 (map (row_length os) (places_from 0 mask))) c.offsets-rows.ensures) in
    let bytes = c.in_ok-bytes.ensures.ok ∙ (ap (spanned c.as_slice-values.result.now) c.deref.ensures.value ∙ (c.in_ok-spans.ensures.bytes c.as_slice-values.result.now within ∙ (λ i. valid_values mask (c.offsets-rows.ensures i) (lent i) 0))) in
    kept_pieces p.offsets p.bytes sound c.values.ensures.within mask c.requires.lengths c.in_ok-into_buffer.field-0 c.in_ok-bytes.bytes.items ends bytes

pub returns-clause-within : goal.returns-clause-within
returns-clause-within g c =
    let p = c.args.array.now.values in
    let mask = mask_in c.args.selection in
    let sound = subst IsOffsets c.offsets-rows.ensures c.len.ensures.sound in
    let lent = c.as_slice-values.ensures ∙ c.values.ensures.same in
    let within : last_of c.offsets-rows.result.now ≤ length c.as_slice-values.result.now = omega (arith, c.values.ensures.within, ap last_of c.offsets-rows.ensures, ap length lent) in
    let ends = c.in_ok-into_buffer.ensures.ok ∙ (c.in_ok-spans.ensures.ends ∙ ap (λ os. 0 ∷ ends_from 0 (map (row_length os) (places_from 0 mask))) c.offsets-rows.ensures) in
    let bytes = c.in_ok-bytes.ensures.ok ∙ (ap (spanned c.as_slice-values.result.now) c.deref.ensures.value ∙ (c.in_ok-spans.ensures.bytes c.as_slice-values.result.now within ∙ (λ i. valid_values mask (c.offsets-rows.ensures i) (lent i) 0))) in
    omega (arith, kept_end p.offsets p.bytes sound c.values.ensures.within mask c.requires.lengths c.in_ok-into_buffer.field-0 c.in_ok-bytes.bytes.items ends bytes)
