use Rattle.arrow_take.proofs.Common.{◌∙◌, ap, arith, length, map, subst, sym, All, ints, IsOffsets, last_of, rows_by, IsSpanWithin, spanned, span_length, ends_last}
use Rattle.arrow_take.proofs.TakenBytes.{NamesBytes, spanned_by_index, spans_within}
use Rattle.arrow_take.proofs.take.bytes.take_rows.Goals as goal

pub copy_spans-requires : goal.copy_spans-requires
copy_spans-requires g c =
    let os = c.args.values.now.values.offsets in
    let bytes = c.args.values.now.values.bytes in
    let names : NamesBytes os bytes (rows_by (map g.I.NativeType.slot) c.args.indices.now) = record { sound = subst IsOffsets c.offsets.ensures c.len.ensures.sound; within = c.values.ensures.within; keys = c.requires } in
    let lent = c.as_slice.ensures ∙ c.values.ensures.same in
    let spans = c.deref.ensures.value ∙ c.in_ok-spans.ensures.spans in
    subst (λ bs. All (IsSpanWithin (length bs)) c.deref.result.now) (sym lent) (subst (All (IsSpanWithin (length bytes))) (sym spans) (spans_within names c.args.values.now.validity))

pub returns-clause-bytes : goal.returns-clause-bytes
returns-clause-bytes g c =
    let v = c.args.values.now.validity in
    let os = c.args.values.now.values.offsets in
    let lent = c.as_slice.ensures ∙ c.values.ensures.same in
    let spans = c.deref.ensures.value ∙ c.in_ok-spans.ensures.spans in
    c.in_ok-bytes.ensures.ok ∙ ((λ i. spanned (lent i) (spans i)) ∙ spanned_by_index v os c.args.values.now.values.bytes (rows_by (map g.I.NativeType.slot) c.args.indices.now))

pub returns-clause-few : goal.returns-clause-few
returns-clause-few g c =
    let lengths = map (span_length c.args.values.now.validity c.args.values.now.values.offsets) (rows_by (map g.I.NativeType.slot) c.args.indices.now) in
    let last = ap last_of c.in_ok-spans.ensures.offsets ∙ ends_last 0 lengths in
    omega (arith, ints, c.to_usize-total.ensures.value, c.to_usize-total.ensures.at_most_greatest, c.last.ensures, last)
