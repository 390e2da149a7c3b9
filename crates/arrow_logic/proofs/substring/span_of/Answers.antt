use Rattle.arrow_logic.proofs.Common.{◌≡◌, ◌-◌, ◌∙◌, [], ap, arith, subst, sym, take, rules, SFits, w64, to_z, of_z, to_z-of_z, take_rest, sliced, byte_slots, FitsRows, length-masked, length-byte_slots, length-pieces, IsCutByBytes}
use Rattle.arrow_logic.proofs.PartLemmas.{part_moved, part_of_null, part_of_row, row_read}
use Rattle.arrow_logic.proofs.substring.span_of.Goals as goal

pub is_valid-requires : goal.is_valid-requires
is_valid-requires g c =
    let slots = byte_slots g.K.ByteKind.slot c.args.rows.now.values in
    let long = length-byte_slots g.K.ByteKind.slot c.args.rows.now.values in
    let fits = subst (FitsRows c.args.rows.now.validity) (sym long) c.requires.fits in
    omega (arith, length-masked c.args.rows.now.validity slots fits, long, c.requires.within)

pub returns-then-not-is_valid-clause-part : goal.returns-then-not-is_valid-clause-part
returns-then-not-is_valid-clause-part g c =
    let values = c.args.rows.now.values in
    part_of_null (g.K.Units.cut c.args.start c.args.count) c.args.rows.now.validity values.offsets values.bytes c.args.row c.requires.within c.requires.fits c.is_valid.result c.is_valid.ensures.bit c.if-not-is_valid.true

pub span_in-first-requires-clause-allowed : goal.span_in-first-requires-clause-allowed
span_in-first-requires-clause-allowed g c =
    let values = c.args.rows.now.values in
    let row = ap (take (c.start_end-begin.result.1 - c.start_end-begin.result.0)) (take_rest c.as_slice.result.now c.start_end-begin.result.0) ∙ row_read values.offsets c.offsets.result.now values.bytes c.as_slice.result.now c.args.row c.start_end-begin.result.0 c.start_end-begin.result.1 c.offsets.ensures (c.as_slice.ensures ∙ c.values.ensures.same) c.start_end-begin.ensures.start c.start_end-begin.ensures.end c.requires.within in
    subst g.K.ByteKind.Allows (sym row) (c.values.ensures.allowed c.args.row [] (omega (arith, length-pieces values.offsets values.bytes, c.requires.within)))

pub span_in-first-requires-clause-by_bytes : goal.span_in-first-requires-clause-by_bytes
span_in-first-requires-clause-by_bytes g c = λ told.
    let values = c.args.rows.now.values in
    let row = ap (take (c.start_end-begin.result.1 - c.start_end-begin.result.0)) (take_rest c.as_slice.result.now c.start_end-begin.result.0) ∙ row_read values.offsets c.offsets.result.now values.bytes c.as_slice.result.now c.args.row c.start_end-begin.result.0 c.start_end-begin.result.1 c.offsets.ensures (c.as_slice.ensures ∙ c.values.ensures.same) c.start_end-begin.ensures.start c.start_end-begin.ensures.end c.requires.within in
    subst (IsCutByBytes g.K.Units.cut) (sym row) (c.requires.by_bytes told c.args.row [] (omega (arith, length-pieces values.offsets values.bytes, c.requires.within)))

pub returns-clause-part : goal.returns-clause-part
returns-clause-part g c =
    let values = c.args.rows.now.values in
    let row = row_read values.offsets c.offsets.result.now values.bytes c.as_slice.result.now c.args.row c.start_end-begin.result.0 c.start_end-begin.result.1 c.offsets.ensures (c.as_slice.ensures ∙ c.values.ensures.same) c.start_end-begin.ensures.start c.start_end-begin.ensures.end c.requires.within in
    let fits : SFits w64 c.args.start = search rules in
    let start : to_z w64 (of_z w64 c.args.start) ≡ c.args.start = to_z-of_z w64 c.args.start fits in
    let part = subst (λ xs. sliced (take (c.start_end-begin.result.1 - c.start_end-begin.result.0) xs) c.span_in-first.result.0 (c.span_in-first.result.1 - c.span_in-first.result.0) ≡ g.K.Units.cut (to_z w64 (of_z w64 c.args.start)) c.args.count (take (c.start_end-begin.result.1 - c.start_end-begin.result.0) xs)) (take_rest c.as_slice.result.now c.start_end-begin.result.0) c.span_in-first.ensures.part in
    let moved = part_moved c.as_slice.result.now values.bytes c.start_end-begin.result.0 c.start_end-begin.result.1 c.span_in-first.result.0 c.span_in-first.result.1 (c.as_slice.ensures ∙ c.values.ensures.same) c.span_in-first.ensures.rises c.span_in-first.ensures.within in
    moved ∙ part_of_row (g.K.Units.cut c.args.start c.args.count) c.args.rows.now.validity values.offsets values.bytes c.args.row c.requires.within c.requires.fits c.is_valid.result _ _ c.is_valid.ensures.bit c.if-not-is_valid.false row (part ∙ ap (λ z. g.K.Units.cut z c.args.count (sliced c.as_slice.result.now c.start_end-begin.result.0 (c.start_end-begin.result.1 - c.start_end-begin.result.0))) start)
