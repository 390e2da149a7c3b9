use Rattle.arrow_choice.proofs.Common.{arith, ◌<◌, ◌++◌, ◌∙◌, Err, ap, length, sym, append-nil, with_row, length-pieces, on_ok, passed_on, pieces}
use Rattle.arrow_choice.proofs.ChosenRows.{row_counted, row_taken}
use Rattle.arrow_choice.proofs.if_then_else.bytes.append_row.Goals as goal

pub returns-in_err-try_push_usize-clause-overflow : goal.returns-in_err-try_push_usize-clause-overflow
returns-in_err-try_push_usize-clause-overflow g c overflows =
    let os = c.args.rows.now in
    let bytes = c.args.values.now in
    let over = c.in_err-try_push_usize.ensures.overflow.0 (ap Err (passed_on c.from_residual.result _ _ c.from_residual.ensures.1 overflows)) in
    let count = row_counted os bytes c.args.row _ _ (omega (arith, c.requires.row, length-pieces os bytes)) c.start_end-first.ensures.start c.start_end-first.ensures.end c.args.is_valid c.end_if-end.result c.end_if-end.ensures c.start_end-first.ensures.rises (omega (arith, c.start_end-first.ensures.within, c.requires.within)) in
    omega (arith, over, count)

pub returns-clause-ok : goal.returns-clause-ok
returns-clause-ok g c =
    let os = c.args.rows.now in
    let bytes = c.args.values.now in
    let within : c.args.row < length (pieces os bytes) = omega (arith, c.requires.row, length-pieces os bytes) in
    let row = row_taken os bytes c.args.row _ _ within c.start_end-first.ensures.start c.start_end-first.ensures.end c.args.is_valid c.end_if-end.result c.end_if-end.ensures in
    let count = row_counted os bytes c.args.row _ _ within c.start_end-first.ensures.start c.start_end-first.ensures.end c.args.is_valid c.end_if-end.result c.end_if-end.ensures c.start_end-first.ensures.rises (omega (arith, c.start_end-first.ensures.within, c.requires.within)) in
    on_ok c.append_span.result c.append_span.ensures.ok (λ copied. record {
      ends = c.in_ok-try_push_usize.ensures.ok ∙ ap (with_row c.args.offsets.now) (sym count);
      items = copied ∙ ap (λ bs. c.args.bytes.now.items ++ bs) (sym row ∙ sym (append-nil _));
    })
