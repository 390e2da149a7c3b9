use Rattle.arrow_take.proofs.Common.{◌≡◌, ◌+◌, ◌++◌, ◌∙◌, ap, arith, get_or, suc, sym, take, take-suc, span_bytes}
use Rattle.arrow_take.proofs.SpanLemmas.{spanned_more}
use Rattle.arrow_take.proofs.spans.copy_spans.Goals as goal

pub loop-first-preserved : goal.loop-first-preserved
loop-first-preserved c =
    let from = c.args.from.now in
    let spans = c.args.spans.now in
    let i = c.loop-first.first-index in
    let span = get_or spans i (0, 0) in
    let next : i + 1 ≡ suc i = omega arith in
    let one = ap (λ n. take n spans) next ∙ take-suc spans i (0, 0) c.loop-first-test.true in
    c.in_ok-append_span.ensures.ok ∙ (ap (λ bs. bs ++ span_bytes from span) c.loop-first.invariant ∙ sym (spanned_more from (take i spans) (take (i + 1) spans) span one))
