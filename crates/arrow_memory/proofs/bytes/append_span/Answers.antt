use Rattle.arrow_memory.proofs.Common.{rules, ◌≡◌, ◌+◌, ◌-◌, ◌++◌, ◌∙◌, ap, drop, length, take, arith, take-append-add, take-take}
use Rattle.arrow_memory.proofs.bytes.append_span.Goals as goal

pub returns-then-block-capacity-clause-ok : goal.returns-then-block-capacity-clause-ok
returns-then-block-capacity-clause-ok c =
    let old = c.args.bytes.now.items in
    let first = c.args.first in
    let count = c.args.end - first in
    let block = c.args.block in
    let rest = drop first c.args.from.now in
    let place : c.len-done.result ≡ length old = search rules in
    let long : first + block - first ≡ block = omega arith in
    let put : c.extend_from_slice.new.self.items ≡ old ++ take block rest = c.in-Ok.ensures.items ∙ ap (λ n. old ++ take n rest) long in
    c.truncate.ensures.items ∙ ((λ i. take (place i + count) (put i)) ∙ (take-append-add old (take block rest) count ∙ ap (λ xs. old ++ xs) (take-take count block rest c.if-count-block.true)))
