use Rattle.arrow_take.proofs.Common.{◌≡◌, take, spanned}
use Rattle.arrow_take.proofs.spans.copy_spans.Given as goal

-- the bytes of the spans so far
abbrev pub invariant-loop-first : goal.invariant-loop-first
invariant-loop-first l = l.bytes.items ≡ spanned l.from (take l.first-index l.spans)
