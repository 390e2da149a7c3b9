use Rattle.std.proofs.Common.{arith, ap₂, ◌∙◌}
use Rattle.arrow_types.specs.Relation.{byte_order}
use Rattle.arrow_relate.proofs.AlikeLemmas.{by_byte, by_lengths}
use Rattle.arrow_relate.proofs.comparison.bytes.order.Goals as goal

pub returns-then-both-alike : goal.returns-then-both-alike
returns-then-both-alike c =
    c.cmp.ensures
    ∙ by_lengths c.left.inside.len c.right.inside.len c.left.inside.from.now c.right.inside.from.now c.left.invariant c.right.invariant (λ k from to. c.alike-alike.ensures.before k from (omega (arith, to, c.if-both-alike.true, c.min-both.ensures)))
    ∙ ap₂ byte_order c.left.view_is c.right.view_is

pub returns-then-alike-lt-BLOCK : goal.returns-then-alike-lt-BLOCK
returns-then-alike-lt-BLOCK c =
    c.cmp-then-alike-lt-BLOCK.ensures
    ∙ by_byte c.alike-alike.result c.left.inside.len c.right.inside.len c.left.inside.from.now c.right.inside.from.now (omega (arith, c.if-both-alike.false, c.min-both.ensures)) (omega (arith, c.if-both-alike.false, c.min-both.ensures)) (omega (arith, c.left.invariant, c.if-both-alike.false, c.min-both.ensures)) (omega (arith, c.right.invariant, c.if-both-alike.false, c.min-both.ensures)) c.alike-alike.ensures.before (c.alike-alike.ensures.hit (omega (arith, c.if-alike-lt-BLOCK.true)))
    ∙ ap₂ byte_order c.left.view_is c.right.view_is
