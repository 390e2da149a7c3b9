use Rattle.std.proofs.Common.{arith, ap₂, ◌∙◌}
use Rattle.std.specs.Ordering.{is_eq}
use Rattle.arrow_types.specs.Relation.{byte_order}
use Rattle.arrow_relate.proofs.AlikeLemmas.{other_lengths, rows_differ, rows_equal}
use Rattle.arrow_relate.proofs.comparison.bytes.are_equal.Goals as goal

pub returns-then-left-right : goal.returns-then-left-right
returns-then-left-right c =
    other_lengths c.left.inside.len c.right.inside.len c.left.inside.from.now c.right.inside.from.now c.left.invariant c.right.invariant c.if-left-right.true
    ∙ ap₂ (λ l r. is_eq (byte_order l r)) c.left.view_is c.right.view_is

pub returns-then-left-alike : goal.returns-then-left-alike
returns-then-left-alike c =
    rows_equal c.left.inside.len c.right.inside.len c.alike-alike.result c.left.inside.from.now c.right.inside.from.now c.left.invariant c.right.invariant (omega (arith, c.if-left-right.false)) c.if-left-alike.true c.alike-alike.ensures.before
    ∙ ap₂ (λ l r. is_eq (byte_order l r)) c.left.view_is c.right.view_is

pub returns-then-alike-lt-BLOCK : goal.returns-then-alike-lt-BLOCK
returns-then-alike-lt-BLOCK c =
    rows_differ c.alike-alike.result c.left.inside.len c.right.inside.len c.left.inside.from.now c.right.inside.from.now (omega (arith, c.if-left-alike.false)) (omega (arith, c.if-left-right.false, c.if-left-alike.false)) c.left.invariant c.right.invariant c.alike-alike.ensures.before (c.alike-alike.ensures.hit (omega (arith, c.if-alike-lt-BLOCK.true)))
    ∙ ap₂ (λ l r. is_eq (byte_order l r)) c.left.view_is c.right.view_is
