use Rattle.std.proofs.Common.{arith, rules}
use Rattle.arrow_types.proofs.TypeLemmas.{length_same, field_of_same}
use Rattle.arrow_types.proofs.datatypes.equal.+equal.Goals as goal

pub equal_children-returns-then-left-right : goal.equal_children-returns-then-left-right
equal_children-returns-then-left-right t c =
    (λ h. absurd (search rules), λ same. absurd (c.if-left-right.true (length_same c.args.left.now c.args.right.now same)))

pub equal_children-returns-then-not-equal_fields : goal.equal_children-returns-then-not-equal_fields
equal_children-returns-then-not-equal_fields t c =
    let a = c.index-left-i in
    let b = c.index-right-i in (
      λ h. absurd (search rules),
      λ same.
          let equal = c.equal_fields.ensures.1 (field_of_same c.args.left.now c.args.right.now c.loop-i.i a.result b.result (omega arith) (omega arith) a.is b.is same) in
          absurd (search rules),
    )
