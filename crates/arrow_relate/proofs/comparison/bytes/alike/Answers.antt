use Rattle.std.proofs.Common.{arith, refl}
use Rattle.arrow_relate.proofs.AlikeLemmas.{all_alike, first_apart}
use Rattle.arrow_relate.proofs.comparison.bytes.alike.Goals as goal

pub returns-then-differ-eq0 : goal.returns-then-differ-eq0
returns-then-differ-eq0 c = all_alike c.args.left.now c.args.right.now c.requires.left c.requires.right c.if-differ-eq0.true

pub returns : goal.returns
returns c = first_apart c.args.left.now c.args.right.now c.requires.left c.requires.right _ refl (omega (arith, c.if-differ-eq0.false))
