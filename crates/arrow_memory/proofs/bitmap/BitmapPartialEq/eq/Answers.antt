use Rattle.arrow_memory.proofs.Common.{sym, ◌∙◌}
use Rattle.arrow_memory.proofs.BitmapLemmas.{all_decide}
use Rattle.arrow_memory.proofs.bitmap.BitmapPartialEq.eq.Goals as goal

pub returns-then-len-clause-value : goal.returns-then-len-clause-value
returns-then-len-clause-value c =
    all_decide c.args.self.now c.args.other.now c.len-len.result c.equal_range.result (sym c.len-len.ensures) (sym c.len.ensures ∙ sym c.if-len.true) c.equal_range.ensures
