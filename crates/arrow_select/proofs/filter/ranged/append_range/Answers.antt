use Rattle.arrow_select.proofs.Common.{rules, arith, ◌≡◌, ◌+◌, ◌-◌, length}
use Rattle.arrow_select.proofs.RangedLemmas.{block_cut}
use Rattle.arrow_select.proofs.filter.ranged.append_range.Goals as goal

pub returns-then-capacity-done-ge-BLOCK-clause-ok : goal.returns-then-capacity-done-ge-BLOCK-clause-ok
returns-then-capacity-done-ge-BLOCK-clause-ok g c =
    let place : c.len-done.result ≡ length c.args.out.now.items = search rules in
    block_cut c.args.out.now.items c.args.values.now _ _ c.len-done.result c.args.start c.args.len 16 (c.args.start + 16 - c.args.start) place c.if-len-le-BLOCK.true (omega arith) c.in-Ok.ensures.items c.truncate.ensures.items
