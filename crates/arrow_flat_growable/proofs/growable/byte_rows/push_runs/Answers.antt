use Rattle.arrow_flat_growable.proofs.Common.{arith, [], get_or, valid_values}
use Rattle.arrow_flat_growable.proofs.PartLemmas.{run_more}
use Rattle.arrow_flat_growable.proofs.ValidRowLemmas.{run_long}
use Rattle.arrow_flat_growable.proofs.growable.byte_rows.push_runs.Goals as goal

pub loop-row-preserved : goal.loop-row-preserved
loop-row-preserved g c =
    let others = c.args.rows.now in
    let row = c.loop-row.row in
    let nulls = c.next_set-nulls.result.0 in
    let count = c.next_set-nulls.result.1 in
    let before = c.loop-row.invariant in
    let bits = c.next_set-nulls.ensures.bits in
    let long = run_long nulls count c.loop-row.left c.next_set-nulls.new.self bits in
    (omega (arith, before.0, long), omega (arith, before.1, c.push_reserved.ensures.len, c.push_reserved.ensures.capacity, c.next_set-nulls.ensures.some, before.0, long), λ sources there within. run_more sources c.args.index others there c.len.ensures.sound within c.args.parts.now.items c.loop-row.parts.items c.push_reserved.new.self.items (valid_values c.args.runs others (get_or sources c.args.index []) c.args.start) nulls count row c.range-first.result.0 c.range-first.result.1 c.loop-row.left c.next_set-nulls.new.self bits (omega (arith, before.0, c.requires.part)) c.range-first.ensures.start c.range-first.ensures.end c.push_reserved.ensures.items (before.2 sources there within))
