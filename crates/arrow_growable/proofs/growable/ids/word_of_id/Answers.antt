use Rattle.arrow_growable.proofs.Common.{arith, ◌+◌, ◌≤◌, length, of_z, to_z, w8}
use Rattle.arrow_growable.proofs.IdLemmas.{block_more, id_more}
use Rattle.arrow_growable.proofs.growable.ids.word_of_id.Goals as goal

pub loop-row-preserved : goal.loop-row-preserved
loop-row-preserved c =
    let within : c.loop-row.row + 16 ≤ length c.args.types.now = omega (arith, c.loop-row-test.true, c.loop-row.invariant.0) in
    (within, block_more (to_z w8 (of_z w8 c.args.id)) c.args.types.now c.loop-row.row c.loop-row.word c.block_of_id.result _ within c.requires c.loop-row.invariant.1 (omega arith) c.block_of_id.ensures)

pub loop-row-2-preserved : goal.loop-row-2-preserved
loop-row-2-preserved c =
    let id = to_z w8 (of_z w8 c.args.id) in
    (omega (arith, c.loop-row-2-test.true), id_more id c.args.types.now c.loop-row-2.row c.loop-row-2.word c.from.result c.has_id.result id (omega (arith, c.loop-row-2-test.true)) c.requires c.loop-row-2.invariant.1 c.has_id.ensures c.from.ensures)
