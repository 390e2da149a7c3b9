use Rattle.std.proofs.Common.{◌*◌, arith}
use Rattle.arrow_relate.proofs.ChunkLemmas.{bytes_more, bytes_none}
use Rattle.arrow_relate.proofs.comparison.chunked.word_of_chunks.Goals as goal

pub loop-k-init : goal.loop-k-init
loop-k-init g c = bytes_none _ (8 * c.args.j)

pub loop-k-preserved : goal.loop-k-preserved
loop-k-preserved g c =
    rw c.from.ensures (bytes_more _ (8 * c.args.j) c.loop-k.k c.loop-k.word c.answer_at.result (omega (arith, c.loop-k-test.true, c.min-k-end.ensures)) c.answer_at.type_inv c.loop-k.invariant c.answer_at.ensures)
