use Rattle.std.proofs.Common.{◌*◌}
use Rattle.arrow_relate.specs.Chunked.{GathersBytes, answers_chunk}
use Rattle.arrow_relate.proofs.comparison.chunked.word_of_chunks.Given as goal

-- the bytes so far
abbrev pub invariant-loop-k : goal.invariant-loop-k
invariant-loop-k g l =
    GathersBytes (answers_chunk (goal.F-post g l.op) g.T.NativeType.zero l.stored l.scalar) (8 * l.j) l.k l.word
