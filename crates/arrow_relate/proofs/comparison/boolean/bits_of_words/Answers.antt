use Rattle.std.proofs.Common.{rules}
use Rattle.std.proofs.lemmas.Result.{IfOk-weaker}
use Rattle.arrow_relate.proofs.ChunkLemmas.{chunks_are_words}
use Rattle.arrow_relate.proofs.comparison.boolean.bits_of_words.Goals as goal

pub returns-clause-ok : goal.returns-clause-ok
returns-clause-ok g c =
    IfOk-weaker c.collect_words.result _ _ (λ bits answers. chunks_are_words _ _ c.len.result _ bits c.len.ensures (λ j word answered. search rules) answers) c.collect_words.ensures.ok
