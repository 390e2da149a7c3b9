use Rattle.arrow_memory.proofs.Common.{rules, IfOk-weaker}
use Rattle.arrow_memory.proofs.GatherLemmas.{rows_by_words}
use Rattle.arrow_memory.proofs.bitmap.Bitmap.collect_bool.Goals as goal

pub returns-clause-ok : goal.returns-clause-ok
returns-clause-ok g c =
    IfOk-weaker c.collect_words.result _ _ (λ bits answers. rows_by_words _ _ c.args.len bits (λ j word answered. search rules) answers) c.collect_words.ensures.ok
