use Rattle.arrow_memory.proofs.Common.{◌∙◌, ap, subst, sym, min, w64, trailing_zeros, IsLowRun}
use Rattle.arrow_memory.proofs.RunLemmas.{low_ones, low_zeros}
use Rattle.arrow_memory.proofs.words.low_run.Goals as goal
use Rattle.arrow_memory.proofs.words.low_run.Goals.{then-bit, else-bit}

pub returns : goal.returns
returns c =
    let word = c.args.word in
    let count = c.args.count in
    let run = c.min.result in
    elim c.if-bit.branch as (λ _. IsLowRun word count c.args.bit run) [
      | then-bit w ↦
          let found = c.min.ensures ∙ ap (λ others. min count (trailing_zeros w64 others)) w.others-is in
          subst (λ bit. IsLowRun word count bit run) (sym w.if-bit.true) (low_ones word count run c.ranges.word.fits c.requires found)
      | else-bit w ↦
          let found = c.min.ensures ∙ ap (λ others. min count (trailing_zeros w64 others)) w.others-is in
          subst (λ bit. IsLowRun word count bit run) (sym w.if-bit.false) (low_zeros word count run c.ranges.word.fits c.requires found)
    ]
