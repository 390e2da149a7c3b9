use Rattle.arrow_select.proofs.Common.{arith, ones_le_self}
use Rattle.arrow_select.proofs.SetLemmas.{lowest_within, run_of_ones}
use Rattle.arrow_select.proofs.filter.words.long_run.Goals as goal

pub overflow_shr-word : goal.overflow_shr-word
overflow_shr-word c =
    lowest_within c.args.word 64 (omega (arith, c.if-ones-lt-LONG_RUN.false, ones_le_self c.args.word)) c.ranges.word.fits c.ranges.word.fits

pub returns : goal.returns
returns c = run_of_ones c.args.word (omega (arith, c.if-ones-lt-LONG_RUN.false)) c.ranges.word.fits c.if-word-first.false
