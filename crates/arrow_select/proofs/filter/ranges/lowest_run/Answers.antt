use Rattle.arrow_select.proofs.Common.{◌-◌, ◌+◌, ◌%◌, ◌^◌, bit_and, bit_or, subst, sym, w64, trailing_zeros, IsLowestRun}
use Rattle.arrow_select.proofs.RunBits.{lowest_run}
use Rattle.arrow_select.proofs.filter.ranges.lowest_run.Goals as goal

pub returns : goal.returns
returns c =
    let word = c.args.word in
    subst (λ end. IsLowestRun word (trailing_zeros w64 word) end (bit_and word ((bit_or word (word - 1) + 1) % 2 ^ 64))) (sym c.trailing_ones-end.ensures) (lowest_run word c.requires c.ranges.word.fits)
