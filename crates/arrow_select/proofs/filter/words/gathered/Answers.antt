use Rattle.arrow_select.proofs.SetLemmas.{gathered_run, run_within}
use Rattle.arrow_select.proofs.filter.words.gathered.Goals as goal

pub run_of_bits-requires : goal.run_of_bits-requires
run_of_bits-requires c =
    record { some = c.in-Some.ensures.some; within = run_within c.in-Some.ensures 64 c.ranges.mask.fits }

pub returns-in-Some : goal.returns-in-Some
returns-in-Some c =
    gathered_run c.in-Some.ensures c.args.bits c.run_of_bits.result c.ranges.mask.fits c.run_of_bits.ensures
