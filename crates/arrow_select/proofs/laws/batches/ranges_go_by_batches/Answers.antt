use Rattle.arrow_select.proofs.BatchRanges.{ranges_behind}
use Rattle.arrow_select.proofs.laws.batches.ranges_go_by_batches.Goals as goal

pub returns : goal.returns
returns c = ranges_behind c.args.first_ranges.now c.args.second_ranges.now c.args.first.now c.args.second.now c.requires.0 c.requires.1
