use Rattle.arrow_select.proofs.EdgeLemmas.{dense_fits, dense_passes}
use Rattle.arrow_select.proofs.laws.dense_union_holds.Goals as goal

pub returns : goal.returns
returns c = record { fits = λ few. dense_fits c.args.count few; passes = λ many fits. dense_passes c.args.count many fits }
