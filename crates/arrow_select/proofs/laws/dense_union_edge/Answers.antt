use Rattle.arrow_select.proofs.Common.{◌<◌, ◌^◌, arith}
use Rattle.arrow_select.proofs.EdgeLemmas.{dense_fits, dense_passes}
use Rattle.arrow_select.proofs.laws.dense_union_edge.Goals as goal

pub returns : goal.returns
returns c =
    let more : 2 ^ 31 < 2147483649 = omega arith in
    record { fits = dense_fits 2147483648 (omega arith); passes = dense_passes 2147483649 more }
