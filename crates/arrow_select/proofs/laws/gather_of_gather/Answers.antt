use Rattle.arrow_select.proofs.Common.{ap, map, rows_by, any_array_rows, any_array_type, is_counted, null_of_counted}
use Rattle.arrow_select.proofs.LawLemmas.{gather-gather}
use Rattle.arrow_select.proofs.laws.gather_of_gather.Goals as goal

pub returns : goal.returns
returns g c =
    gather-gather (any_array_rows c.args.array.now) (rows_by (map g.I.NativeType.slot) c.args.first.now) (rows_by (map g.J.NativeType.slot) c.args.second.now) (any_array_type c.args.array.now) c.args.first.now.arrow_type (null_of_counted c.args.first.now.arrow_type (ap is_counted c.data_type.ensures.kind)) c.requires.inside
