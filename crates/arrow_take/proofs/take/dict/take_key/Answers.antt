use Rattle.arrow_take.proofs.Common.{◌≡◌, ap, map, subst, IfOk, rows_by, is_counted, null_of_counted}
use Rattle.arrow_take.proofs.TakenKeys.{gather_null}
use Rattle.arrow_take.proofs.take.dict.take_key.Goals as goal

pub returns-clause-ok : goal.returns-clause-ok
returns-clause-ok g c =
    let none = null_of_counted c.args.keys.now.arrow_type (ap is_counted c.data_type.ensures.kind) in
    subst (λ rows. IfOk c.take.result (λ taken. rows_by (map g.K.NativeType.slot) taken ≡ rows)) (gather_null (rows_by (map g.K.NativeType.slot) c.args.keys.now) c.args.keys.now.arrow_type none (rows_by (map g.I.NativeType.slot) c.args.indices.now)) c.take.ensures.rows
