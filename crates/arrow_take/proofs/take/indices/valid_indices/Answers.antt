use Rattle.arrow_take.proofs.Common.{◌≡◌, ◌∙◌, ap, map, rules, option_copied, rows_by, with_bits}
use Rattle.arrow_take.proofs.IndexLemmas.{indices_valid}
use Rattle.arrow_take.proofs.take.indices.valid_indices.Goals as goal

pub returns-clause-ok : goal.returns-clause-ok
returns-clause-ok g c =
    let is : c.with_validity.result ≡ with_bits c.args.indices.now c.args.taken.now = search rules in
    ap (rows_by (map g.I.NativeType.slot)) is ∙ indices_valid (option_copied c.args.validity) c.args.indices.now.validity c.args.taken.now (map g.I.NativeType.slot c.args.indices.now.values) c.validity.ensures.fits c.requires
