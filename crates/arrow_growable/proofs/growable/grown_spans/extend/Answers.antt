use Rattle.arrow_growable.proofs.Common.{◌∙◌, arith, on_ok}
use Rattle.arrow_growable.proofs.CountLemmas.{all_items_of, all_rows_of}
use Rattle.arrow_growable.proofs.growable.grown_spans.extend.Goals as goal

pub returns-in-None-clause-ok : goal.returns-in-None-clause-ok
returns-in-None-clause-ok g c =
    rw c.in-None.is (on_ok c.try_extend_from_slice.result c.try_extend_from_slice.ensures.ok (λ is. is ∙ all_rows_of c.args.offsets.now c.args.others.now c.args.start c.args.len c.len.ensures.sound c.requires.part))

pub returns-in-None-clause-overflow : goal.returns-in-None-clause-overflow
returns-in-None-clause-overflow g c overflows =
    let items = all_items_of c.args.len c.args.others.now c.args.start c.len.ensures.sound c.requires.part in
    rw c.in-None.is (omega (arith, items, c.try_extend_from_slice.ensures.overflow.0 overflows))
