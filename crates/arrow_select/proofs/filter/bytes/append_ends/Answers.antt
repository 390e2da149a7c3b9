use Rattle.arrow_select.proofs.Common.{arith, ◌++◌, ap, ◌∙◌, last_of, only_memory, on_ok, counted_ends}
use Rattle.arrow_select.proofs.filter.bytes.append_ends.Goals as goal

pub returns-clause-ok : goal.returns-clause-ok
returns-clause-ok g c =
    let ends = c.args.ends.now in
    let same = counted_ends c.args.rows.now c.args.start c.args.len (last_of ends) c.len.ensures.sound c.requires.part in
    on_ok c.try_extend_from_slice.result c.try_extend_from_slice.ensures.ok (λ is. is ∙ ap (λ es. ends ++ es) same)

pub returns-clause-err : goal.returns-clause-err
returns-clause-err g c =
    only_memory c.try_extend_from_slice.result c.try_extend_from_slice.ensures.others (λ over. absurd (omega (arith, c.requires.fits, c.try_extend_from_slice.ensures.overflow.0 over)))
