use Rattle.arrow_flat_growable.proofs.Common.{arith, ◌∙◌, ◌++◌, ap, sym, subst, map, row_bytes, total, Waits, waiting_rows}
use Rattle.arrow_arrays.proofs.ColumnLemmas.{only_memory}
use Rattle.arrow_flat_growable.proofs.ResultLemmas.{on_ok}
use Rattle.arrow_flat_growable.proofs.WaitingLemmas.{bound_at, under_bits}
use Rattle.arrow_flat_growable.proofs.growable.waiting.append_rows.Goals as goal

pub append_under-requires-clause-within : goal.append_under-requires-clause-within
append_under-requires-clause-within g c =
    let parts = map (λ x. x.values) c.args.arrays.now in
    let p = c.in-Under in
    let array = c.index-arrays-index-in-Under in
    let waits = subst (Waits parts) p.is c.requires.wait in
    (under_bits parts array.result.values p.index p.start p.len p.word c.from_word.result waits.0 (bound_at (λ x. x.values) c.args.arrays.now p.index array.result waits.0.bound array.is) c.from_word.ensures).0

pub returns-in-Under-clause-ok : goal.returns-in-Under-clause-ok
returns-in-Under-clause-ok g c =
    let parts = map (λ x. x.values) c.args.arrays.now in
    let p = c.in-Under in
    let array = c.index-arrays-index-in-Under in
    let waits = subst (Waits parts) p.is c.requires.wait in
    let same = (under_bits parts array.result.values p.index p.start p.len p.word c.from_word.result waits.0 (bound_at (λ x. x.values) c.args.arrays.now p.index array.result waits.0.bound array.is) c.from_word.ensures).1 in
    on_ok c.append_under-in-Under.result c.append_under-in-Under.ensures.ok (λ is. is ∙ ap (λ xs. row_bytes c.args.rows.now.1 ++ xs) (sym (ap (waiting_rows parts) p.is ∙ same)))

pub returns-in-Under-clause-err : goal.returns-in-Under-clause-err
returns-in-Under-clause-err g c =
    let parts = map (λ x. x.values) c.args.arrays.now in
    let p = c.in-Under in
    let array = c.index-arrays-index-in-Under in
    let waits = subst (Waits parts) p.is c.requires.wait in
    let same = (under_bits parts array.result.values p.index p.start p.len p.word c.from_word.result waits.0 (bound_at (λ x. x.values) c.args.arrays.now p.index array.result waits.0.bound array.is) c.from_word.ensures).1 in
    only_memory c.append_under-in-Under.result c.append_under-in-Under.ensures.others (λ over. absurd (omega (arith, c.append_under-in-Under.ensures.overflow over, c.requires.few, ap (λ xs. total (row_bytes c.args.rows.now.1 ++ xs)) (ap (waiting_rows parts) p.is ∙ same))))
