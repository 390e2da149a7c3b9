use Rattle.arrow_flat_growable.proofs.Common.{arith, rules, ◌∙◌, ◌+◌, ◌++◌, ap, AreEmptyNulls}
use Rattle.arrow_flat_growable.proofs.EmptyNullLemmas.{same_count, same_offsets, same_values}
use Rattle.arrow_flat_growable.proofs.ResultLemmas.{on_ok}
use Rattle.arrow_flat_growable.proofs.growable.byte_rows.copy_valid_rows.Goals as goal

pub returns-then-are_nulls_empty-clause-ok : goal.returns-then-are_nulls_empty-clause-ok
returns-then-are_nulls_empty-clause-ok g c =
    let rows = c.args.rows.now in
    let values = c.args.values.now in
    let bits = c.args.validity.now in
    let start = c.args.start in
    let len = c.args.len in
    let asked = c.requires in
    let held = c.copy_rows.ensures.rows_sound in
    let empty : AreEmptyNulls bits rows start (start + len) = search (rules, c.if-are_nulls_empty.ensures) in
    on_ok c.copy_rows.result c.copy_rows.ensures.ok (λ is. (is.0 ∙ same_offsets rows values held asked.within bits start len asked.part asked.covered empty c.args.offsets.now, is.1 ∙ ap (λ ys. c.args.bytes.now.1 ++ ys) (same_values rows values held asked.within bits start len asked.part asked.covered empty)))

pub returns-then-are_nulls_empty-clause-overflow : goal.returns-then-are_nulls_empty-clause-overflow
returns-then-are_nulls_empty-clause-overflow g c over =
    let rows = c.args.rows.now in
    let bits = c.args.validity.now in
    let start = c.args.start in
    let len = c.args.len in
    let asked = c.requires in
    let empty : AreEmptyNulls bits rows start (start + len) = search (rules, c.if-are_nulls_empty.ensures) in
    omega (arith, c.copy_rows.ensures.overflow over, same_count rows c.args.values.now c.copy_rows.ensures.rows_sound asked.within bits start len asked.part asked.covered empty)
