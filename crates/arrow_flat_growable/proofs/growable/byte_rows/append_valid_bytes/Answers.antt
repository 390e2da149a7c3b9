use Rattle.arrow_flat_growable.proofs.Common.{arith, ◌∙◌, ◌+◌, ◌-◌, ◌++◌, slice_index, ap, sliced, valid_values}
use Rattle.std.proofs.lemmas.List.{append_assoc}
use Rattle.arrow_flat_growable.proofs.ValidRowLemmas.{run_copied, run_long}
use Rattle.arrow_flat_growable.proofs.growable.byte_rows.append_valid_bytes.Goals as goal

pub loop-row-preserved : goal.loop-row-preserved
loop-row-preserved g c =
    let others = c.args.rows.now in
    let values = c.args.values.now in
    let row = c.loop-row.row in
    let nulls = c.next_set-nulls.result.0 in
    let count = c.next_set-nulls.result.1 in
    let first = slice_index others (row + nulls) in
    let part = sliced values first (slice_index others (row + nulls + count) - first) in
    let before = c.loop-row.invariant in
    let long = run_long nulls count c.loop-row.left c.next_set-nulls.new.self c.next_set-nulls.ensures.bits in
    let begins = before.1 in
    let grown = c.in_ok-append_bytes.ensures.ok in
    (omega (arith, before.0, long), (begins.0 ++ part, grown ∙ (ap (λ ys. ys ++ part) begins.1 ∙ append_assoc c.args.bytes.now.items begins.0 part)), run_copied others values c.len.ensures.sound c.requires.within nulls count c.loop-row.left c.next_set-nulls.new.self row c.next_set-nulls.ensures.bits (omega (arith, before.0, c.requires.part)) (c.args.bytes.now.items ++ valid_values (sliced c.args.validity.now c.args.start c.args.len) others values c.args.start) c.loop-row.bytes.items c.append_bytes.new.bytes.items grown before.2)
