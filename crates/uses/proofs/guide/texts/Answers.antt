use Rattle.uses.proofs.Common.{Err, Text, [], ap, arith, map, passed_on, texts_in}
use Rattle.uses.proofs.TextLemmas.{AreRows, bytes_so_far, stored_next, stored_rows}
use Rattle.uses.proofs.guide.texts.Goals as goal
use Rattle.uses.proofs.guide.texts.Goals.{In_ok-bytes}

pub loop-row-preserved : goal.loop-row-preserved
loop-row-preserved c =
    stored_next c.loop-row.offsets c.loop-row.bytes.items _ _ _ c.args.rows.now c.loop-row.row-index _ c.loop-row-test.true c.as_bytes.ensures.value c.as_bytes.ensures.utf8 c.in_ok-try_push_usize.ensures.ok c.in_ok-extend_from_slice.ensures.items c.loop-row.invariant

pub returns-in_err-try_push_usize-clause-overflow : goal.returns-in_err-try_push_usize-clause-overflow
returns-in_err-try_push_usize-clause-overflow c overflows =
    let over = c.in_err-try_push_usize.ensures.overflow.0 (ap Err (passed_on c.from_residual-in_err-try_push_usize.result _ _ c.from_residual-in_err-try_push_usize.ensures.1 overflows)) in
    omega (arith, over, bytes_so_far c.loop-row.offsets c.loop-row.bytes.items c.args.rows.now c.loop-row.row-index (record { ref_ptr = (0, 0); now = [] }) c.loop-row-test.true c.loop-row.invariant)

stored : (c : In_ok-bytes) → AreRows c.in_ok-offsets-2.offsets c.in_ok-bytes.bytes (texts_in c.args.rows.now)
stored c =
    stored_rows c.loop-row.offsets c.loop-row.bytes.items _ _ c.args.rows.now c.loop-row.row-index (omega (arith, c.loop-row-test.false)) c.in_ok-offsets-2.ensures.ok c.in_ok-bytes.ensures.ok c.loop-row.invariant

pub new-requires-clause-offsets : goal.new-requires-clause-offsets
new-requires-clause-offsets c = (stored c).within

pub new-requires-clause-text : goal.new-requires-clause-text
new-requires-clause-text c = (stored c).utf8

pub returns-clause-rows : goal.returns-clause-rows
returns-clause-rows c = rw c.new.ensures (ap (map Text) (stored (goal.at.returns-clause-rows c).In_ok-bytes).rows)
