use Rattle.arrow_choice.proofs.Common.{arith, ◌∙◌, Err, ap, ints, passed_on}
use Rattle.arrow_choice.proofs.ChosenRuns.{all_appended, all_few, word_appended, word_passes}
use Rattle.arrow_choice.proofs.if_then_else.bytes.chosen_parts.Goals as goal

pub returns-in_err-append_word-clause-overflow : goal.returns-in_err-append_word-clause-overflow
returns-in_err-append_word-clause-overflow g c overflows =
    word_passes c.loop-j.invariant c.min-count.result (omega (arith, c.loop-j-test.true, c.div_ceil-j-end.ensures, c.len-len.ensures)) (omega (arith, c.min-count.ensures, c.len-len.ensures)) g.O.Index.greatest (c.in_err-append_word.ensures.overflow (ap Err (passed_on c.from_residual-in_err-append_word.result _ _ c.from_residual-in_err-append_word.ensures.1 overflows)))

pub loop-j-preserved : goal.loop-j-preserved
loop-j-preserved g c =
    word_appended c.loop-j.invariant c.min-count.result (omega (arith, c.loop-j-test.true, c.div_ceil-j-end.ensures, c.len-len.ensures)) (omega (arith, c.min-count.ensures, c.len-len.ensures)) c.append_word.new.offsets c.append_word.new.bytes.items c.in_ok-append_word.ensures.ok

pub returns-clause-offsets : goal.returns-clause-offsets
returns-clause-offsets g c =
    c.in_ok-into_buffer.ensures.ok ∙ (all_appended c.loop-j.invariant (omega (arith, c.loop-j-test.false, c.loop-j.auto.j-end, c.div_ceil-j-end.ensures, c.len-len.ensures))).ends

pub returns-clause-bytes : goal.returns-clause-bytes
returns-clause-bytes g c =
    (all_appended c.loop-j.invariant (omega (arith, c.loop-j-test.false, c.loop-j.auto.j-end, c.div_ceil-j-end.ensures, c.len-len.ensures))).items

pub returns-clause-few : goal.returns-clause-few
returns-clause-few g c =
    all_few c.loop-j.invariant (omega (arith, c.loop-j-test.false, c.loop-j.auto.j-end, c.div_ceil-j-end.ensures, c.len-len.ensures)) g.O.Index.greatest (omega (arith, ints, c.to_usize.ensures.value, c.last.ensures, c.to_usize.ensures.at_most_greatest))
