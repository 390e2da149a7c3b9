use Rattle.arrow_memory.proofs.Common.{◌+◌, ◌-◌, ◌/◌, ◌^◌, true, false, sym, ◌∙◌, arith, is_set}
use Rattle.arrow_memory.proofs.RunLemmas.{bits_equal, equal_more, word_behind}
use Rattle.arrow_memory.proofs.bitmap.runs.run_ends.Goals as goal

pub returns-then-nulls-run-clause-unset : goal.returns-then-nulls-run-clause-unset
returns-then-nulls-run-clause-unset c =
    let words = c.args.words.now in
    let start = c.args.start in
    let nulls = c.low_run-nulls.result in
    bits_equal words start (start + nulls) false (omega arith) (equal_more (is_set words) start start c.args.count nulls c.args.word false (λ i from below. absurd (omega (arith, from, below))) c.requires.word c.low_run-nulls.ensures)

pub returns-then-nulls-run-clause-run : goal.returns-then-nulls-run-clause-run
returns-then-nulls-run-clause-run c =
    let words = c.args.words.now in
    let nulls = c.low_run-nulls.result in
    let first = c.args.start + nulls in
    let behind = word_behind words c.args.start c.args.count nulls c.args.word c.requires.word in
    bits_equal words first (first + c.low_run-run.result) true (omega arith) (equal_more (is_set words) first first (c.args.count - nulls) c.low_run-run.result (c.args.word / 2 ^ nulls) true (λ i from below. absurd (omega (arith, from, below))) behind c.low_run-run.ensures)

pub returns-then-nulls-run-clause-longest : goal.returns-then-nulls-run-clause-longest
returns-then-nulls-run-clause-longest c before =
    sym (word_behind c.args.words.now c.args.start c.args.count c.low_run-nulls.result c.args.word c.requires.word c.low_run-run.result (omega (arith, c.if-nulls-run.true))) ∙ c.low_run-run.ensures.ends (omega (arith, c.if-nulls-run.true))
