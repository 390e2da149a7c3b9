use Rattle.arrow_memory.proofs.Common.{◌≡◌, ◌+◌, sym, ◌∙◌, subst, arith, is_set}
use Rattle.arrow_memory.proofs.RunLemmas.{AreEqual, bits_equal, equal_more}
use Rattle.arrow_memory.proofs.bitmap.runs.run_end.Goals as goal
use Rattle.arrow_memory.proofs.bitmap.runs.run_end.Goals.{After-low_run-run}

-- as many more as the next bits begin with
more : (c : After-low_run-run) → AreEqual (is_set c.args.words.now) c.args.start (c.loop-place.place + c.low_run-run.result) c.args.bit
more c =
    equal_more (is_set c.args.words.now) c.args.start c.loop-place.place c.rest_of_word-word.result.1 c.low_run-run.result c.rest_of_word-word.result.0 c.args.bit c.loop-place.invariant.2 c.rest_of_word-word.ensures.bits c.low_run-run.ensures

pub returns-then-run-count-clause-run : goal.returns-then-run-count-clause-run
returns-then-run-count-clause-run c =
    bits_equal c.args.words.now c.args.start (c.loop-place.place + c.low_run-run.result) c.args.bit (omega (arith, c.loop-place.invariant.0)) (more (goal.at.returns-then-run-count-clause-run c).After-low_run-run)

pub returns-then-run-count-clause-longest : goal.returns-then-run-count-clause-longest
returns-then-run-count-clause-longest c before =
    sym (c.rest_of_word-word.ensures.bits c.low_run-run.result c.if-run-count.true) ∙ c.low_run-run.ensures.ends c.if-run-count.true

pub loop-place-preserved : goal.loop-place-preserved
loop-place-preserved c =
    let all : c.low_run-run.result ≡ c.rest_of_word-word.result.1 = omega (arith, c.low_run-run.ensures.within, c.if-run-count.false) in
    (omega (arith, c.loop-place.invariant.0), omega (arith, c.rest_of_word-word.ensures.within, c.loop-place-test.true), subst (λ n. AreEqual (is_set c.args.words.now) c.args.start (c.loop-place.place + n) c.args.bit) all (more (goal.at.loop-place-preserved c).After-low_run-run))

pub returns-clause-run : goal.returns-clause-run
returns-clause-run c =
    let all : c.loop-place.place ≡ c.args.end = omega (arith, c.loop-place.invariant.1, c.loop-place-test.false) in
    bits_equal c.args.words.now c.args.start c.args.end c.args.bit c.requires.order (subst (λ end. AreEqual (is_set c.args.words.now) c.args.start end c.args.bit) all c.loop-place.invariant.2)
