use Rattle.arrow_memory.proofs.Common.{◌≡◌, ◌+◌, ◌≤◌, false, get_or, subst, arith}
use Rattle.arrow_memory.proofs.BitmapLemmas.{bit_of-word}
use Rattle.arrow_memory.proofs.RunLemmas.{AreAlike, alike_are, equal_more, ends_there, some_alike}
use Rattle.arrow_memory.proofs.bitmap.Bitmap.run_at.Goals as goal
use Rattle.arrow_memory.proofs.bitmap.Bitmap.run_at.Goals.{After-low_run-run}

-- as many more as the next bits begin with
more : (c : After-low_run-run) → AreAlike c.args.self.now c.args.start (c.loop-place.place + c.low_run-run.result) c.get_bit-bit.result
more c =
    let bits = c.args.self.now in
    equal_more (λ i. get_or bits i false) c.args.start c.loop-place.place c.min-count.result c.low_run-run.result c.bits_from.result c.get_bit-bit.result c.loop-place.invariant.2 (λ k below. bit_of-word bits c.loop-place.place c.min-count.result c.bits_from.result k below c.bits_from.ensures) c.low_run-run.ensures

pub returns-then-run-count-clause-longest : goal.returns-then-run-count-clause-longest
returns-then-run-count-clause-longest c = λ below.
    ends_there c.args.self.now c.loop-place.place c.min-count.result c.low_run-run.result c.bits_from.result c.get_bit-bit.result (omega (arith, c.requires.within, c.min-count.ensures, c.loop-place-test.true)) c.bits_from.ensures c.low_run-run.ensures c.if-run-count.true

pub returns-then-run-count-clause-some : goal.returns-then-run-count-clause-some
returns-then-run-count-clause-some c =
    let within : c.loop-place.place + c.min-count.result ≤ c.args.end = omega (arith, c.min-count.ensures, c.loop-place-test.true) in
    let ends = ends_there c.args.self.now c.loop-place.place c.min-count.result c.low_run-run.result c.bits_from.result c.get_bit-bit.result (omega (arith, c.requires.within)) c.bits_from.ensures c.low_run-run.ensures c.if-run-count.true in
    some_alike c.args.self.now c.args.start c.loop-place.place c.low_run-run.result c.get_bit-bit.result c.get_bit-bit.ensures c.loop-place.invariant.0 ends

pub returns-then-run-count-clause-run : goal.returns-then-run-count-clause-run
returns-then-run-count-clause-run c =
    let within : c.loop-place.place + c.low_run-run.result ≤ c.args.end = omega (arith, c.min-count.ensures, c.loop-place-test.true, c.low_run-run.ensures.within) in
    alike_are c.args.self.now c.args.start (c.loop-place.place + c.low_run-run.result) c.get_bit-bit.result (omega (arith, c.loop-place.invariant.0)) (omega (arith, c.requires.within)) (more c.before)

pub loop-place-preserved : goal.loop-place-preserved
loop-place-preserved c =
    let all : c.low_run-run.result ≡ c.min-count.result = omega (arith, c.low_run-run.ensures.within, c.if-run-count.false) in
    (omega (arith, c.loop-place.invariant.0), omega (arith, c.min-count.ensures, c.loop-place-test.true), subst (λ n. AreAlike c.args.self.now c.args.start (c.loop-place.place + n) c.get_bit-bit.result) all (more c.before))

pub returns-clause-run : goal.returns-clause-run
returns-clause-run c =
    let all : c.loop-place.place ≡ c.args.end = omega (arith, c.loop-place.invariant.1, c.loop-place-test.false) in
    alike_are c.args.self.now c.args.start c.args.end c.get_bit-bit.result (omega (arith, c.requires.some)) c.requires.within (subst (λ end. AreAlike c.args.self.now c.args.start end c.get_bit-bit.result) all c.loop-place.invariant.2)
