use Rattle.arrow_choice.proofs.Common.{◌≡◌, ◌+◌, ◌≤◌, arith, length, refl, boolean_rows}
use Rattle.arrow_choice.proofs.SideLemmas.{run_to, truths_end, truths_more}
use Rattle.arrow_choice.proofs.if_then_else.runs.run_end.Goals as goal

pub returns-then-place-count-lt-WORD_BITS-clause-run :
    goal.returns-then-place-count-lt-WORD_BITS-clause-run
returns-then-place-count-lt-WORD_BITS-clause-run c =
    let end = c.loop-end.end in
    let count = c.min-count.result in
    let i = c.loop-end.invariant in
    let within : end + count ≤ length (boolean_rows c.args.predicate.now) = omega (arith, c.min-count.ensures, c.len-len.ensures.rows, c.loop-end-test.true) in
    let rows = i.3 c.loop-end-test.true in
    let alike = truths_more end refl rows c.run_of.ensures count within c.args.start i.0 i.2 (omega (arith, c.min-count.ensures)) in
    run_to (omega (arith, i.0)) within c.requires.within c.requires.first alike
    (λ more.
    let all : c.run_of.result ≡ count = omega (arith, more, c.min-count.ensures, c.len-len.ensures.rows) in
    truths_end end refl rows c.run_of.ensures count within all c.if-place-count-lt-WORD_BITS.true more)

pub loop-end-preserved : goal.loop-end-preserved
loop-end-preserved c =
    let i = c.loop-end.invariant in
    let within : c.loop-end.end + c.min-count.result ≤ c.len-len.result = omega (arith, c.min-count.ensures, c.loop-end-test.true) in
    let alike = truths_more c.loop-end.end refl (i.3 c.loop-end-test.true) c.run_of.ensures c.min-count.result (omega (arith, within, c.len-len.ensures.rows)) c.args.start i.0 i.2 (omega (arith, c.min-count.ensures)) in
    (omega (arith, i.0), within, alike, λ more. c.word_at-word.ensures)
