use Rattle.arrow_memory.proofs.Common.{◌≡◌, ◌<◌, ◌∙◌, subst, length, arith, length-set}
use Rattle.arrow_memory.proofs.FoursLemmas.{GivesFoursUpTo, fours_more}
use Rattle.arrow_memory.proofs.bitmap.quaternary.combine_by_fours.Goals as goal

pub loop-j-preserved : goal.loop-j-preserved
loop-j-preserved g c =
    let words = c.loop-j.words in
    let j = c.loop-j.j in
    let within : j < length words = omega (arith, c.loop-j.invariant.long, c.in-Some.ensures.1, c.loop-j-test.true) in
    record {
      long = length-set words j c.of_words.result ∙ c.loop-j.invariant.long;
      each = fours_more g.L.QuaternaryLogic.bits c.args.second.now c.args.second_from c.args.third.now c.args.third_from c.args.fourth.now c.args.fourth_from c.args.words.now words j _ _ _ c.of_words.result c.loop-j.invariant.each within c.word_before_last.ensures c.word_before_last-in-loop-j.ensures c.word_before_last-in-loop-j-2.ensures c.of_words.ensures;
    }

pub returns-clause-each : goal.returns-clause-each
returns-clause-each g c =
    let words = c.loop-j.words in
    let last = c.in-Some.last in
    let all : c.loop-j.j ≡ last = omega (arith, c.loop-j-test.false, c.loop-j.auto.j-end) in
    let within : last < length words = omega (arith, c.loop-j.invariant.long, c.in-Some.ensures.1) in
    let before = subst (GivesFoursUpTo g.L.QuaternaryLogic.bits c.args.second.now c.args.second_from c.args.third.now c.args.third_from c.args.fourth.now c.args.fourth_from c.args.words.now words) all c.loop-j.invariant.each in
    let done = fours_more g.L.QuaternaryLogic.bits c.args.second.now c.args.second_from c.args.third.now c.args.third_from c.args.fourth.now c.args.fourth_from c.args.words.now words last _ _ _ c.of_words-2.result before within c.word_from.ensures c.word_from-2.ensures c.word_from-3.ensures c.of_words-2.ensures in
    λ i below. done.given i (omega (arith, below, c.in-Some.ensures.1))
