use Rattle.arrow_memory.proofs.Common.{◌≡◌, ◌+◌, ◌*◌, ◌/◌, ◌%◌, ◌<◌, refl, ◌∙◌, length, arith, length-set, bits_in, word_of}
use Rattle.arrow_memory.proofs.LogicLemmas.{combines_more}
use Rattle.arrow_memory.proofs.WordLemmas.{word_of-across}
use Rattle.arrow_memory.proofs.words.logic.combine_within.Goals as goal

pub loop-j-preserved : goal.loop-j-preserved
loop-j-preserved g c =
    let words = c.loop-j.words in
    let others = c.args.others.now in
    let from = c.args.from in
    let j = c.loop-j.j in
    let within : j < length words = omega (arith, c.loop-j.invariant.long, c.requires.within, c.loop-j-test.true) in
    let index : from / 64 + j ≡ (from + 64 * j) / 64 = omega arith in
    let shift : from % 64 ≡ (from + 64 * j) % 64 = omega arith in
    let word : c.across.result ≡ word_of (bits_in others (from + 64 * j) 64) = c.across.ensures ∙ rw (← index, ← shift) at (word_of-across others (from + 64 * j) (c.type_inv.others ((from + 64 * j) / 64)).fits) in
    record {
      long = length-set words j c.of_words.result ∙ c.loop-j.invariant.long;
      each = combines_more g.L.Logic.bits c.args.words.now words others from j _ c.across.result c.of_words.result c.loop-j.invariant.each within refl word c.of_words.ensures;
    }

pub returns-clause-each : goal.returns-clause-each
returns-clause-each g c =
    let all : c.loop-j.j ≡ c.args.count = omega (arith, c.loop-j-test.false, c.loop-j.auto.j-end) in
    λ i below. c.loop-j.invariant.each.given i (omega (arith, below, all))

pub returns-clause-left : goal.returns-clause-left
returns-clause-left g c =
    let all : c.loop-j.j ≡ c.args.count = omega (arith, c.loop-j-test.false, c.loop-j.auto.j-end) in
    λ i from. c.loop-j.invariant.each.left i (omega (arith, from, all))
