use Rattle.arrow_memory.proofs.Common.{◌+◌, ◌<◌, refl, length, arith, is_set}
use Rattle.arrow_memory.proofs.LogicLemmas.{GivesUpTo, combines_more}
use Rattle.arrow_memory.proofs.words.logic.combine.Goals as goal

pub returns-clause-each : goal.returns-clause-each
returns-clause-each g c =
    let words = c.combine_within.new.words in
    let last = c.in-Some.last in
    let within : last < length words = omega (arith, c.combine_within.ensures.long, c.in-Some.ensures.1) in
    let others = c.args.others.now in
    let before : GivesUpTo (λ bit i. g.L.Logic.bits bit (is_set others (c.args.from + i))) c.args.words.now words last = record { given = c.combine_within.ensures.each; left = c.combine_within.ensures.left } in
    let done = combines_more g.L.Logic.bits c.args.words.now words others c.args.from last _ c.word_from.result c.of_words.result before within refl c.word_from.ensures c.of_words.ensures in
    λ i below. done.given i (omega (arith, below, c.in-Some.ensures.1))
