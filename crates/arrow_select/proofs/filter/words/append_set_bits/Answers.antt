use Rattle.arrow_select.proofs.Common.{arith, rules, ◌+◌, ◌*◌, ◌^◌, ◌<◌, ◌++◌, length, ap, ◌∙◌, count_ones}
use Rattle.arrow_select.proofs.SetLemmas.{IsGathered, at_set-short, gathered_bits, words_all, words_few, words_more, words_none}
use Rattle.arrow_select.proofs.filter.words.append_set_bits.Goals.{After-gathered}
use Rattle.arrow_select.proofs.filter.words.append_set_bits.Goals as goal

-- the bits at hand are gathered
here : (c : After-gathered) → IsGathered c.args.mask.now c.args.bits.now (64 * c.loop-j.j) c.word-word.result c.gathered.result
here c = gathered_bits _ _ _ _ c.word.result _ c.requires.lengths c.word-word.ensures.word c.word.ensures.word c.gathered.ensures

pub returns-in_err-push_word-clause-err : goal.returns-in_err-push_word-clause-err
returns-in_err-push_word-clause-err c =
    let many = (here (goal.at.returns-in_err-push_word-clause-err c).After-gathered).many in
    let room : length c.loop-j.kept + count_ones c.word-word.result < 2 ^ 64 = omega (arith, words_few c.loop-j.invariant, many, at_set-short c.args.mask.now c.args.bits.now, c.requires.lengths, c.len-len.ensures, c.len-len.type_inv) in
    search (rules, room)

pub push_word-requires : goal.push_word-requires
push_word-requires c = (here (goal.at.push_word-requires c).After-gathered).within

pub loop-j-preserved-then-word-eq0 : goal.loop-j-preserved-then-word-eq0
loop-j-preserved-then-word-eq0 c =
    words_none c.loop-j.invariant c.word-word.result _ c.requires.lengths c.word-word.ensures.word c.if-word-eq0.true (omega arith)

pub loop-j-preserved : goal.loop-j-preserved
loop-j-preserved c =
    let same = (here (goal.at.loop-j-preserved c).After-gathered).same in
    words_more c.loop-j.invariant _ _ (c.in_ok-push_word.ensures.ok ∙ ap (λ ys. c.loop-j.kept ++ ys) same) (omega arith)

pub returns-clause-ok : goal.returns-clause-ok
returns-clause-ok c =
    words_all c.loop-j.invariant (omega (arith, c.loop-j-test.false, c.div_ceil-j-end.ensures, c.len-len.ensures))
