use Rattle.arrow_select.proofs.Common.{arith, rules, ◌+◌, ◌-◌, ◌*◌, ◌^◌, ◌<◌, ◌++◌, length, ap, ◌∙◌, count_ones}
use Rattle.arrow_select.proofs.SetLemmas.{IsGathered, IsWordOf, at_set-short, gathered_bits, word_of_part, words_all, words_few, words_more, words_none}
use Rattle.arrow_select.proofs.filter.words.append_set_both.Given as given
use Rattle.arrow_select.proofs.filter.words.append_set_both.Goals.{After-append_both-set, After-min-count}
use Rattle.arrow_select.proofs.filter.words.append_set_both.Goals as goal

-- the word of the mask at hand is that of the values at hand
here : (g : given.Over) (c : After-min-count g) → IsWordOf c.args.mask.now c.args.values.now (64 * c.loop-j.j) c.word-word.result (64 * c.loop-j.j + c.min-count.result - 64 * c.loop-j.j)
here g c =
    word_of_part _ _ _ _ c.min-count.result _ c.requires.lengths (omega (arith, c.min-count.ensures, c.len-len.ensures)) (omega arith) c.word-word.ensures.word

-- and the bits at hand are gathered
gathered : (g : given.Over) (c : After-append_both-set g) → IsGathered c.args.mask.now c.args.bits.now (64 * c.loop-j.j) c.word-word.result c.append_both-set.result
gathered g c =
    gathered_bits _ _ _ _ c.word.result _ c.requires.covered c.word-word.ensures.word c.word.ensures.word c.append_both-set.ensures.bits

pub append_both-set-requires-clause-below : goal.append_both-set-requires-clause-below
append_both-set-requires-clause-below g c = (here g (goal.at.append_both-set-requires-clause-below g c).After-min-count).below

pub append_both-set-requires-clause-room : goal.append_both-set-requires-clause-room
append_both-set-requires-clause-room g c =
    let same = (here g (goal.at.append_both-set-requires-clause-room g c).After-min-count).same in
    omega (arith, c.loop-j.invariant.room, words_few c.loop-j.invariant.items, ap length same, c.args.kept.now.ok.0, c.loop-j.kept.ok.0)

pub push_word-requires : goal.push_word-requires
push_word-requires g c = (gathered g (goal.at.push_word-requires g c).After-append_both-set).within

pub returns-in_err-push_word-clause-err : goal.returns-in_err-push_word-clause-err
returns-in_err-push_word-clause-err g c =
    let many = (gathered g (goal.at.returns-in_err-push_word-clause-err g c).After-append_both-set).many in
    let room : length c.loop-j.valid + count_ones c.word-word.result < 2 ^ 64 = omega (arith, words_few c.loop-j.invariant.bits, many, at_set-short c.args.mask.now c.args.bits.now, c.requires.covered, c.len-len.ensures, c.len-len.type_inv) in
    search (rules, room)

pub loop-j-preserved-then-word-eq0 : goal.loop-j-preserved-then-word-eq0
loop-j-preserved-then-word-eq0 g c = record {
  room = c.loop-j.invariant.room;
  items = words_none c.loop-j.invariant.items c.word-word.result _ c.requires.lengths c.word-word.ensures.word c.if-word-eq0.true (omega arith);
  bits = words_none c.loop-j.invariant.bits c.word-word.result _ c.requires.covered c.word-word.ensures.word c.if-word-eq0.true (omega arith);
}

pub loop-j-preserved : goal.loop-j-preserved
loop-j-preserved g c =
    let same = (here g (goal.at.loop-j-preserved g c).After-min-count).same in
    let valid = (gathered g (goal.at.loop-j-preserved g c).After-append_both-set).same in
    record {
      room = omega (arith, c.loop-j.invariant.room, c.append_both-set.ensures.capacity);
      items = words_more c.loop-j.invariant.items _ _ (c.append_both-set.ensures.items ∙ ap (λ ys. c.loop-j.kept.items ++ ys) same) (omega arith);
      bits = words_more c.loop-j.invariant.bits _ _ (c.in_ok-push_word.ensures.ok ∙ ap (λ ys. c.loop-j.valid ++ ys) valid) (omega arith);
    }

pub returns-clause-values : goal.returns-clause-values
returns-clause-values g c =
    words_all c.loop-j.invariant.items (omega (arith, c.loop-j-test.false, c.div_ceil-j-end.ensures, c.len-len.ensures))

pub returns-clause-bits : goal.returns-clause-bits
returns-clause-bits g c =
    words_all c.loop-j.invariant.bits (omega (arith, c.loop-j-test.false, c.div_ceil-j-end.ensures, c.len-len.ensures))
