use Rattle.arrow_select.proofs.Common.{arith, ◌+◌, ◌-◌, ◌*◌, ◌++◌, length, ap, ◌∙◌}
use Rattle.arrow_select.proofs.SetLemmas.{IsWordOf, word_of_part, words_all, words_few, words_more, words_none}
use Rattle.arrow_select.proofs.filter.words.append_set.Given as given
use Rattle.arrow_select.proofs.filter.words.append_set.Goals.{After-min-count}
use Rattle.arrow_select.proofs.filter.words.append_set.Goals as goal

-- the word of the mask at hand is that of the values at hand
here : (g : given.Over) (c : After-min-count g) → IsWordOf c.args.mask.now c.args.values.now (64 * c.loop-j.j) c.word-bits.result (64 * c.loop-j.j + c.min-count.result - 64 * c.loop-j.j)
here g c =
    word_of_part _ _ _ _ c.min-count.result _ c.requires.lengths (omega (arith, c.min-count.ensures, c.len-len.ensures)) (omega arith) c.word-bits.ensures.word

pub append_word-requires-clause-below : goal.append_word-requires-clause-below
append_word-requires-clause-below g c = (here g (goal.at.append_word-requires-clause-below g c).After-min-count).below

pub append_word-requires-clause-room : goal.append_word-requires-clause-room
append_word-requires-clause-room g c =
    let same = (here g (goal.at.append_word-requires-clause-room g c).After-min-count).same in
    omega (arith, c.loop-j.invariant.room, words_few c.loop-j.invariant.items, ap length same, c.args.kept.now.ok.0, c.loop-j.kept.ok.0)

pub loop-j-preserved-then-bits-eq0 : goal.loop-j-preserved-then-bits-eq0
loop-j-preserved-then-bits-eq0 g c = record {
  room = c.loop-j.invariant.room;
  items = words_none c.loop-j.invariant.items c.word-bits.result _ c.requires.lengths c.word-bits.ensures.word c.if-bits-eq0.true (omega arith);
}

pub loop-j-preserved : goal.loop-j-preserved
loop-j-preserved g c =
    let same = (here g (goal.at.loop-j-preserved g c).After-min-count).same in
    record {
      room = omega (arith, c.loop-j.invariant.room, c.append_word.ensures.capacity);
      items = words_more c.loop-j.invariant.items _ _ (c.append_word.ensures.items ∙ ap (λ ys. c.loop-j.kept.items ++ ys) same) (omega arith);
    }

pub returns : goal.returns
returns g c =
    words_all c.loop-j.invariant.items (omega (arith, c.loop-j-test.false, c.div_ceil-j-end.ensures, c.len-len.ensures))
