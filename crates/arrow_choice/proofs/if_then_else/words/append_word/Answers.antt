use Rattle.arrow_choice.proofs.Common.{arith, ◌++◌, ◌∙◌, ap, false, sym, true}
use Rattle.arrow_choice.proofs.ChosenLemmas.{set_bit, unset_bit, word_of_side}
use Rattle.arrow_choice.proofs.if_then_else.words.append_word.Goals as goal

pub returns-then-word-eq0-clause-items : goal.returns-then-word-eq0-clause-items
returns-then-word-eq0-clause-items g c =
    let all = word_of_side c.args.word false c.args.left.now c.args.right.now c.requires.lengths (λ k below. unset_bit c.args.word k c.if-word-eq0.true) in
    c.append_copy.ensures.items ∙ ap (λ zs. c.args.values.now.items ++ zs) (sym all)

pub returns-then-word-eq18446744073709551615-clause-items :
    goal.returns-then-word-eq18446744073709551615-clause-items
returns-then-word-eq18446744073709551615-clause-items g c =
    let all = word_of_side c.args.word true c.args.left.now c.args.right.now c.requires.lengths (λ k below. set_bit c.args.word k c.if-word-eq18446744073709551615.true (omega (arith, below, c.requires.in_word))) in
    c.append_copy-then-word-eq18446744073709551615.ensures.items ∙ ap (λ zs. c.args.values.now.items ++ zs) (sym all)
