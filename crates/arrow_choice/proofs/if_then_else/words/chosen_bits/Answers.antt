use Rattle.arrow_choice.proofs.Common.{rules, sym}
use Rattle.arrow_choice.proofs.ChosenLemmas.{bits_chosen}
use Rattle.arrow_choice.proofs.if_then_else.words.chosen_bits.Goals as goal

pub returns-clause-ok : goal.returns-clause-ok
returns-clause-ok c =
    bits_chosen c.collect_words.result _ c.len.result c.args.bits.now c.args.left.now c.args.right.now (sym c.len.ensures) c.requires.left c.requires.right (λ j word some answered k below within. search rules) c.collect_words.ensures.ok
