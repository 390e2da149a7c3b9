use Rattle.arrow_choice.proofs.Common.{◌∙◌, ap, length, rules, option_copied}
use Rattle.arrow_choice.proofs.ChosenLemmas.{validity_chosen}
use Rattle.arrow_choice.proofs.if_then_else.words.chosen_validity.Goals as goal

pub returns-clause-ok : goal.returns-clause-ok
returns-clause-ok c =
    validity_chosen _ c.args.predicate.now (option_copied c.args.left) (option_copied c.args.right) c.len-len.result c.in_ok-bits.bits (c.len-len.ensures ∙ ap length c.values.ensures) (λ j word some answered k below within. search rules) c.in_ok-bits.ensures.ok
