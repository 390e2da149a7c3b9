use Rattle.std.proofs.Common.{◌≡◌, ◌∙◌, None, ap, map, rules, sym}
use Rattle.arrow_types.specs.Rows.{masked}
use Rattle.arrow_types.specs.Slot.{Boolean}
use Rattle.arrow_compare.proofs.AnswerLemmas.{none_null}
use Rattle.arrow_compare.proofs.comparison.answers.known_or.Goals as goal

pub returns-then-is_none : goal.returns-then-is_none
returns-then-is_none c =
    let answers = c.args.answers in
    let none : None ≡ answers.validity = search rules in
    record {
      array_type = c.requires;
      rows = ap (λ v. masked v (map Boolean answers.values)) (sym none) ∙ none_null c.args.spare answers.validity answers.values none;
      err = tt;
    }
