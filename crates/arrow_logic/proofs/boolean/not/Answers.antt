use Rattle.arrow_logic.proofs.Common.{◌∙◌, ap, map, not, masked, Boolean, boolean_rows}
use Rattle.arrow_logic.proofs.ScalarLemmas.{turned_rows}
use Rattle.arrow_logic.proofs.boolean.not.Goals as goal

pub returns : goal.returns
returns c = record {
  array_type = ap (λ array. array.arrow_type) c.truths.ensures;
  rows =
      let validity = c.in_ok-shared.ensures.ok ∙ c.validity.ensures.same in
      let values = c.in_ok-values.ensures.ok ∙ ap (map not) c.values.ensures in
      ap boolean_rows c.truths.ensures ∙ ((λ i. masked (validity i) (map Boolean (values i))) ∙ turned_rows c.args.array.now.validity c.args.array.now.values);
  err = tt;
}
