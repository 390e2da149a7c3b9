use Rattle.arrow_logic.proofs.Common.{◌≡◌, ◌∙◌, ap, length, map, not, replicate, subst, map-map, is_null, Boolean, boolean_rows, MarksArray, any_array_rows, option_copied}
use Rattle.arrow_logic.proofs.NullLemmas.{marked_rows, unmarked_rows, valid_rows}
use Rattle.arrow_logic.proofs.boolean.is_not_null.Goals as goal
use Rattle.arrow_logic.proofs.boolean.is_not_null.Goals.{in-None+in_ok-valid-in-None, in-Some+in_ok-valid-in-Some}

pub returns : goal.returns
returns c = record {
  array_type = ap (λ array. array.arrow_type) c.truths.ensures;
  rows =
      let array = c.args.input.now in
      let rows = any_array_rows array in
      let marks = c.validity.ensures.marks in
      let valid : c.match-validity.valid ≡ map (λ s. not (is_null s)) rows = elim c.match-validity.branch [
        | in-None+in_ok-valid-in-None w ↦
            let r = w.is_of_nulls.result in
            let unmarked = unmarked_rows array r (subst (λ v. MarksArray array (option_copied v)) w.in-None.is marks) w.is_of_nulls.ensures in
            w.valid-is ∙ (w.in_ok-valid-in-None.ensures.ok ∙ (ap (λ n. replicate n (not r)) w.len.ensures ∙ valid_rows rows (length rows) r unmarked))
        | in-Some+in_ok-valid-in-Some w ↦
            let marked = marked_rows array w.in-Some.validity.now (subst (λ v. MarksArray array (option_copied v)) w.in-Some.is marks) in
            w.valid-is ∙ (w.in_ok-valid-in-Some.ensures.cases ∙ marked)
      ] in
      ap boolean_rows c.truths.ensures ∙ (ap (map Boolean) valid ∙ map-map Boolean (λ s. not (is_null s)) rows);
  err = tt;
}
