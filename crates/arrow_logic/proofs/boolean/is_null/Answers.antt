use Rattle.arrow_logic.proofs.Common.{◌≡◌, ◌∙◌, ap, map, not, replicate, subst, sym, map-map, is_null, Boolean, boolean_rows, MarksArray, any_array_rows, option_copied}
use Rattle.arrow_logic.proofs.NullLemmas.{marked_rows, turned_marks, unmarked_rows}
use Rattle.arrow_logic.proofs.boolean.is_null.Goals as goal
use Rattle.arrow_logic.proofs.boolean.is_null.Goals.{in-None+in_ok-nulls-in-None, in-Some+in_ok-nulls-in-Some}

pub returns : goal.returns
returns c = record {
  array_type = ap (λ array. array.arrow_type) c.truths.ensures;
  rows =
      let array = c.args.input.now in
      let rows = any_array_rows array in
      let marks = c.validity.ensures.marks in
      let nulls : c.match-validity.nulls ≡ map is_null rows = elim c.match-validity.branch [
        | in-None+in_ok-nulls-in-None w ↦
            let unmarked = unmarked_rows array w.is_of_nulls.result (subst (λ v. MarksArray array (option_copied v)) w.in-None.is marks) w.is_of_nulls.ensures in
            w.nulls-is ∙ (w.in_ok-nulls-in-None.ensures.ok ∙ (ap (λ n. replicate n w.is_of_nulls.result) w.len.ensures ∙ sym unmarked))
        | in-Some+in_ok-nulls-in-Some w ↦
            let marked = marked_rows array w.in-Some.validity.now (subst (λ v. MarksArray array (option_copied v)) w.in-Some.is marks) in
            w.nulls-is ∙ (w.in_ok-nulls-in-Some.ensures.ok ∙ (ap (map not) marked ∙ turned_marks rows))
      ] in
      ap boolean_rows c.truths.ensures ∙ (ap (map Boolean) nulls ∙ map-map Boolean is_null rows);
  err = tt;
}
