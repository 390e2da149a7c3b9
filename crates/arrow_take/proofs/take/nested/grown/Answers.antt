use Rattle.arrow_take.proofs.Common.{[], ◌∷◌, Err, ap, map, subst, sym, Fits, gather, rows_by, rows, type_of_layout, passed_on, HasAppended, first_bound}
use Rattle.arrow_take.proofs.AnswerLemmas.{hands_out, rows_of}
use Rattle.arrow_take.proofs.take.nested.grown.Goals as goal

pub returns-in_err-append_taken-clause-overflow : goal.returns-in_err-append_taken-clause-overflow
returns-in_err-append_taken-clause-overflow g c overflows fits =
    let indices = rows_by (map g.I.NativeType.slot) c.args.indices.now in
    let here = λ (h : _). Fits (type_of_layout (first_bound h)) (gather (rows (first_bound h)) indices (type_of_layout (first_bound h))) in
    c.in_err-append_taken.ensures.overflow (ap Err (passed_on c.from_residual.result _ _ c.from_residual.ensures.1 overflows)) (subst here (sym c.requires.bound) fits)

pub returns-clause-rows : goal.returns-clause-rows
returns-clause-rows g c =
    let layout = g.A.NestedArray.layout_in c.args.values.now in
    let indices = rows_by (map g.I.NativeType.slot) c.args.indices.now in
    let held = subst (λ h. HasAppended (first_bound h ∷ []) c.append_taken.new.growable (gather (rows (first_bound h)) indices (type_of_layout (first_bound h)))) c.requires.bound c.in_ok-append_taken.ensures.ok in
    rows_of (λ array. type_of_layout (g.A.NestedArray.layout_in array)) (λ array. rows (g.A.NestedArray.layout_in array)) (type_of_layout layout) _ c.into_array.result (hands_out (λ array. type_of_layout (g.A.NestedArray.layout_in array)) (λ array. rows (g.A.NestedArray.layout_in array)) (layout ∷ []) c.append_taken.new.growable _ held c.into_array.result c.into_array.ensures.answer)
