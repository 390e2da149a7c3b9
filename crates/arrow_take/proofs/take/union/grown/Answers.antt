use Rattle.arrow_take.proofs.Common.{[], ◌∷◌, Err, ap, map, subst, sym, Fits, gather, rows_by, rows, type_of_layout, union_layout, union_rows, HasAppended, union_type, Answers, first_bound}
use Rattle.arrow_take.proofs.AnswerLemmas.{hands_out, passes_on}
use Rattle.arrow_take.proofs.take.union.grown.Goals as goal

pub returns-in_err-append_taken : goal.returns-in_err-append_taken
returns-in_err-append_taken g c =
    let p = c.args.values.now in
    let indices = rows_by (map g.I.NativeType.slot) c.args.indices.now in
    let all = λ (t : _). Fits t (gather (union_rows p) indices t) in
    let here = λ (h : _). Fits (type_of_layout (first_bound h)) (gather (rows (first_bound h)) indices (type_of_layout (first_bound h))) in
    record { answer = passes_on _ _ _ _ _ _ c.from_residual.ensures.1 (λ same fits. c.in_err-append_taken.ensures.overflow (ap Err same) (subst here (sym c.requires.bound) (subst all (sym (union_type p)) fits))) c.in_err-append_taken.ensures.others }

pub returns : goal.returns
returns g c =
    let p = c.args.values.now in
    let indices = rows_by (map g.I.NativeType.slot) c.args.indices.now in
    let held = subst (λ h. HasAppended (first_bound h ∷ []) c.append_taken.new.growable (gather (rows (first_bound h)) indices (type_of_layout (first_bound h)))) c.requires.bound c.in_ok-append_taken.ensures.ok in
    let answer = hands_out (λ array. array.arrow_type) union_rows (union_layout p ∷ []) c.append_taken.new.growable _ held c.into_array.result c.into_array.ensures.answer in
    record { answer = subst (λ t. Answers (λ array. array.arrow_type) union_rows c.into_array.result t (gather (union_rows p) indices t)) (union_type p) answer }
