use Rattle.arrow_select.proofs.Common.{◌-◌, [], ◌∷◌, Err, length, replicate, refl, ap, ◌∙◌, append_assoc, null_slot, sliced, any_array_type, any_array_rows, layout_of, passed_on, holds_none, holds_more, holds_whole, refuses_last, refuses_whole, too_many_first, nulls, ◌++◌, grown_of, HasAppended}
use Rattle.arrow_growable.proofs.GrowLemmas.{named}
use Rattle.arrow_select.proofs.window.append_between.Goals.{In_ok-extend, In_ok-extend_validity}
use Rattle.arrow_select.proofs.window.append_between.Goals as goal

-- the nulls in front are held, and then the rows behind them too
front : (c : In_ok-extend_validity) → HasAppended (layout_of c.args.array.now ∷ []) (grown_of c.extend_validity.new.self) (replicate c.args.front (null_slot (any_array_type c.args.array.now)))
front c =
    let none = holds_none (layout_of c.args.array.now ∷ []) _ c.requires.bound in
    holds_more _ _ [] none _ _ _ (nulls _ _ [] none _) c.in_ok-extend_validity.ensures.ok c.in_ok-extend_validity.ensures.fits

rows : (c : In_ok-extend) → HasAppended (layout_of c.args.array.now ∷ []) (grown_of c.extend_validity.new.self) (replicate c.args.front (null_slot (any_array_type c.args.array.now))) → HasAppended (layout_of c.args.array.now ∷ []) (grown_of c.extend.new.self) (replicate c.args.front (null_slot (any_array_type c.args.array.now)) ++ sliced (any_array_rows c.args.array.now) c.args.behind (length (any_array_rows c.args.array.now) - c.args.front - c.args.behind))
rows c nulled =
    let more = named _ _ _ nulled 0 c.args.behind _ ∙ ap (λ n. sliced (any_array_rows c.args.array.now) c.args.behind (n - c.args.front - c.args.behind)) c.len.ensures in
    holds_more _ _ _ nulled _ _ _ more c.in_ok-extend.ensures.ok c.in_ok-extend.ensures.fits

pub returns-in_err-extend_validity-clause-overflow : goal.returns-in_err-extend_validity-clause-overflow
returns-in_err-extend_validity-clause-overflow c overflows fits =
    let array = c.args.array.now in
    let none = holds_none (layout_of array ∷ []) _ c.requires.bound in
    let over = c.in_err-extend_validity.ensures.overflow (ap Err (passed_on c.from_residual.result _ _ c.from_residual.ensures.1 overflows)) in
    let kept = sliced (any_array_rows array) c.args.behind (length (any_array_rows array) - c.args.front - c.args.behind) in
    refuses_whole _ _ [] none _ _ _ _ (nulls _ _ [] none _) over (append_assoc (replicate c.args.front (null_slot (any_array_type array))) kept _) fits

pub returns-in_err-extend-clause-overflow : goal.returns-in_err-extend-clause-overflow
returns-in_err-extend-clause-overflow c overflows fits =
    let xs = any_array_rows c.args.array.now in
    let nulled = front (goal.at.returns-in_err-extend-clause-overflow c).In_ok-extend_validity in
    let overflow = ap Err (passed_on c.from_residual-in_err-extend.result _ _ c.from_residual-in_err-extend.ensures.1 overflows) in
    let more = named _ _ _ nulled 0 c.args.behind _ ∙ ap (λ n. sliced xs c.args.behind (n - c.args.front - c.args.behind)) c.len.ensures in
    refuses_whole _ _ _ nulled _ _ (replicate c.args.behind (null_slot (any_array_type c.args.array.now))) _ more (too_many_first _ _ _ nulled c.args.behind _ (c.in_err-extend.ensures.overflow overflow)) refl fits

pub returns-clause-ok : goal.returns-clause-ok
returns-clause-ok c =
    let held = rows (goal.at.returns-clause-ok c).In_ok-extend (front (goal.at.returns-clause-ok c).In_ok-extend_validity) in
    holds_whole _ _ _ held c.extend_validity-2.result _ _ _ _ (nulls _ _ _ held _) c.extend_validity-2.ensures.ok c.extend_validity-2.ensures.fits refl

pub returns-clause-overflow : goal.returns-clause-overflow
returns-clause-overflow c overflows fits =
    let held = rows (goal.at.returns-clause-overflow c).In_ok-extend (front (goal.at.returns-clause-overflow c).In_ok-extend_validity) in
    refuses_last _ _ _ held _ _ _ (nulls _ _ _ held _) (c.extend_validity-2.ensures.overflow overflows) refl fits
