use Rattle.arrow_select.proofs.Common.{◌≡◌, ◌∙◌, ap, map, subst, IfSome, option_copied, All-more, Fits, Null, null_slot, AnyArray, any_array_rows, any_array_type, KeptUnder, kept_rows_under, mask_in, makes_next}
use Rattle.arrow_select.proofs.filter.structure.kept_columns.Goals as goal

pub loop-column-preserved : goal.loop-column-preserved
loop-column-preserved c =
    let mask = mask_in c.args.selection in
    let v = option_copied c.args.validity in
    let columns = c.args.columns.now in
    let i = c.loop-column.column-index in
    let item = c.column-item.result in
    let x = c.in-Some.kept in
    let done = c.loop-column.all.items in
    let so_far = c.loop-column.invariant in
    let kept : KeptUnder mask v item x = subst (λ o. IfSome o (KeptUnder mask v item)) c.in-Some.is c.in_ok-kept.ensures.ok in
    let fit = subst (Fits (any_array_type item)) kept.rows (subst (λ u. Fits u (any_array_rows x)) kept.array_type kept.fits) in
    let P = λ (a : AnyArray). Fits (any_array_type a) (kept_rows_under mask v (any_array_rows a)) in
    let Q = λ (a : AnyArray). null_slot (any_array_type a) ≡ Null in
    record {
      types = ap (map any_array_type) c.in_ok-push.ensures.items ∙ makes_next any_array_type any_array_type done columns x item i c.loop-column-test.true c.column-item.is kept.array_type so_far.types;
      rows = ap (map any_array_rows) c.in_ok-push.ensures.items ∙ makes_next any_array_rows (λ a. kept_rows_under mask v (any_array_rows a)) done columns x item i c.loop-column-test.true c.column-item.is kept.rows so_far.rows;
      fits = All-more P columns i item c.loop-column-test.true so_far.fits (subst P c.column-item.is fit);
      nulls = All-more Q columns i item c.loop-column-test.true so_far.nulls (subst Q c.column-item.is kept.null);
    }
