use Rattle.arrow_select.proofs.Common.{◌+◌, ◌∙◌, [], ◌∷◌, ap, length, subst, sym, IfSome, length-append, select, union_rows, mask_in, HasPart, HaveParts, parts_next}
use Rattle.arrow_select.proofs.filter.union.kept_fields.Goals as goal

pub loop-f-preserved : goal.loop-f-preserved
loop-f-preserved c =
    let p = c.args.array.now in
    let made = select (mask_in c.args.selection) (union_rows p) in
    let done = c.loop-f.fields.items in
    let x = c.in-Some.field in
    let so_far = c.loop-f.invariant in
    let part = subst (λ o. IfSome o (HasPart p.arrow_type made c.loop-f.f)) c.in-Some.is c.in_ok-field.ensures.part in
    record {
      count = ap length c.in_ok-push.ensures.items ∙ (length-append done (x ∷ []) ∙ ap (λ n. n + 1) so_far.count);
      parts = subst (HaveParts p.arrow_type made) (sym c.in_ok-push.ensures.items) (parts_next p.arrow_type made done x so_far.parts (subst (λ k. HasPart p.arrow_type made k x) (sym so_far.count) part));
    }
