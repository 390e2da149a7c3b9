use Rattle.arrow_logic.proofs.Common.{fits_combined, ◌∙◌, ap, length, map, refl, subst, sym, IfOk-weaker, all_values, FitsRows, rows_by, nulls, combined}
use Rattle.arrow_logic.proofs.NullRowLemmas.{fits_values, nulls_of_two}
use Rattle.arrow_logic.proofs.arity.make_of_two.Goals as goal

pub make-requires-clause-fits : goal.make-requires-clause-fits
make-requires-clause-fits g c =
    let left = c.args.lhs.now in
    let right = c.args.rhs.now in
    let n = length c.args.values.items in
    let kept = c.in_ok-validity.ensures.ok ∙ (λ i. combined (c.validity.ensures.same i) (c.validity-2.ensures.same i)) in
    let fits = fits_values g.T.NativeType.slot left.values left.validity n (sym c.requires.left) c.validity.ensures.fits in
    let others = fits_values g.D.NativeType.slot right.values right.validity n (sym c.requires.right) c.validity-2.ensures.fits in
    subst (λ v. FitsRows v n) (sym kept) (fits_combined left.validity right.validity n fits others)

pub returns-clause-null_rows : goal.returns-clause-null_rows
returns-clause-null_rows g c =
    let left = c.args.lhs.now in
    let right = c.args.rhs.now in
    let n = length c.args.values.items in
    let kept = c.in_ok-validity.ensures.ok ∙ (λ i. combined (c.validity.ensures.same i) (c.validity-2.ensures.same i)) in
    let fits = fits_values g.T.NativeType.slot left.values left.validity n (sym c.requires.left) c.validity.ensures.fits in
    let others = fits_values g.D.NativeType.slot right.values right.validity n (sym c.requires.right) c.validity-2.ensures.fits in
    let nulls_after = nulls_of_two g.T.NativeType.slot g.T.NativeType.slot g.D.NativeType.slot c.args.values.items left.values right.values left.validity right.validity c.in_ok-validity.validity n (all_values _ _ g.met.T.NativeType.slots c.args.values.items) (all_values _ _ g.met.T.NativeType.slots left.values) (all_values _ _ g.met.D.NativeType.slots right.values) refl (sym c.requires.left) (sym c.requires.right) fits others kept in
    IfOk-weaker c.make.result _ _ (λ made is. ap (λ p. nulls (rows_by (map g.T.NativeType.slot) p)) is ∙ nulls_after) c.make.ensures.ok
