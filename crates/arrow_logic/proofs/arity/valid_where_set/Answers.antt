use Rattle.arrow_logic.proofs.Common.{fits_combined, ◌∙◌, Some, ap, length, map, refl, subst, sym, length-map, all_values, FitsRows, rows_by, nulls, combined}
use Rattle.arrow_logic.proofs.NullRowLemmas.{fits_values, nulls_under}
use Rattle.arrow_logic.proofs.arity.valid_where_set.Goals as goal

pub with_validity-requires : goal.with_validity-requires
with_validity-requires g c =
    let array = c.args.array in
    let n = length (map g.O.NativeType.slot array.values) in
    let kept = c.in_ok-validity.ensures.ok ∙ ap (λ v. combined v (Some c.args.bits.now)) c.validity.ensures.same in
    subst (λ v. FitsRows v n) (sym kept) (fits_combined array.validity (Some c.args.bits.now) n c.validity.ensures.fits (c.requires ∙ sym (length-map array.values g.O.NativeType.slot)))

pub returns-clause-null_rows : goal.returns-clause-null_rows
returns-clause-null_rows g c =
    let array = c.args.array in
    let kept = c.in_ok-validity.ensures.ok ∙ ap (λ v. combined v (Some c.args.bits.now)) c.validity.ensures.same in
    let fits = fits_values g.O.NativeType.slot array.values array.validity (length array.values) refl c.validity.ensures.fits in
    ap (λ p. nulls (rows_by (map g.O.NativeType.slot) p)) c.with_validity.ensures ∙ nulls_under g.O.NativeType.slot array.values c.args.bits.now array.validity c.in_ok-validity.validity (all_values _ _ g.met.O.NativeType.slots array.values) c.requires fits kept
