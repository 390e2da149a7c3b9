use Rattle.arrow_logic.proofs.Common.{◌∙◌, ap, length, map, refl, sym, IfOk-weaker, all_values, rows_by, nulls}
use Rattle.arrow_logic.proofs.NullRowLemmas.{combined_none, fits_values, nulls_stored}
use Rattle.arrow_logic.proofs.arity.make_of_one.Goals as goal

pub returns-clause-null_rows : goal.returns-clause-null_rows
returns-clause-null_rows g c =
    let array = c.args.array.now in
    let n = length array.values in
    let kept = c.in_ok-validity.ensures.ok ∙ (combined_none _ ∙ c.validity.ensures.same) in
    let fits = fits_values g.I.NativeType.slot array.values array.validity n refl c.validity.ensures.fits in
    let before = nulls_stored g.I.NativeType.slot array.values array.validity n (all_values _ _ g.met.I.NativeType.slots array.values) refl fits in
    let after = nulls_stored g.O.NativeType.slot c.args.values.items array.validity n (all_values _ _ g.met.O.NativeType.slots c.args.values.items) c.requires.lengths fits in
    IfOk-weaker c.make.result _ _ (λ made is. ap (λ p. nulls (rows_by (map g.O.NativeType.slot) p)) is ∙ (ap (λ v. nulls (rows_by (map g.O.NativeType.slot) (record { arrow_type = array.arrow_type; values = c.args.values.items; validity = v }))) kept ∙ (after ∙ sym before))) c.make.ensures.ok
