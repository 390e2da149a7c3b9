use Rattle.arrow_logic.proofs.Common.{◌∙◌, ap, not, sym, ◌==◌, count_by}
use Rattle.arrow_logic.proofs.WordLemmas.{all_true, none_left, zero_of}
use Rattle.arrow_logic.proofs.boolean.all.Goals as goal

pub returns-then-null_count-eq0 : goal.returns-then-null_count-eq0
returns-then-null_count-eq0 c =
    let array = c.args.array.now in
    let counted = c.unset_bits.ensures ∙ ap (count_by not) c.values.ensures in
    let nulls = sym c.null_count.ensures ∙ c.if-null_count-eq0.true in
    (λ e. all_true array.validity array.values nulls (sym counted ∙ zero_of c.unset_bits.result e), λ all. let none = none_left array.validity array.values c.validity.ensures.fits all in ap (λ n. n == 0) (counted ∙ none.1))

pub returns-else-null_count-eq0 : goal.returns-else-null_count-eq0
returns-else-null_count-eq0 c =
    let array = c.args.array.now in
    (λ e. absurd (c.if-null_count-eq0.false (zero_of c.null_count.result e)), λ all. let none = none_left array.validity array.values c.validity.ensures.fits all in absurd (c.if-null_count-eq0.false (c.null_count.ensures ∙ none.0)))
