use Rattle.std.proofs.Common.{Some, None, option_copied, sym, subst, ◌∙◌}
use Rattle.arrow_flat.specs.Parts.{MarksNulls}
use Rattle.arrow_flat.proofs.PartsLemmas.{null_count-marked}
use Rattle.arrow_flat.proofs.array.validity.null_count.Goals as goal

pub returns-in-None : goal.returns-in-None
returns-in-None c = λ rows marks.
    sym (null_count-marked None rows (subst (λ v. MarksNulls (option_copied v) rows) c.in-None.is marks))

pub returns-in-Some : goal.returns-in-Some
returns-in-Some c = λ rows marks.
    c.unset_bits.ensures ∙ sym (null_count-marked (Some c.in-Some.bits.now) rows (subst (λ v. MarksNulls (option_copied v) rows) c.in-Some.is marks))
