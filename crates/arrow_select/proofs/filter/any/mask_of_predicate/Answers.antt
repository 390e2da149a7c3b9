use Rattle.arrow_select.proofs.Common.{sym, ◌∙◌, ap, option_copied, both_bits}
use Rattle.arrow_select.proofs.FilterLemmas.{mask_under, mask_without}
use Rattle.arrow_select.proofs.filter.any.mask_of_predicate.Goals as goal
use Rattle.arrow_select.proofs.filter.any.mask_of_predicate.Goals.{in-None+in_ok-mask-in-None, in-Some+in_ok-mask-in-Some}

pub returns-clause-ok : goal.returns-clause-ok
returns-clause-ok c =
    let p = c.args.filter.now in
    elim c.match-validity.branch [
      | in-None+in_ok-mask-in-None w ↦
          mask_without p.validity p.values _ (sym (ap option_copied w.in-None.is) ∙ c.validity.ensures.same) (w.mask-is ∙ (w.in_ok-mask-in-None.ensures.cases ∙ w.values.ensures))
      | in-Some+in_ok-mask-in-Some w ↦
          mask_under p.validity p.values _ _ (sym (ap option_copied w.in-Some.is) ∙ c.validity.ensures.same) (w.mask-is ∙ (w.in_ok-mask-in-Some.ensures.ok ∙ ap (λ bits. both_bits bits w.in-Some.validity.now) w.values-in-Some.ensures))
    ]
