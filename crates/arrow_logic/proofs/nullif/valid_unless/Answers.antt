use Rattle.arrow_logic.proofs.Common.{◌≡◌, ◌∙◌, ap, length, subst, IfOk-weaker, FitsRows, length-paired, option_copied}
use Rattle.arrow_logic.proofs.nullif.valid_unless.Goals as goal

pub returns-in-Some-clause-count : goal.returns-in-Some-clause-count
returns-in-Some-clause-count c =
    let valid = c.in-Some.validity.now in
    let nulls = c.args.nulls.now in
    let fits : length valid ≡ length nulls = subst (λ v. FitsRows (option_copied v) (length nulls)) c.in-Some.is c.requires in
    IfOk-weaker c.and_not.result _ _ (λ bits is. ap length is ∙ (length-paired _ valid nulls fits ∙ fits)) c.and_not.ensures.ok
