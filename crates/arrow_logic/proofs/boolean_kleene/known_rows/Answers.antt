use Rattle.arrow_logic.proofs.Common.{◌≡◌, ◌∙◌, Some, ap, sym, by_fours, known_bit, option_copied}
use Rattle.arrow_logic.proofs.ConnectiveLemmas.{as_many_values, known_in_both}
use Rattle.arrow_logic.proofs.boolean_kleene.known_rows.Goals as goal

pub returns-in_ok-known-in-Some-Some-clause-ok : goal.returns-in_ok-known-in-Some-Some-clause-ok
returns-in_ok-known-in-Some-Some-clause-ok c =
    let op = c.args.connective in
    let l = c.args.lhs.now in
    let r = c.args.rhs.now in
    let vs = c.in-Some-Some.left_valid.now in
    let ws = c.in-Some-Some.right_valid.now in
    let left : l.validity ≡ Some vs = sym (sym (ap option_copied c.in-Some-Some.is-0) ∙ c.validity.ensures.same) in
    let right : r.validity ≡ Some ws = sym (sym (ap option_copied c.in-Some-Some.is-1) ∙ c.validity-2.ensures.same) in
    let same = as_many_values l.validity r.validity l.values r.values c.validity.ensures.fits c.validity-2.ensures.fits c.requires in
    let bits = c.in_ok-known-in-Some-Some.ensures.ok ∙ (λ t. by_fours (known_bit op) vs (c.values-left.ensures t) ws (c.values-right.ensures t)) in
    ap Some bits ∙ known_in_both op l.validity r.validity vs l.values ws r.values left right c.validity.ensures.fits c.validity-2.ensures.fits same
