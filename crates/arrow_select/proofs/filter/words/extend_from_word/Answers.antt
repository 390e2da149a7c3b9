use Rattle.arrow_select.proofs.Common.{arith, ◌≡◌, ◌∙◌, ap, ◌++◌, at_set, set_in_word}
use Rattle.arrow_select.proofs.SetLemmas.{ones_in_word}
use Rattle.arrow_select.proofs.filter.words.extend_from_word.Goals as goal

pub push_set-requires-clause-room : goal.push_set-requires-clause-room
push_set-requires-clause-room g c =
    omega (arith, c.in_ok-reserve.ensures.ok, ones_in_word c.low_word-word.result c.args.values.now c.low_word-word.ensures.below)

pub returns : goal.returns
returns g c =
    let values = c.args.values.now in
    let same : set_in_word c.low_word-word.result values ≡ set_in_word c.args.mask values = ap (λ bits. at_set bits values) c.low_word-word.ensures.same in
    record { ok = c.push_set.ensures.items ∙ (ap (λ ys. ys ++ set_in_word c.low_word-word.result values) c.reserve.ensures.items ∙ ap (λ ys. c.args.out.now.items ++ ys) same); unchanged = tt; err = tt }
