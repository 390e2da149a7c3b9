use Rattle.arrow_logic.proofs.Common.{◌≡◌, ◌∙◌, ◌+◌, ◌*◌, Some, ap, false, get_or, map, sym, masked, selects, Boolean, Null, and_each, ◌&&◌, option_copied}
use Rattle.arrow_logic.proofs.WordLemmas.{valid_selects}
use Rattle.arrow_logic.proofs.boolean.true_word.Goals as goal

pub returns-in-Some : goal.returns-in-Some
returns-in-Some c k within =
    let array = c.args.array.now in
    let bits = c.in-Some.validity.now in
    let i = 64 * c.args.j + k in
    let validity : Some bits ≡ array.validity = sym (ap option_copied c.in-Some.is) ∙ c.validity.ensures.same in
    let value = c.word-word.ensures.each k within ∙ ap (λ xs. get_or xs i false) c.values.ensures in
    and_each c.word-word.result c.word.result k ∙ ((λ t. value t && c.word.ensures.each k within t) ∙ (valid_selects bits array.values i ∙ ap (λ v. selects (get_or (masked v (map Boolean array.values)) i Null)) validity))
