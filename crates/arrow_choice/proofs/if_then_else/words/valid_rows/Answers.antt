use Rattle.arrow_choice.proofs.Common.{◌≡◌, ◌+◌, ◌*◌, ◌<◌, ◌∙◌, ap, false, get_or, if◌then◌else◌, length, subst, ◌==◌, ◌&&◌, IfSome, option_copied, bit_at, length-map, valid_at, Boolean, and_each, FitsRows, bit_within}
use Rattle.arrow_choice.proofs.if_then_else.words.valid_rows.Goals as goal

pub returns : goal.returns
returns c = λ k below within.
    let i = 64 * c.args.j + k in
    let p = c.args.predicate.now in
    let fits : FitsRows p.validity (length p.values) = subst (FitsRows p.validity) (length-map p.values Boolean) c.validity.ensures.fits in
    let valid = subst (λ v. IfSome v (λ bits. i < length bits) → (bit_at c.valid_word.result k == 1) ≡ valid_at v i) c.validity.ensures.same (c.valid_word.ensures k below) (bit_within p.validity (length p.values) i fits within) in
    let left = c.valid_word-left.ensures k below (bit_within (option_copied c.args.left) (length p.values) i c.requires.left within) in
    let right = c.valid_word-right.ensures k below (bit_within (option_copied c.args.right) (length p.values) i c.requires.right within) in
    let bit : (bit_at c.word.result k == 1) ≡ get_or p.values i false = c.word.ensures.each k below ∙ ap (λ bits. get_or bits i false) c.values.ensures in
    let either = c.either_word.ensures k below ∙ (λ t. if bit t then left t else right t) in
    and_each c.valid_word.result c.either_word.result k ∙ (λ t. valid t && either t)
