use Rattle.arrow_choice.proofs.Common.{◌≡◌, ℕ, ◌+◌, ◌*◌, ◌<◌, get_or, length, subst, false, ◌==◌, IfSome, bit_at, length-map, valid_at, Boolean, FitsRows}
use Rattle.arrow_choice.proofs.SideLemmas.{rows_of_words}
use Rattle.arrow_choice.proofs.if_then_else.runs.word_at.Goals as goal

pub returns : goal.returns
returns c =
    let p = c.args.predicate.now in
    let j = c.args.j in
    let fits : FitsRows p.validity (length p.values) = subst (FitsRows p.validity) (length-map p.values Boolean) c.validity.ensures.fits in
    let marks = subst (λ v. (k : ℕ) → k < 64 → IfSome v (λ bits. 64 * j + k < length bits) → (bit_at c.valid_word.result k == 1) ≡ valid_at v (64 * j + k)) c.validity.ensures.same c.valid_word.ensures in
    let reads = subst (λ bits. (k : ℕ) → k < 64 → (bit_at c.word.result k == 1) ≡ get_or bits (64 * j + k) false) c.values.ensures c.word.ensures.each in
    rows_of_words p.validity p.values j c.valid_word.result c.word.result fits marks reads
