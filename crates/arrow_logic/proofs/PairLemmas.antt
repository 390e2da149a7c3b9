-- What each pair of members of two lists gives, and bits that were answered of them.
use Rattle.arrow_logic.proofs.Common.{arith, ◌≡◌, ◌∙◌, ℕ, ◌<◌, Bool, false, List, get_or, length, sym, ext_get_or, AnswersBits, Result, Ok, Err, IfOk}

-- bits that were answered of each row are those of a list, where each answer gives its own
pub answered_bits : {E : Type 0} (r : Result (List Bool) E) (answered : ℕ → Bool → Type 0) (len : ℕ) (all : List Bool) → length all ≡ len → ((row : ℕ) (bit : Bool) → row < len → answered row bit → bit ≡ get_or all row false) → IfOk r (λ bits. AnswersBits answered len bits) → IfOk r (λ bits. bits ≡ all)
answered_bits (Ok bits) answered len all long each answers =
    ext_get_or false bits all (answers.count ∙ sym long) (λ row within.
    let below : row < len = omega (arith, within, answers.count) in
    each row (get_or bits row false) below (answers.each row below))
answered_bits (Err e) answered len all long each answers = tt
