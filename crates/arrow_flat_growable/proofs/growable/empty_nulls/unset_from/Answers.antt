use Rattle.arrow_flat_growable.proofs.Common.{arith, ◌≡◌, ◌∙◌, ◌+◌, ◌*◌, ◌/◌, ◌%◌, ap, false, bit_at, bit_at-lt}
use Rattle.std.specs.Prelude.{slice_index_or}
use Rattle.arrow_flat_growable.proofs.EmptyNullLemmas.{digit_unset, unset_set, unset_within}
use Rattle.arrow_flat_growable.proofs.growable.empty_nulls.unset_from.Goals as goal

pub returns-clause-within : goal.returns-clause-within
returns-clause-within c =
    λ k set. unset_within _ c.args.count k (omega (arith, c.requires.in_word)) set

pub returns-clause-unset : goal.returns-clause-unset
returns-clause-unset c =
    λ k below unset.
    let first = c.args.first in
    let word = c.word.result in
    let at : 64 * (first / 64) + (first % 64 + k) ≡ first + k = omega arith in
    let digit = digit_unset (bit_at word (first % 64 + k)) (bit_at-lt word (first % 64 + k)) (c.word.ensures.each (first % 64 + k) (omega (arith, below, c.requires.in_word)) ∙ (ap (λ i. slice_index_or c.args.validity.now i false) at ∙ unset)) in
    unset_set word (first % 64) c.args.count k c.word.type_inv c.requires.in_word below digit
