use Rattle.arrow_choice.proofs.Common.{◌≡◌, ◌++◌, ◌<◌, ◌∙◌, Some, arith, ap, if◌then◌else◌, length, nat_eq, sym, slice_get, take_all, shr_and_one, low_bits, length-low_bits, chosen_by, false, get_or_default, slice_get-get_or}
use Rattle.arrow_choice.proofs.ChosenLemmas.{begins_more, bit_of_low, get_or-chosen_by, length-chosen_by}
use Rattle.arrow_choice.proofs.if_then_else.words.push_chosen.Goals as goal

pub loop-k-preserved : goal.loop-k-preserved
loop-k-preserved g c =
    let word = c.args.word in
    let k = c.loop-k.k in
    let left = c.args.left.now in
    let right = c.args.right.now in
    let n = length left in
    let whole = chosen_by (low_bits word n) left right in
    let below : k < n = c.loop-k-test.true in
    let within : k < length right = omega (arith, below, c.requires.lengths) in
    let e = c.either.result in
    let bits = low_bits word n in
    let size = length-low_bits word n in
    let long = length-chosen_by bits left right (sym size) (sym c.requires.lengths ∙ sym size) in
    let bit = bit_of_low word n k false below ∙ sym (ap (λ b. nat_eq b 1) (shr_and_one word k)) in
    let one = get_or_default left k e c.index-left-k.result below ∙ sym c.index-left-k.is in
    let other = get_or_default right k e c.index-right-k.result within ∙ sym c.index-right-k.is in
    let value = get_or-chosen_by bits left right k e (sym size) (sym c.requires.lengths ∙ sym size) (omega (arith, below, size)) ∙ ((λ t. if bit t then one t else other t) ∙ sym c.either.ensures) in
    let read : slice_get whole k ≡ Some e = slice_get-get_or whole k e (omega (arith, below, long, size)) ∙ ap Some value in
    record {
      items = c.push_reserved.ensures.items ∙ begins_more c.args.values.now.items c.loop-k.values.items whole k e c.loop-k.invariant.items read;
      len = omega (arith, c.push_reserved.ensures.len, c.loop-k.invariant.len);
      capacity = c.push_reserved.ensures.capacity ∙ c.loop-k.invariant.capacity;
    }

pub returns-clause-items : goal.returns-clause-items
returns-clause-items g c =
    let left = c.args.left.now in
    let right = c.args.right.now in
    let bits = low_bits c.args.word (length left) in
    let size = length-low_bits c.args.word (length left) in
    let long = length-chosen_by bits left right (sym size) (sym c.requires.lengths ∙ sym size) in
    c.loop-k.invariant.items ∙ ap (λ zs. c.args.values.now.items ++ zs) (take_all c.loop-k.k (chosen_by bits left right) (omega (arith, long, size, c.loop-k-test.false)))
