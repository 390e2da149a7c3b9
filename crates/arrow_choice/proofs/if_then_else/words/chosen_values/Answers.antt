use Rattle.arrow_choice.proofs.Common.{length-drop, ◌≡◌, ◌+◌, ◌-◌, ◌*◌, ◌++◌, ◌∙◌, arith, ap, append_assoc, drop, sym, length-take, sliced, chosen_by}
use Rattle.arrow_choice.proofs.ChosenLemmas.{chosen_by-from, part_chosen}
use Rattle.arrow_choice.proofs.if_then_else.words.chosen_values.Goals as goal

pub loop-j-preserved : goal.loop-j-preserved
loop-j-preserved g c =
    let bits = c.args.bits.now in
    let left = c.args.left.now in
    let right = c.args.right.now in
    let place = 64 * c.loop-j.j in
    let count = c.min.result in
    let n = place + count - place in
    let here = part_chosen bits left right place c.word-word.result count n c.requires.left c.requires.right (omega (arith, c.min.ensures, c.len-len.ensures)) (omega arith) c.word-word.ensures.word in
    let part = chosen_by (sliced bits place 64) (sliced left place 64) (sliced right place 64) in
    let next : 64 * (c.loop-j.j + 1) ≡ place + 64 = omega arith in
    let rest = chosen_by (drop (64 * (c.loop-j.j + 1)) bits) (drop (64 * (c.loop-j.j + 1)) left) (drop (64 * (c.loop-j.j + 1)) right) in
    let cut : chosen_by (drop place bits) (drop place left) (drop place right) ≡ part ++ rest = chosen_by-from place 64 bits left right ∙ (λ t. part ++ chosen_by (drop (sym next t) bits) (drop (sym next t) left) (drop (sym next t) right)) in
    let old = c.loop-j.values.items in
    record {
      room = omega (arith, c.loop-j.invariant.room, c.append_word.ensures.len, c.append_word.ensures.capacity, c.min.ensures, c.len-len.ensures, c.requires.left, length-take n (drop place left), length-drop place left, length-drop place bits, length-drop (64 * (c.loop-j.j + 1)) bits);
      items = ap (λ zs. zs ++ rest) (c.append_word.ensures.items ∙ ap (λ zs. old ++ zs) here) ∙ (append_assoc old part rest ∙ (ap (λ zs. old ++ zs) (sym cut) ∙ c.loop-j.invariant.items));
    }
