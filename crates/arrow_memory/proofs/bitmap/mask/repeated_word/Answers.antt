use Rattle.arrow_memory.proofs.Common.{◌≡◌, ◌+◌, ◌*◌, ◌<◌, ◌≤◌, inl, inr, ap, ◌∙◌, false, get_or, length, replicate, arith, mul-le-mul_right, sliced, word_of}
use Rattle.arrow_memory.proofs.SlicedLemmas.{length-sliced}
use Rattle.arrow_memory.proofs.RepeatLemmas.{repeated_more, repeated_none, row_run}
use Rattle.arrow_memory.proofs.bitmap.mask.repeated_word.Goals.{then-rows-row-eq1, else-rows-row-eq1}
use Rattle.arrow_memory.proofs.bitmap.mask.repeated_word.Goals as goal

pub loop-row-preserved : goal.loop-row-preserved
loop-row-preserved c =
    let bits = sliced c.args.bits.now c.args.start c.args.len in
    let rows = c.bits_from-rows.result in
    let row = c.loop-row.row in
    let t = c.args.times in
    let set = c.equal_bits-set.result in
    let run = c.if-rows-row-eq1.run in
    let here : row < length bits = omega (arith, c.loop-row-test.true, length-sliced c.args.bits.now c.args.start c.args.len c.requires.within) in
    let next : row + 1 ≤ c.args.len = omega (arith, c.loop-row-test.true) in
    let few : (row + 1) * t ≤ 64 = omega (arith, c.requires.few, mul-le-mul_right t next) in
    let same : run ≡ word_of (replicate t (get_or bits row false)) = elim c.if-rows-row-eq1.branch [
      | then-rows-row-eq1 w ↦ row_run bits rows t row set run c.bits_from-rows.ensures c.equal_bits-set.ensures (λ one. w.run-is) (λ none. absurd (none w.if-rows-row-eq1.true))
      | else-rows-row-eq1 w ↦ row_run bits rows t row set run c.bits_from-rows.ensures c.equal_bits-set.ensures (λ one. absurd (w.if-rows-row-eq1.false one)) (λ none. w.run-is)
    ] in
    repeated_more bits t row c.loop-row.word run here few c.loop-row.invariant same

pub returns-then-len-eq0 : goal.returns-then-len-eq0
returns-then-len-eq0 c =
    let bits = sliced c.args.bits.now c.args.start c.args.len in
    let long = length-sliced c.args.bits.now c.args.start c.args.len c.requires.within in
    let none : length bits * c.args.times ≡ 0 = elim c.then-len-eq0.either [
      | inl no_row ↦ ap (λ n. n * c.args.times) (long ∙ no_row) ∙ omega arith
      | inr no_bit ↦ ap (λ n. length bits * n) no_bit.1 ∙ omega arith
    ] in
    repeated_none c.args.times bits none
