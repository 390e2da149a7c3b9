use Rattle.arrow_memory.proofs.Common.{◌<◌, ◌++◌, ◌∷◌, [], Bool, List, length, ap, ◌∙◌, append_assoc, arith, length-append, rev_source, iter_rest}
use Rattle.arrow_memory.proofs.WordLemmas.{pushed_below}
use Rattle.arrow_memory.proofs.words.pack.Goals as goal

pub loop-bit-preserved : goal.loop-bit-preserved
loop-bit-preserved c =
    let packed = c.loop-bit.invariant.0 in
    let b = c.in-Some.bit.now in
    let rest = iter_rest (rev_source c.loop-bit.bit-iterator) in
    let next = iter_rest (rev_source c.next.new.self) in
    let all = ap length c.loop-bit.invariant.1 in
    let taken = ap length c.in-Some.ensures.steps in
    let room : length packed < 64 = omega (arith, c.requires, all, taken, length-append rest packed, length-append next (b ∷ [])) in
    (b ∷ packed, c.loop-bit.invariant.1 ∙ (ap (λ (xs : List Bool). xs ++ packed) c.in-Some.ensures.steps ∙ append_assoc next (b ∷ []) packed), rw c.from.ensures (pushed_below packed b c.loop-bit.word room c.loop-bit.invariant.2))
