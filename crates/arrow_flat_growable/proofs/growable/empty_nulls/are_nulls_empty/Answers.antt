use Rattle.arrow_flat_growable.proofs.Common.{arith, rules, ◌≡◌, ◌+◌, ℕ, slice_index, bit_at}
use Rattle.arrow_flat_growable.proofs.EmptyNullLemmas.{more_empty}
use Rattle.arrow_flat_growable.proofs.growable.empty_nulls.are_nulls_empty.Goals as goal

pub loop-next-preserved : goal.loop-next-preserved
loop-next-preserved g c =
    let before = c.loop-next.invariant in
    let next = c.loop-next.next in
    let word = c.unset_from.result in
    let empty : (k : ℕ) → bit_at word k ≡ 1 → slice_index c.args.rows.now (next + k + 1) ≡ slice_index c.args.rows.now (next + k) = search (rules, c.if-not-are_empty.ensures) in
    (omega (arith, before.0), omega (arith, c.min-count.ensures, c.loop-next-test.true), more_empty c.args.validity.now c.args.rows.now c.args.start next c.min-count.result word before.2 c.unset_from.ensures.unset empty)
