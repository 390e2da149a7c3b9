use Rattle.arrow_logic.proofs.Common.{arith}
use Rattle.arrow_logic.proofs.LengthLemmas.{appended_twice}
use Rattle.arrow_logic.proofs.length.append_lengths.Goals as goal

pub returns-then-count-eq-WORD_BITS-clause-items : goal.returns-then-count-eq-WORD_BITS-clause-items
returns-then-count-eq-WORD_BITS-clause-items g c =
    appended_twice _ _ _ _ 32 32 c.args.count c.append_half.ensures.items c.append_half-then-count-eq-WORD_BITS.ensures.items (omega (arith, c.if-count-eq-WORD_BITS.true))

pub returns-else-count-eq-WORD_BITS-clause-items : goal.returns-else-count-eq-WORD_BITS-clause-items
returns-else-count-eq-WORD_BITS-clause-items g c =
    appended_twice _ _ _ _ c.min-first.result _ c.args.count c.append_half-else-count-eq-WORD_BITS.ensures.items c.append_half-else-count-eq-WORD_BITS-2.ensures.items (omega (arith, c.min-first.ensures))
