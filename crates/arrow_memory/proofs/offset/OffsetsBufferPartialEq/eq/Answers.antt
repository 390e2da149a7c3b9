use Rattle.arrow_memory.proofs.Common.{◌≡◌, subst, sym, Decides}
use Rattle.arrow_memory.proofs.OffsetLemmas.{same_numbers, same_offsets}
use Rattle.arrow_memory.proofs.offset.OffsetsBufferPartialEq.eq.Given.{Over}
use Rattle.arrow_memory.proofs.offset.OffsetsBufferPartialEq.eq.Goals as goal

decides : (g : Over) (c : goal.After-eq g) → Decides c.eq.result (c.args.self.now ≡ c.args.other.now)
decides g c =
    subst (λ result. Decides result (c.args.self.now ≡ c.args.other.now)) (sym c.eq.ensures) (same_offsets g.O.NativeOrd.number g.O.PartialEq.eq g.met.O.NativeType.values g.met.O.Index.one_value c.buffer.result.now c.buffer-2.result.now c.args.self.now c.args.other.now c.buffer.ensures.values c.buffer-2.ensures.values)

pub returns-clause-numbers : goal.returns-clause-numbers
returns-clause-numbers g c = decides g c

pub returns-clause-value : goal.returns-clause-value
returns-clause-value g c = same_numbers c.eq.result c.args.self.now c.args.other.now (decides g c)
