use Rattle.std.proofs.Common.{map, ap}
use Rattle.arrow_arrays.specs.Any.{layout_of}
use Rattle.arrow_arrays.proofs.UnionLemmas.{same_parts}
use Rattle.arrow_arrays.proofs.array.+clone.Goals as goal

pub union::UnionArrayClone::clone-invariant_of-result : goal.union::UnionArrayClone::clone-invariant_of-result
union::UnionArrayClone::clone-invariant_of-result t c =
    same_parts _ _ _ _ _ _ _ _ _ c.in_ok-clone-2.ensures.cases c.in_ok-clone.ensures.cases c.in_ok-clone_offsets.ensures (ap (map layout_of) c.in_ok-clone_all.ensures) c.self.invariant
