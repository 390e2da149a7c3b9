use Rattle.arrow_flat_growable.proofs.Common.{map, take}
use Rattle.arrow_flat_growable.proofs.StoredKeyLemmas.{AreStored}
use Rattle.arrow_flat_growable.proofs.growable.keys.bound.Given as goal

-- the keys of the arrays so far are stored
abbrev pub invariant-loop-array : goal.invariant-loop-array
invariant-loop-array g l =
    AreStored (map (map g.K.NativeType.slot) l.sources.items) (take l.array-index l.arrays)
