use Rattle.arrow_growable.proofs.Common.{◌<◌, get_or, IsFlat}
use Rattle.arrow_growable.proofs.growable.fields.are_flat.Given as goal

-- those so far are flat
abbrev pub invariant-loop-child : goal.invariant-loop-child
invariant-loop-child l = (k : _) (d : _) → k < l.child-index → IsFlat (get_or l.children k d)
