use Rattle.arrow_flat_growable.proofs.Common.{◌≡◌, take, with_parts}
use Rattle.arrow_flat_growable.proofs.growable.parts.copy_parts.Given as goal

-- the parts so far are copied
abbrev pub invariant-loop-part : goal.invariant-loop-part
invariant-loop-part g l =
    l.values.items ≡ with_parts l.sources l.fn.values.items (take l.part-index l.parts)
