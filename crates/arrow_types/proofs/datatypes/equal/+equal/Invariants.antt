use Rattle.std.proofs.Common.{◌≡◌, map, take}
use Rattle.arrow_types.specs.TypeOf.{field_of}
use Rattle.arrow_types.proofs.datatypes.equal.+equal.Given as goal

abbrev pub invariant-equal_children-loop-i : goal.invariant-equal_children-loop-i
invariant-equal_children-loop-i l = map field_of (take l.i l.left) ≡ map field_of (take l.i l.right)
