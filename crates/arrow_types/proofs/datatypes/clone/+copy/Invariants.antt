use Rattle.std.proofs.Common.{◌≡◌, map, take}
use Rattle.arrow_types.specs.TypeOf.{field_of}
use Rattle.arrow_types.proofs.datatypes.clone.+copy.Given as goal

abbrev pub invariant-copy_fields-loop-field : goal.invariant-copy_fields-loop-field
invariant-copy_fields-loop-field l = map field_of l.copies.items ≡ map field_of (take l.field-index l.field-items)
