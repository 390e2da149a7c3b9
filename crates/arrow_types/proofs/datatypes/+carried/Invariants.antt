use Rattle.std.proofs.Common.{take}
use Rattle.arrow_types.specs.Carried.{AreCarried}
use Rattle.arrow_types.specs.TypeOf.{fields_of}
use Rattle.arrow_types.proofs.datatypes.+carried.Given as goal

abbrev pub invariant-carried::has_carried_fields-loop-field :
    goal.invariant-carried::has_carried_fields-loop-field
invariant-carried::has_carried_fields-loop-field l = AreCarried (fields_of (take l.field-index l.fields))
