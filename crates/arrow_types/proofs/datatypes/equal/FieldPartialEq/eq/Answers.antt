use Rattle.std.proofs.Common.{◌≡◌, rules}
use Rattle.std.proofs.lemmas.Bool.Decides.{same_from_decides}
use Rattle.std.specs.Bool.{Decides}
use Rattle.arrow_types.specs.SameTree.{same_by, same_by-decides}
use Rattle.arrow_types.specs.StoredType.{field_code}
use Rattle.arrow_types.specs.TypeOf.{field_of}
use Rattle.arrow_types.proofs.datatypes.equal.FieldPartialEq.eq.Goals as goal

pub returns-clause-value : goal.returns-clause-value
returns-clause-value c =
    let left = field_of c.args.self.now in
    let right = field_of c.args.other.now in
    let told : Decides c.equal_fields.result (left ≡ right) = search rules in
    same_from_decides c.equal_fields.result (same_by field_code left right) told (same_by-decides field_code left right)
