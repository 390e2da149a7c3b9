use Rattle.std.proofs.Common.{◌≡◌, ◌↔◌, IsTrue, Some, ap, rules}
use Rattle.std.specs.Cmp.Rules.{signed_items}
use Rattle.arrow_types.specs.TypeOf.{ids_of}
use Rattle.arrow_types.proofs.datatypes.equal.equal_ids.Goals as goal

pub returns-in-Some-Some : goal.returns-in-Some-Some
returns-in-Some-Some c =
    let left = c.in-Some-Some.left.items in
    let right = c.in-Some-Some.right.items in
    let items = signed_items left right in
    let equal : IsTrue c.eq.result ↔ (left ≡ right) = search rules in
    rw (ap ids_of c.in-Some-Some.is-0, ap ids_of c.in-Some-Some.is-1) (λ h. ap Some (equal.0 h), λ same. equal.1 (cc))
