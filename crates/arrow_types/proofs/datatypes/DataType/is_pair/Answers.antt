use Rattle.std.proofs.Common.{◌≡◌, ◌↔◌, IsTrue, nat_eq, length, ap, sym, ◌∙◌, rules}
use Rattle.arrow_types.specs.ArrowType.{struct, logical}
use Rattle.arrow_types.specs.TypeOf.{type_of, fields_of}
use Rattle.arrow_types.proofs.TypeLemmas.{type_of-Struct, IsPair-fields_of}
use Rattle.arrow_types.proofs.datatypes.DataType.is_pair.Goals as goal

pub returns-in-Struct : goal.returns-in-Struct
returns-in-Struct c =
    let fields = c.in-Struct.fields in
    let is : logical (type_of c.args.self.now) ≡ struct (fields_of fields.items) = sym c.to_logical_type.ensures ∙ (ap type_of c.in-Struct.is ∙ type_of-Struct fields) in
    let two : IsTrue (nat_eq c.len.result 2) ↔ (length fields.items ≡ 2) = search rules in
    rw is (λ h. (IsPair-fields_of fields.items).1 (two.0 h), λ h. two.1 ((IsPair-fields_of fields.items).0 h))
