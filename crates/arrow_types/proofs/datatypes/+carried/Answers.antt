use Rattle.std.proofs.Common.{◌↔◌, IsTrue, ap, ◌∙◌, arith, rules}
use Rattle.arrow_types.specs.Carried.{IsCarried, HasField, AreCarried}
use Rattle.arrow_types.specs.TypeOf.{type_of, fields_of, ids_of}
use Rattle.arrow_types.proofs.TypeLemmas.{type_of-Union, type_in-field_of, IsCarried-union, IsCarried-read, AreCarried-next}
use Rattle.arrow_types.proofs.datatypes.+carried.Goals as goal

pub DataType::is_carried-returns-then-are_type_ids :
    goal.DataType::is_carried-returns-then-are_type_ids
DataType::is_carried-returns-then-are_type_ids t c =
    let fields = c.in-Union.fields in
    let is = ap type_of c.in-Union.is ∙ type_of-Union fields c.in-Union.ids c.in-Union.field-2 in
    let parts = IsCarried-union c.in-Union.field-2 (ids_of c.in-Union.ids) fields.items c.len.result (omega (arith, c.len.ensures, fields.ok.0)) in
    let all : IsTrue c.has_carried_fields-then-are_type_ids.result ↔ (HasField (fields_of fields.items) × AreCarried (fields_of fields.items)) = search rules in
    let ids = c.are_type_ids.ensures.0 c.if-are_type_ids.true in
    rw is (λ h. parts.1 (ids, all.0 h), λ h. all.1 (parts.0 h).1)

pub DataType::is_carried-returns-else-are_type_ids :
    goal.DataType::is_carried-returns-else-are_type_ids
DataType::is_carried-returns-else-are_type_ids t c =
    let fields = c.in-Union.fields in
    let is = ap type_of c.in-Union.is ∙ type_of-Union fields c.in-Union.ids c.in-Union.field-2 in
    let parts = IsCarried-union c.in-Union.field-2 (ids_of c.in-Union.ids) fields.items c.len.result (omega (arith, c.len.ensures, fields.ok.0)) in
    rw is (λ h. absurd (search rules), λ h. c.are_type_ids.ensures.1 (parts.0 h).0)

pub carried::has_carried_fields-returns-then-not-is_carried :
    goal.carried::has_carried_fields-returns-then-not-is_carried
carried::has_carried_fields-returns-then-not-is_carried t c =
    let item = c.field-item.result in
    let not_so : IsCarried (type_of item.data_type) → ⊥ = search rules in
    (λ h. absurd (search rules), λ h. absurd (not_so (rw (← type_in-field_of item) (IsCarried-read c.args.fields.now c.loop-field.field-index item (omega arith) c.field-item.is h.1))))

pub carried::has_carried_fields-loop-field-preserved :
    goal.carried::has_carried_fields-loop-field-preserved
carried::has_carried_fields-loop-field-preserved t c =
    let item = c.field-item.result in
    let so : IsCarried (type_of item.data_type) = search rules in
    AreCarried-next c.args.fields.now c.loop-field.field-index item (omega arith) c.field-item.is c.loop-field.invariant (rw type_in-field_of so)
