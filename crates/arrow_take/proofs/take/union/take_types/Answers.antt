use Rattle.arrow_take.proofs.Common.{◌≡◌, ◌++◌, ◌∙◌, arith, ap, map, of_z, to_z, w8, ints, to_z-of_z, masked, id_at, key_in, field_ids, id_or}
use Rattle.arrow_take.proofs.take.union.take_types.Goals as goal

pub returns-clause-ok : goal.returns-clause-ok
returns-clause-ok g c =
    let lent = c.as_slice-stored.ensures ∙ c.values.ensures in
    let types = c.as_slice-types.ensures ∙ c.types.ensures.same in
    let first : to_z w8 (of_z w8 c.id_of_field-first.result) ≡ id_at (field_ids c.args.values.now.arrow_type) 0 = to_z-of_z w8 c.id_of_field-first.result (omega (arith, ints, c.id_of_field-first.type_inv)) ∙ (c.id_of_field-first.ensures ∙ ap (λ t. id_at (field_ids t) 0) c.data_type.ensures.same) in
    c.append_named.ensures ∙ (λ i. c.in_ok-taken.ensures.items i ++ map (λ index. id_or (first i) (types i) (key_in index)) (masked (c.validity-validity.ensures.same i) (map g.I.NativeType.slot (lent i))))
