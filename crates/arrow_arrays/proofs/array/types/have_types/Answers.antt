use Rattle.std.proofs.Common.{◌<◌, length, arith}
use Rattle.arrow_types.specs.ArrowType.{type_in}
use Rattle.arrow_types.specs.TypeOf.{type_of, field_of}
use Rattle.arrow_arrays.specs.Any.{any_array_type}
use Rattle.arrow_arrays.proofs.TypeLemmas.{maps_at, maps_next, types_differ, types_agree}
use Rattle.arrow_arrays.proofs.array.types.have_types.Goals as goal

pub returns-then-ne : goal.returns-then-ne
returns-then-ne c =
    let x = c.index-values-i.result in
    let f = c.index-fields-i.result in
    let within : c.loop-i.i < length c.args.values.now = omega arith in
    (λ h. cc, λ same. absurd (types_differ (type_of c.data_type.result.now) (type_of c.data_type-in-loop-i.result.now) (any_array_type x) (type_in (field_of f)) c.ne.result c.ne.ensures c.data_type.ensures.same c.data_type-in-loop-i.ensures c.if-ne.true (maps_at any_array_type (λ field. type_in (field_of field)) c.args.values.now c.args.fields.now c.loop-i.i x f within c.loop-i-test.true c.index-values-i.is c.index-fields-i.is same)))

pub loop-i-preserved : goal.loop-i-preserved
loop-i-preserved c =
    let x = c.index-values-i.result in
    let f = c.index-fields-i.result in
    let within : c.loop-i.i < length c.args.values.now = omega arith in
    let agree = types_agree (type_of c.data_type.result.now) (type_of c.data_type-in-loop-i.result.now) (any_array_type x) (type_in (field_of f)) c.ne.result c.ne.ensures c.data_type.ensures.same c.data_type-in-loop-i.ensures c.if-ne.false in
    maps_next any_array_type (λ field. type_in (field_of field)) c.args.values.now c.args.fields.now c.loop-i.i x f within c.loop-i-test.true c.index-values-i.is c.index-fields-i.is agree c.loop-i.invariant
