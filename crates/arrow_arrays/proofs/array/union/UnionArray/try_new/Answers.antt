use Rattle.std.proofs.Common.{◌<◌, ◌^◌, map, length, arith}
use Rattle.arrow_types.specs.TypeOf.{type_of}
use Rattle.arrow_arrays.specs.Any.{layout_of}
use Rattle.arrow_arrays.specs.UnionParts.{IsUnionFault}
use Rattle.arrow_arrays.proofs.FaultLemmas.{failed}
use Rattle.arrow_arrays.proofs.UnionLemmas.{holds_union}
use Rattle.arrow_arrays.proofs.array.union.UnionArray.try_new.Goals as goal

pub new-requires : goal.new-requires
new-requires c = rw c.deref.ensures.value at c.in_ok-check_union.ensures.ok

pub returns-clause-sound : goal.returns-clause-sound
returns-clause-sound c =
    let below : length c.args.types < 2 ^ 64 = omega (arith, c.len.ensures, c.len.type_inv) in
    let holds = rw c.deref.ensures.value at c.in_ok-check_union.ensures.ok in
    holds_union (type_of c.args.data_type) c.args.types c.args.offsets (map layout_of c.args.fields.items) below holds

pub returns-in_err-check_union-clause-fault : goal.returns-in_err-check_union-clause-fault
returns-in_err-check_union-clause-fault c =
    let fault = rw c.deref.ensures.value at c.in_err-check_union.ensures.fault in
    failed c.from_residual.result c.in_err-check_union.field-0.0 (IsUnionFault (type_of c.args.data_type) c.args.types (map layout_of c.args.fields.items) c.args.offsets) c.from_residual.ensures.1 fault
