use Rattle.arrow_types.specs.TypeOf.{type_of}
use Rattle.arrow_arrays.specs.Any.{layout_of}
use Rattle.arrow_arrays.specs.AnyOffsetsBuffer.{offsets_of, lists_of}
use Rattle.arrow_arrays.specs.ListParts.{IsListFault}
use Rattle.arrow_arrays.proofs.FaultLemmas.{failed}
use Rattle.arrow_arrays.proofs.array.list.ListArray.try_new.Goals as goal

pub returns-in_err-check_list-clause-fault : goal.returns-in_err-check_list-clause-fault
returns-in_err-check_list-clause-fault c =
    let fault = rw (c.physical_type-physical.ensures, c.len.ensures.count, c.last.ensures, c.deref.ensures) at c.in_err-check_list.ensures.fault in
    failed c.from_residual.result c.in_err-check_list.field-0.0 (IsListFault (lists_of c.args.offsets) (record { arrow_type = type_of c.args.data_type; validity = c.args.validity; offsets = offsets_of c.args.offsets; child = layout_of c.args.values.value })) c.from_residual.ensures.1 fault
