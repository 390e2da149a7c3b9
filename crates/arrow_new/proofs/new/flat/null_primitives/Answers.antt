use Rattle.std.proofs.Common.{◌∙◌, ap, sym}
use Rattle.arrow_types.specs.TypeOf.{type_of}
use Rattle.arrow_arrays.proofs.FitNullLemmas.{is_float, no_float, all_elements}
use Rattle.arrow_new.proofs.new.flat.null_primitives.Goals as goal

pub unreachable-requires : goal.unreachable-requires
unreachable-requires c =
    let told = sym (ap is_float c.requires.1) ∙ no_float (type_of c.args.data_type) c.requires.0 in
    let others = c.in_default in
    all_elements c.args.element told others.not-Int8 others.not-Int16 others.not-Int32 others.not-Int64 others.not-Int128 others.not-Int256 others.not-UInt8 others.not-UInt16 others.not-UInt32 others.not-UInt64 others.not-DaysMs others.not-MonthDayNano
