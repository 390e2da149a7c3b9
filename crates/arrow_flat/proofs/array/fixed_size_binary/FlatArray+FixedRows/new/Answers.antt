use Rattle.std.proofs.Common.{◌/◌, ◌%◌, ◌≡◌, ◌∙◌, arith}
use Rattle.arrow_types.specs.TypeOf.{type_of}
use Rattle.arrow_flat.specs.Parts.{FitsRows}
use Rattle.arrow_flat.proofs.FixedLemmas.{length-fixed_slots, some_bytes, whole_rows}
use Rattle.arrow_flat.proofs.array.fixed_size_binary.FlatArray+FixedRows.new.Goals as goal

pub nonzero_div-count : goal.nonzero_div-count
nonzero_div-count c = rw c.fixed_size-size.ensures (some_bytes (type_of c.args.data_type) c.requires.kind.0 c.requires.kind.1)

pub invariant_of-result : goal.invariant_of-result
invariant_of-result c =
    let whole : c.len.result % c.fixed_size-size.result ≡ 0 = rw (c.len.ensures, c.fixed_size-size.ensures) c.requires.bytes.0 in
    record {
      some = rw c.fixed_size-size.ensures (some_bytes (type_of c.args.data_type) c.requires.kind.0 c.requires.kind.1);
      whole = whole_rows c.len.result c.fixed_size-size.result whole ∙ c.len.ensures;
      fits = omega (arith, c.len.ensures, c.len.type_inv);
    }

pub invariant_of-result-2 : goal.invariant_of-result-2
invariant_of-result-2 c =
    let count = c.len.result / c.fixed_size-size.result in
    let fits : FitsRows c.args.validity count = rw (c.len.ensures, c.fixed_size-size.ensures) c.requires.bytes.1 in
    record {
      carried = c.requires.kind.0;
      kind = (c.requires.kind.1, c.fixed_size-size.ensures);
      fits = rw (length-fixed_slots (record { size = c.fixed_size-size.result; count = count; bytes = c.args.values })) fits;
    }
