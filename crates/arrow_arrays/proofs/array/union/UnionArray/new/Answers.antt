use Rattle.std.proofs.Common.{◌<◌, ◌^◌, map, length, arith}
use Rattle.arrow_types.specs.TypeOf.{type_of}
use Rattle.arrow_arrays.specs.Any.{layout_of}
use Rattle.arrow_arrays.proofs.UnionLemmas.{holds_union}
use Rattle.arrow_arrays.proofs.array.union.UnionArray.new.Goals as goal

pub invariant_of-result : goal.invariant_of-result
invariant_of-result c =
    let below : length c.args.types < 2 ^ 64 = omega (arith, c.len.ensures, c.len.type_inv) in
    holds_union (type_of c.args.data_type) c.args.types c.args.offsets (map layout_of c.args.fields.items) below c.requires
