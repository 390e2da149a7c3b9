use Rattle.std.proofs.Common.{◌≡◌, length, w8, arith}
use Rattle.std.proofs.lemmas.Int.{to_z-of_z}
use Rattle.arrow_arrays.proofs.TypeLemmas.{finds_below, finds_given}
use Rattle.arrow_arrays.proofs.array.types.+field_of_id.Goals as goal

pub returns-in-None : goal.returns-in-None
returns-in-None t c =
    let found = rw (to_z-of_z w8 c.args.id c.ranges.id) at c.position_below.ensures in
    let counted : c.len.result ≡ length c.in-Union.fields.items = omega (arith, c.len.ensures, c.in-Union.fields.ok) in
    finds_below c.args.data_type.now c.in-Union.fields c.in-Union.ids c.in-Union.field-2 c.len.result c.args.id c.position_below.result c.in-Union.is c.in-None.is counted found

pub returns-in-Some : goal.returns-in-Some
returns-in-Some t c =
    let found = rw (to_z-of_z w8 c.args.id c.ranges.id) at c.position_among.ensures in
    finds_given c.args.data_type.now c.in-Union.fields c.in-Union.ids c.in-Union.field-2 c.in-Some.ids c.deref.result.now c.args.id c.position_among.result c.requires c.in-Union.is c.in-Some.is c.deref.ensures.value found
