use Rattle.arrow_types.specs.Relation.{eq}
use Rattle.arrow_flat.specs.AnyScalar.{meaning_of}
use Rattle.arrow_arrays.specs.Any.{any_array_rows, any_array_type}
use Rattle.arrow_compare.proofs.KindLemmas.{value_relation}
use Rattle.arrow_compare.proofs.PairLemmas.{same_nulls, same_values}
use Rattle.arrow_compare.proofs.ThroughLemmas.{scalar_compares}
use Rattle.arrow_compare.proofs.comparison.scalars.same_scalar.Goals as goal

pub relate_rows-requires-clause-has_relation : goal.relate_rows-requires-clause-has_relation
relate_rows-requires-clause-has_relation c =
    value_relation eq (any_array_type c.args.lhs.now) (meaning_of c.args.rhs.now) c.in-Some.value.now c.requires.one_type c.in-Some.ensures c.requires.has_equality

pub returns-in-None-clause-rows : goal.returns-in-None-clause-rows
returns-in-None-clause-rows c = rw (c.in-None.ensures, same_nulls (any_array_rows c.args.lhs.now)) c.null_rows.ensures.rows

pub returns-in_ok-equal-in-Some-clause-rows : goal.returns-in_ok-equal-in-Some-clause-rows
returns-in_ok-equal-in-Some-clause-rows c =
    let value = c.in-Some.value.now in
    let has = value_relation eq (any_array_type c.args.lhs.now) (meaning_of c.args.rhs.now) value c.requires.one_type c.in-Some.ensures c.requires.has_equality in
    let values = same_values (any_array_rows c.args.lhs.now) (meaning_of value).1 (scalar_compares value has c.in-Some.ensures.valid) in
    rw (c.in-Some.ensures.slot, values, ← c.in_ok-equal-in-Some.ensures.rows) c.known_or.ensures.rows
