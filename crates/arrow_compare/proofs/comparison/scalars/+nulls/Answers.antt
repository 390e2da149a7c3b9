use Rattle.std.proofs.Common.{arith, ap, refl, true}
use Rattle.arrow_types.specs.Physical.{physical_type_of}
use Rattle.arrow_types.specs.Relation.{eq, is_null, through}
use Rattle.arrow_types.specs.Slot.{Boolean}
use Rattle.arrow_flat.specs.Parts.{boolean_rows}
use Rattle.arrow_arrays.specs.Any.{any_array_type, layout_of}
use Rattle.arrow_arrays.specs.AnyKeys.{key_rows}
use Rattle.arrow_arrays.specs.Layout.{depth}
use Rattle.arrow_compare.specs.Compared.{type_through}
use Rattle.arrow_compare.specs.Filled.{known_or}
use Rattle.arrow_compare.proofs.AnswerLemmas.{taken_by_keys}
use Rattle.arrow_compare.proofs.KindLemmas.{dictionary_values, kind_relation}
use Rattle.arrow_compare.proofs.ThroughLemmas.{own_rows}
use Rattle.arrow_compare.proofs.comparison.scalars.+nulls.Goals as goal

pub null_rows-requires : goal.null_rows-requires
null_rows-requires t c =
    let types = dictionary_values c.args.lhs.now c.values.result.now c.in-Dictionary.array c.in-Dictionary.is c.values.ensures.same c.values.ensures.values in
    (omega (arith, c.decreases, ap depth c.values.ensures.same, ap (λ array. depth (layout_of array)) c.in-Dictionary.is), rw types c.requires.has_equality)

pub returns-in_ok-nulls-in-Dictionary-2-clause-rows : goal.returns-in_ok-nulls-in-Dictionary-2-clause-rows
returns-in_ok-nulls-in-Dictionary-2-clause-rows t c =
    let nulls = c.in_ok-nulls-in-Dictionary.nulls in
    let taken = taken_by_keys (λ s. Boolean (is_null (through s))) (known_or true) (λ x. refl) refl c.args.lhs.now c.values.result.now c.in-Dictionary.array (key_rows c.keys.result.now) (boolean_rows nulls) nulls.arrow_type c.in-Dictionary.is c.values.ensures.same c.keys.ensures.same c.keys.ensures.within c.in_ok-nulls-in-Dictionary.ensures.rows c.in_ok-nulls-in-Dictionary.ensures.array_type in
    rw (← taken, ← c.in_ok-nulls-in-Dictionary-2.ensures.rows) c.known_or.ensures.rows

pub returns-in_default-clause-rows : goal.returns-in_default-clause-rows
returns-in_default-clause-rows t c =
    let has = kind_relation (physical_type_of (type_through (any_array_type c.args.lhs.now))) eq c.requires.has_equality in
    rw (own_rows c.args.lhs.now c.data_type.ensures.kind c.in_default.not-Dictionary _ refl eq has (λ s. Boolean (is_null s))) c.is_null.ensures.rows
