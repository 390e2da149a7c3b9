use Rattle.std.proofs.Common.{arith, rules, ap, refl}
use Rattle.std.proofs.lemmas.List.{map-id}
use Rattle.arrow_types.specs.Relation.{related, through}
use Rattle.arrow_flat.specs.AnyScalar.{meaning_of}
use Rattle.arrow_flat.specs.Parts.{boolean_rows}
use Rattle.arrow_arrays.specs.Any.{layout_of}
use Rattle.arrow_arrays.specs.AnyKeys.{key_rows}
use Rattle.arrow_arrays.specs.Layout.{depth}
use Rattle.arrow_relate.specs.Related.{relation_of}
use Rattle.arrow_compare.specs.Kinds.{scalar_kind}
use Rattle.arrow_compare.proofs.AnswerLemmas.{taken_by_keys}
use Rattle.arrow_compare.proofs.KindLemmas.{dictionary_values, own_kind}
use Rattle.arrow_compare.proofs.ThroughLemmas.{own_rows}
use Rattle.arrow_compare.proofs.comparison.scalars.+relate.Goals as goal

pub relate_value-requires : goal.relate_value-requires
relate_value-requires t c =
    let types = dictionary_values c.args.lhs.now c.values.result.now c.in-Dictionary.array c.in-Dictionary.is c.values.ensures.same c.values.ensures.values in
    (omega (arith, c.decreases, ap depth c.values.ensures.same, ap (λ array. depth (layout_of array)) c.in-Dictionary.is), rw types (c.requires.one_kind, (c.requires.has_relation, c.requires.valid)))

pub relate_flat-requires-clause-one_kind : goal.relate_flat-requires-clause-one_kind
relate_flat-requires-clause-one_kind t c =
    rw c.requires.one_kind (own_kind c.args.lhs.now c.data_type.ensures.kind c.in_default.not-Dictionary)

pub returns-in_ok-answers-in-Dictionary : goal.returns-in_ok-answers-in-Dictionary
returns-in_ok-answers-in-Dictionary t c =
    let answers = c.in_ok-answers-in-Dictionary.answers in
    let taken = taken_by_keys (λ s. related (relation_of c.args.by) (through s) (meaning_of c.args.value.now).1) (λ s. s) (λ x. refl) refl c.args.lhs.now c.values.result.now c.in-Dictionary.array (key_rows c.keys.result.now) (boolean_rows answers) answers.arrow_type c.in-Dictionary.is c.values.ensures.same c.keys.ensures.same c.keys.ensures.within c.in_ok-answers-in-Dictionary.ensures.rows c.in_ok-answers-in-Dictionary.ensures.array_type in
    record { array_type = search rules; rows = rw (← taken, map-id) c.take_answers.ensures.rows; err = c.take_answers.ensures.err }

pub returns-in_default : goal.returns-in_default
returns-in_default t c =
    let op = relation_of c.args.by in
    rw (own_rows c.args.lhs.now c.data_type.ensures.kind c.in_default.not-Dictionary (scalar_kind c.args.value.now) c.requires.one_kind op c.requires.has_relation (λ s. related op s (meaning_of c.args.value.now).1)) c.relate_flat.ensures
