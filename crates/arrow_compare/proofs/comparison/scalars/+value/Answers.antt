use Rattle.std.proofs.Common.{rules}
use Rattle.arrow_compare.proofs.ThroughLemmas.{entry_through, itself_through, scalar_equality}
use Rattle.arrow_compare.proofs.comparison.scalars.+value.Goals as goal

pub returns-in_ok-value-in-Dictionary : goal.returns-in_ok-value-in-Dictionary
returns-in_ok-value-in-Dictionary t c =
    entry_through c.args.scalar.now c.in-Dictionary.entry c.in_ok-value-in-Dictionary.field-0 c.value_of.result c.in-Dictionary.is c.in_ok-value-in-Dictionary.ensures c.data_type.ensures.sound c.value_of.ensures

pub returns-in_default : goal.returns-in_default
returns-in_default t c =
    itself_through c.args.scalar.now (scalar_equality c.args.scalar.now c.in_default.not-Dictionary) (search rules) c.scalar_has_kind.ensures
