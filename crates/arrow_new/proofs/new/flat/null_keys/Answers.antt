use Rattle.std.proofs.Common.{◌≡◌, ◌∙◌, rules, ap}
use Rattle.arrow_types.specs.ArrowType.{plain, integer}
use Rattle.arrow_types.specs.TypeOf.{type_of}
use Rattle.arrow_types.specs.declared.datatypes.DataType.{Int16, Int32, Int64, UInt8, UInt16, UInt32, UInt64, the_lemmas}
use Rattle.arrow_types.specs.declared.datatypes.IntegerType.TheVariants as key
use Rattle.arrow_arrays.specs.Nulls.{nulls_of}
use Rattle.arrow_new.proofs.new.flat.null_keys.Goals as goal

pub returns-in_ok-null_values-in-Int16-clause-rows : goal.returns-in_ok-null_values-in-Int16-clause-rows
returns-in_ok-null_values-in-Int16-clause-rows c =
    let same : type_of Int16 ≡ plain (integer key.Int16) = search (rules, the_lemmas) in
    c.in_ok-null_values-in-Int16.ensures.rows ∙ ap (λ t. nulls_of t c.args.length) same

pub returns-in_ok-null_values-in-Int32-clause-rows : goal.returns-in_ok-null_values-in-Int32-clause-rows
returns-in_ok-null_values-in-Int32-clause-rows c =
    let same : type_of Int32 ≡ plain (integer key.Int32) = search (rules, the_lemmas) in
    c.in_ok-null_values-in-Int32.ensures.rows ∙ ap (λ t. nulls_of t c.args.length) same

pub returns-in_ok-null_values-in-Int64-clause-rows : goal.returns-in_ok-null_values-in-Int64-clause-rows
returns-in_ok-null_values-in-Int64-clause-rows c =
    let same : type_of Int64 ≡ plain (integer key.Int64) = search (rules, the_lemmas) in
    c.in_ok-null_values-in-Int64.ensures.rows ∙ ap (λ t. nulls_of t c.args.length) same

pub returns-in_ok-null_values-in-UInt8-clause-rows : goal.returns-in_ok-null_values-in-UInt8-clause-rows
returns-in_ok-null_values-in-UInt8-clause-rows c =
    let same : type_of UInt8 ≡ plain (integer key.UInt8) = search (rules, the_lemmas) in
    c.in_ok-null_values-in-UInt8.ensures.rows ∙ ap (λ t. nulls_of t c.args.length) same

pub returns-in_ok-null_values-in-UInt16-clause-rows : goal.returns-in_ok-null_values-in-UInt16-clause-rows
returns-in_ok-null_values-in-UInt16-clause-rows c =
    let same : type_of UInt16 ≡ plain (integer key.UInt16) = search (rules, the_lemmas) in
    c.in_ok-null_values-in-UInt16.ensures.rows ∙ ap (λ t. nulls_of t c.args.length) same

pub returns-in_ok-null_values-in-UInt32-clause-rows : goal.returns-in_ok-null_values-in-UInt32-clause-rows
returns-in_ok-null_values-in-UInt32-clause-rows c =
    let same : type_of UInt32 ≡ plain (integer key.UInt32) = search (rules, the_lemmas) in
    c.in_ok-null_values-in-UInt32.ensures.rows ∙ ap (λ t. nulls_of t c.args.length) same

pub returns-in_ok-null_values-in-UInt64-clause-rows : goal.returns-in_ok-null_values-in-UInt64-clause-rows
returns-in_ok-null_values-in-UInt64-clause-rows c =
    let same : type_of UInt64 ≡ plain (integer key.UInt64) = search (rules, the_lemmas) in
    c.in_ok-null_values-in-UInt64.ensures.rows ∙ ap (λ t. nulls_of t c.args.length) same
