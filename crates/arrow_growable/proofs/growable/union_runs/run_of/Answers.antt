use Rattle.arrow_growable.proofs.Common.{arith}
use Rattle.arrow_growable.proofs.UnionRunLemmas.{is_run, last_is}
use Rattle.arrow_growable.proofs.growable.union_runs.run_of.Goals as goal

pub prove-unreachable-requires : goal.prove-unreachable-requires
prove-unreachable-requires c =
    let run = c.run_length-count.ensures in
    let last = last_is c.args.array.now c.args.row c.index-field.result.0 c.index-field.result.1 c.run_length-count.result c.index.result.0 c.index.result.1 run.some (omega (arith, run.part, c.requires.part)) run.types run.places c.index-field.ensures.child_row c.index.ensures.child_row in
    omega (arith, c.if-prove.true, last)

pub returns-clause-run : goal.returns-clause-run
returns-clause-run c =
    let run = c.run_length-count.ensures in
    is_run c.args.array.now c.args.row c.index-field.result.0 c.index-field.result.1 c.run_length-count.result c.index.result.0 c.index.result.1 run.some (omega (arith, run.part, c.requires.part)) run.types run.places c.index-field.ensures.child_row c.index.ensures.child_row c.index-field.ensures.field c.index.ensures.field c.index.ensures.within c.fields.ensures.fields
