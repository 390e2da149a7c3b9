use Rattle.arrow_growable.proofs.Common.{Some, arith, ap, ◌∙◌, length}
use Rattle.arrow_growable.proofs.UnionRunLemmas.{dense_places, offsets_many, offsets_natural, sparse_places}
use Rattle.arrow_growable.proofs.growable.union_runs.run_length.Goals as goal

pub returns-in-None-clause-places : goal.returns-in-None-clause-places
returns-in-None-clause-places c =
    let p = c.args.array.now in
    sparse_places p.child_rows p.start (length p.types) c.args.row c.same_ids.result c.in-None.ensures.same (omega (arith, c.requires.some, c.requires.part)) (omega (arith, c.same_ids.ensures.part, c.requires.part))

pub risen-requires-clause-covered : goal.risen-requires-clause-covered
risen-requires-clause-covered c =
    let p = c.args.array.now in
    omega (arith, c.requires.part, ap length c.as_slice.ensures, offsets_many p.child_rows c.in-Some.offsets.now p.start (length p.types) p.children c.in-Some.ensures.same c.fields.ensures.spans)

pub risen-requires-clause-natural : goal.risen-requires-clause-natural
risen-requires-clause-natural c =
    offsets_natural c.args.array.now.child_rows c.as_slice.result.now (ap Some c.as_slice.ensures ∙ c.in-Some.ensures.same)

pub returns-in-Some-clause-places : goal.returns-in-Some-clause-places
returns-in-Some-clause-places c =
    let p = c.args.array.now in
    let many = offsets_many p.child_rows c.in-Some.offsets.now p.start (length p.types) p.children c.in-Some.ensures.same c.fields.ensures.spans in
    dense_places p.child_rows c.as_slice.result.now p.start (length p.types) c.args.row c.risen.result (ap Some c.as_slice.ensures ∙ c.in-Some.ensures.same) (omega (arith, c.requires.some, c.requires.part, many, ap length c.as_slice.ensures)) c.risen.ensures.risen
