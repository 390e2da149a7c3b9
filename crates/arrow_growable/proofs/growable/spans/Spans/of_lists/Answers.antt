use Rattle.arrow_growable.proofs.Common.{ap, sym, ◌∙◌, lists_of, offsets_of, shape_of}
use Rattle.arrow_growable.proofs.SourceLemmas.{large_lists_lie, list_source, lists_lie}
use Rattle.arrow_growable.proofs.growable.spans.Spans.of_lists.Goals as goal

pub returns-in-Small : goal.returns-in-Small
returns-in-Small c =
    let kind = c.offsets.ensures.width ∙ ap lists_of c.in-Small.is in
    let source = list_source c.args.array.now c.len.result c.offsets.ensures.sound c.offsets.ensures.within c.validity.ensures.fits c.len.ensures.rows c.len.ensures.offsets (ap shape_of kind) c.values.ensures.items in
    record { lies = lists_lie _ c.args.array.now (sym (ap offsets_of c.in-Small.is) ∙ c.offsets.ensures.same) source kind }

pub returns-in-Large : goal.returns-in-Large
returns-in-Large c =
    let kind = c.offsets.ensures.width ∙ ap lists_of c.in-Large.is in
    let source = list_source c.args.array.now c.len.result c.offsets.ensures.sound c.offsets.ensures.within c.validity.ensures.fits c.len.ensures.rows c.len.ensures.offsets (ap shape_of kind) c.values.ensures.items in
    record { lies = large_lists_lie _ c.args.array.now (sym (ap offsets_of c.in-Large.is) ∙ c.offsets.ensures.same) source kind }
