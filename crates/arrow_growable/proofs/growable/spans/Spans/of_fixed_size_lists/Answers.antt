use Rattle.arrow_growable.proofs.Common.{length, ap, ◌∙◌, rows}
use Rattle.arrow_growable.proofs.KindLemmas.{type_of_fixed_size_lists}
use Rattle.arrow_growable.proofs.SourceLemmas.{fixed_size_lists_lie}
use Rattle.arrow_growable.proofs.growable.spans.Spans.of_fixed_size_lists.Goals as goal

pub returns : goal.returns
returns c =
    record { lies = fixed_size_lists_lie c.args.array.now c.size.result c.len-2.result (type_of_fixed_size_lists _ c.data_type.ensures.kind) c.values.ensures.items c.size.ensures.same c.size.ensures.in_type c.size.ensures.some (c.len-2.ensures ∙ ap (λ l. length (rows l)) c.values.ensures.same) c.values.ensures.whole c.validity.ensures.fits }
