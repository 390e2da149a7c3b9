use Rattle.arrow_growable.proofs.Common.{ap, shape_of}
use Rattle.arrow_growable.proofs.KindLemmas.{type_of_fixed_size_lists}
use Rattle.arrow_growable.proofs.SourceLemmas.{list_types}
use Rattle.arrow_growable.proofs.growable.bound.FixedSizeListArrayNestedArray.width.Goals as goal

pub returns-clause-types : goal.returns-clause-types
returns-clause-types c =
    list_types c.args.self.now.arrow_type _ (ap shape_of (type_of_fixed_size_lists _ c.data_type.ensures.kind)) c.values.ensures.items
