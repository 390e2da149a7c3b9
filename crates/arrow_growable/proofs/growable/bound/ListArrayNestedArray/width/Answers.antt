use Rattle.arrow_growable.proofs.KindLemmas.{shape_of_lists}
use Rattle.arrow_growable.proofs.SourceLemmas.{list_types}
use Rattle.arrow_growable.proofs.growable.bound.ListArrayNestedArray.width.Goals as goal

pub returns-clause-types : goal.returns-clause-types
returns-clause-types c = list_types c.args.self.now.arrow_type _ (shape_of_lists _ c.data_type.ensures.kind) c.values.ensures.items
