use Rattle.arrow_growable.proofs.Common.{length, ap, sym, ◌∙◌, length-map, layout_of}
use Rattle.arrow_growable.proofs.KindLemmas.{type_of_structs}
use Rattle.arrow_growable.proofs.SourceLemmas.{from_to, struct_types}
use Rattle.arrow_growable.proofs.growable.bound.StructArrayNestedArray.width.Goals as goal

pub returns-clause-count : goal.returns-clause-count
returns-clause-count c =
    sym (length-map c.values.result.now layout_of) ∙ (ap length c.values.ensures.same ∙ sym (ap length (from_to c.args.self.now.children)))

pub returns-clause-types : goal.returns-clause-types
returns-clause-types c =
    struct_types c.args.self.now.arrow_type c.args.self.now.children (type_of_structs _ c.data_type.ensures.kind) c.values.ensures.fields
