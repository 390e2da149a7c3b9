use Rattle.arrow_growable.proofs.SourceLemmas.{fresh_spans}
use Rattle.arrow_growable.proofs.growable.bound.BoundNested.grown_spans.Goals as goal

pub returns-clause-ok : goal.returns-clause-ok
returns-clause-ok c =
    fresh_spans c.args.self.now c.requires.some c.spans.result c.spans.ensures c.new.result c.new.ensures.ok c.new.ensures.arrays
