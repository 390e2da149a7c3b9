use Rattle.arrow_growable.proofs.Common.{rules, take, length-take-le, All-take, FitsSigned, w8}
use Rattle.arrow_growable.proofs.IdLemmas.{block_is}
use Rattle.arrow_growable.proofs.growable.ids.block_of_id.Goals as goal

pub returns : goal.returns
returns c =
    let types = c.args.types.now in
    block_is c.args.id (take 16 types) (search rules) (All-take (FitsSigned w8) 16 types c.fit.ensures) (length-take-le 16 types c.requires)
