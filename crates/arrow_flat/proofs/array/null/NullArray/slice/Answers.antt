use Rattle.std.proofs.Common.{sym, arith}
use Rattle.std.proofs.lemmas.List.{length-replicate}
use Rattle.arrow_types.specs.Slot.{Null}
use Rattle.arrow_flat.proofs.PartsLemmas.{nulls-sliced}
use Rattle.arrow_flat.proofs.array.null.NullArray.slice.Goals as goal

pub returns-clause-rows : goal.returns-clause-rows
returns-clause-rows c =
    sym (nulls-sliced c.args.self.now.count c.args.offset c.args.len (omega (arith, c.requires, length-replicate c.args.self.now.count Null)))
